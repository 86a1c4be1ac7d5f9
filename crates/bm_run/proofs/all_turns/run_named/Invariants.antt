use Rattle.std.proofs.Common.{drop}
use Rattle.bm_run.specs.Between.{Between}
use Rattle.bm_run.proofs.all_turns.run_named.Given as goal

abbrev pub invariant-loop-turn : goal.invariant-loop-turn
invariant-loop-turn l = Between l.program l.turns (drop l.turn-index l.turns) l.seats.items l.world
