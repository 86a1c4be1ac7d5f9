use Rattle.std.proofs.Common.{ℕ, List, []}
use Rattle.bm_run.specs.Between.{Between}
use Rattle.bm_run.specs.NextTurn.{seats_weight}
use Rattle.bm_run.proofs.all_turns.run_lowest.Given as goal

abbrev pub invariant-loop-processor : goal.invariant-loop-processor
invariant-loop-processor l = record {
  some : (turns : List ℕ) × Between l.program turns [] l.seats.items l.world;
  each : (turns : List ℕ) → Between l.program turns [] l.initial.seats.items l.initial.world → Between l.program turns [] l.seats.items l.world;
}

abbrev pub decreases-loop-processor : goal.decreases-loop-processor
decreases-loop-processor l = seats_weight l.program.scenario.now l.seats.items
