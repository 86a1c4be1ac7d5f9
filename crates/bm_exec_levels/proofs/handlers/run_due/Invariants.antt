use Rattle.std.specs.Prelude.{length}
use Rattle.bm_exec_levels.specs.Ready.{left_of}
use Rattle.bm_exec_levels.specs.AtTie.{TiedAt}
use Rattle.bm_exec_levels.proofs.Going.{Going}
use Rattle.bm_exec_levels.proofs.handlers.run_due.Given as goal

abbrev pub invariant-loop-due : goal.invariant-loop-due
invariant-loop-due g l = record { going : Going g.W.Knows g.L.Rank.number l.program l.initial.own l.own; tied : TiedAt g.W.Knows g.B.Since.since g.B.Since.start l.own }

abbrev pub decreases-loop-due : goal.decreases-loop-due
decreases-loop-due g l = length (left_of l.own)
