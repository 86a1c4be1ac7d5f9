use Rattle.std.proofs.Common.{length}
use Rattle.bm_run.proofs.NextLines.{Searched}
use Rattle.bm_run.proofs.turns.next_script.Given as goal

abbrev pub invariant-loop-remaining : goal.invariant-loop-remaining
invariant-loop-remaining l = record { searched : Searched l.scenario l.initial.remaining l.remaining }

abbrev pub decreases-loop-remaining : goal.decreases-loop-remaining
decreases-loop-remaining l = length l.remaining.lines.now
