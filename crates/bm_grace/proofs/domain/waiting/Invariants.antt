use Rattle.bm_grace.specs.Answers.{ArePassed}
use Rattle.bm_grace.proofs.domain.waiting.Given as goal

abbrev pub invariant-loop-i : goal.invariant-loop-i
invariant-loop-i l = ArePassed l.i l.first l.later
