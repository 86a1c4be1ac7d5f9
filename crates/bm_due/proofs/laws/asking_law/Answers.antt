use Rattle.bm_due.proofs.Askings.{asks-above, ends-ordinary, runs-from, runs-join, runs-ordinary}
use Rattle.std.proofs.Common.{◌∙◌, ap, sym, Some}
use Rattle.bm_due.specs.Standing.{Standing, standing_after}
use Rattle.bm_due.proofs.Made.{made}
use Rattle.bm_due.proofs.laws.asking_law.Goals as goal

pub returns-clause-runs : goal.returns-clause-runs
returns-clause-runs c = runs-ordinary

pub returns-clause-ends : goal.returns-clause-ends
returns-clause-ends c = ends-ordinary

pub returns-clause-stretches : goal.returns-clause-stretches
returns-clause-stretches d names ended l a b c one two r q = runs-join r two c q

pub returns-clause-from : goal.returns-clause-from
returns-clause-from c names ended l a b log r = runs-from r

pub returns-clause-above : goal.returns-clause-above
returns-clause-above c names ended l a b log r = asks-above r

pub returns-clause-only : goal.returns-clause-only
returns-clause-only d names ended a log s t no_end e h r q =
    made names ended a log t no_end (ap (λ (z : Standing). standing_after names log (Some z)) (sym e) ∙ h) r q
