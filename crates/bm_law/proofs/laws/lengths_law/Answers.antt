use Rattle.bm_law.proofs.Lengths.{tells-opening, tells-effect}
use Rattle.bm_law.proofs.laws.lengths_law.Goals as goal

pub returns-clause-opening : goal.returns-clause-opening
returns-clause-opening r c = tells-opening

pub returns-clause-entry : goal.returns-clause-entry
returns-clause-entry r c = tells-effect
