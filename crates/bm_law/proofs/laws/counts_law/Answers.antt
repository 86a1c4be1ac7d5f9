use Rattle.bm_law.proofs.Waiting.{counts-effect, pops-kept, pushes-kept}
use Rattle.bm_law.proofs.laws.counts_law.Goals as goal

pub returns-clause-entry : goal.returns-clause-entry
returns-clause-entry r c = counts-effect

pub returns-clause-handlers : goal.returns-clause-handlers
returns-clause-handlers r c = λ l k s t h a b. (pops-kept l k s t h a b, pushes-kept l k s t h a b)
