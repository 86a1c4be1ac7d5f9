use Rattle.bm_law.proofs.Folds.{told-step}
use Rattle.bm_law.proofs.Once.{once-come}
use Rattle.bm_law.proofs.laws.step_law.Goals as goal

pub returns-clause-told : goal.returns-clause-told
returns-clause-told r c = told-step

pub returns-clause-once : goal.returns-clause-once
returns-clause-once r c = once-come
