use Rattle.bm_law_laid.proofs.ReferencesBalance.{references-balance, shared-references}
use Rattle.bm_law_laid.proofs.laws.references_law.Goals as goal

pub returns-clause-part : goal.returns-clause-part
returns-clause-part c = references-balance

pub returns-clause-all : goal.returns-clause-all
returns-clause-all c = shared-references
