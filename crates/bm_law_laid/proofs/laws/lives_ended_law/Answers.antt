use Rattle.bm_law_laid.proofs.EndsOnce.{ends-once, shared-ends}
use Rattle.bm_law_laid.proofs.laws.lives_ended_law.Goals as goal

pub returns-clause-part : goal.returns-clause-part
returns-clause-part c = ends-once

pub returns-clause-all : goal.returns-clause-all
returns-clause-all c = shared-ends
