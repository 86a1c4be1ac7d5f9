use Rattle.bm_law_laid.proofs.LivesOnce.{lives-once, shared-lives}
use Rattle.bm_law_laid.proofs.laws.lives_given_law.Goals as goal

pub returns-clause-part : goal.returns-clause-part
returns-clause-part c = lives-once

pub returns-clause-all : goal.returns-clause-all
returns-clause-all c = shared-lives
