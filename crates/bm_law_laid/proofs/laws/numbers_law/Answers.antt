use Rattle.bm_law_laid.proofs.NumbersOnce.{numbers-once, shared-numbers}
use Rattle.bm_law_laid.proofs.laws.numbers_law.Goals as goal

pub returns-clause-part : goal.returns-clause-part
returns-clause-part c = numbers-once

pub returns-clause-all : goal.returns-clause-all
returns-clause-all c = shared-numbers
