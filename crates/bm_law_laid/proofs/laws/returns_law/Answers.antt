use Rattle.bm_law_laid.proofs.ReturnsBalance.{returns-balance, shared-returns}
use Rattle.bm_law_laid.proofs.Settled.{settled-fresh}
use Rattle.bm_law_laid.proofs.laws.returns_law.Goals as goal

pub returns-clause-part : goal.returns-clause-part
returns-clause-part c = returns-balance

pub returns-clause-all : goal.returns-clause-all
returns-clause-all c = shared-returns

pub returns-clause-outset : goal.returns-clause-outset
returns-clause-outset c = settled-fresh
