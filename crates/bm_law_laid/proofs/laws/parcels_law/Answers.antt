use Rattle.bm_law_laid.proofs.ParcelsBalance.{parcels-balance, shared-parcels}
use Rattle.bm_law_laid.proofs.laws.parcels_law.Goals as goal

pub returns-clause-part : goal.returns-clause-part
returns-clause-part c = parcels-balance

pub returns-clause-all : goal.returns-clause-all
returns-clause-all c = shared-parcels
