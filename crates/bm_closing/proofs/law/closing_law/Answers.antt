use Rattle.bm_closing.proofs.Others.{living-leaves, side-leaves}
use Rattle.bm_closing.proofs.law.closing_law.Goals as goal

pub returns-clause-side : goal.returns-clause-side
returns-clause-side c = side-leaves

pub returns-clause-living : goal.returns-clause-living
returns-clause-living c = living-leaves
