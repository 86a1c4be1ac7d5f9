use Rattle.bm_law.proofs.Stands.{stands-effect}
use Rattle.bm_law.proofs.Once.{once-effect, gone-fresh}
use Rattle.bm_law.proofs.laws.units_law.Goals as goal

pub returns-clause-count : goal.returns-clause-count
returns-clause-count c = stands-effect

pub returns-clause-once : goal.returns-clause-once
returns-clause-once c = once-effect

pub returns-clause-gone : goal.returns-clause-gone
returns-clause-gone c = gone-fresh
