use Rattle.bm_plan.proofs.Positions.{asked-none, asks-none, at-outset, begins-here, ends-here, returns-here, stays-here, steps-here, whole}
use Rattle.bm_plan.proofs.laws.position_law.Goals as goal

pub returns-clause-outset : goal.returns-clause-outset
returns-clause-outset c = at-outset

pub returns-clause-asks : goal.returns-clause-asks
returns-clause-asks c = asks-none

pub returns-clause-asked : goal.returns-clause-asked
returns-clause-asked c = asked-none

pub returns-clause-begins : goal.returns-clause-begins
returns-clause-begins c = begins-here

pub returns-clause-steps : goal.returns-clause-steps
returns-clause-steps c = steps-here

pub returns-clause-stays : goal.returns-clause-stays
returns-clause-stays c = stays-here

pub returns-clause-returns : goal.returns-clause-returns
returns-clause-returns c = returns-here

pub returns-clause-ends : goal.returns-clause-ends
returns-clause-ends c = ends-here

pub returns-clause-whole : goal.returns-clause-whole
returns-clause-whole c = whole
