use Rattle.bm_due.proofs.Standings.{begins-entry, ends-entry, returns-entry, stays-entry, steps-entry}
use Rattle.bm_due.proofs.laws.entry_law.Goals as goal

pub returns-clause-steps : goal.returns-clause-steps
returns-clause-steps c = steps-entry

pub returns-clause-stays : goal.returns-clause-stays
returns-clause-stays c = stays-entry

pub returns-clause-begins : goal.returns-clause-begins
returns-clause-begins c = begins-entry

pub returns-clause-returns : goal.returns-clause-returns
returns-clause-returns c = returns-entry

pub returns-clause-ends : goal.returns-clause-ends
returns-clause-ends c = ends-entry
