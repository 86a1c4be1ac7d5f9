use Rattle.bm_law_scenario.proofs.Periods.{plain-ends, left-wrong, number-wrong, domain-wrong, twice-wrong}
use Rattle.bm_law_scenario.proofs.deferred.worked_periods.Goals as goal

pub returns-clause-ends : goal.returns-clause-ends
returns-clause-ends c = plain-ends

pub returns-clause-left : goal.returns-clause-left
returns-clause-left c = left-wrong

pub returns-clause-number : goal.returns-clause-number
returns-clause-number c = number-wrong

pub returns-clause-domain : goal.returns-clause-domain
returns-clause-domain c = domain-wrong

pub returns-clause-twice : goal.returns-clause-twice
returns-clause-twice c = twice-wrong
