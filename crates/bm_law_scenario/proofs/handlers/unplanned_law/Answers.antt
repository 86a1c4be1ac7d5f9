use Rattle.bm_law_scenario.proofs.Unplanned.{done-ordinary, unplanned-at, unplanned-stands}
use Rattle.bm_law_scenario.proofs.handlers.unplanned_law.Goals as goal

pub returns-clause-alone : goal.returns-clause-alone
returns-clause-alone c = unplanned-at

pub returns-clause-stands : goal.returns-clause-stands
returns-clause-stands c = unplanned-stands

pub returns-clause-done : goal.returns-clause-done
returns-clause-done c = done-ordinary
