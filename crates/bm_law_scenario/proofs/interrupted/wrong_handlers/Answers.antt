use Rattle.bm_law_scenario.proofs.InterruptedLog.{uninterrupted-wrong, unplanned-wrong}
use Rattle.bm_law_scenario.proofs.WorkedHandled.{asks_too-wrong, back_as_other-wrong, encloses_inside-wrong, keeps_it-wrong, no_section-wrong, plain_script-wrong}
use Rattle.bm_law_scenario.proofs.interrupted.wrong_handlers.Goals as goal

pub returns-clause-keeps : goal.returns-clause-keeps
returns-clause-keeps c = keeps_it-wrong

pub returns-clause-asks : goal.returns-clause-asks
returns-clause-asks c = asks_too-wrong

pub returns-clause-encloses : goal.returns-clause-encloses
returns-clause-encloses c = encloses_inside-wrong

pub returns-clause-bare : goal.returns-clause-bare
returns-clause-bare c = no_section-wrong

pub returns-clause-plain : goal.returns-clause-plain
returns-clause-plain c = plain_script-wrong

pub returns-clause-back : goal.returns-clause-back
returns-clause-back c = back_as_other-wrong

pub returns-clause-unplanned : goal.returns-clause-unplanned
returns-clause-unplanned c = unplanned-wrong

pub returns-clause-left_out : goal.returns-clause-left_out
returns-clause-left_out c = uninterrupted-wrong
