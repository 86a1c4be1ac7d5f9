use Rattle.bm_law_scenario.proofs.HandedOver.{handed_over-lawful, puts-runs}
use Rattle.bm_law_scenario.proofs.WrongSlots.{kept-wrong, null-wrong, undeclared-wrong, unheld-wrong}
use Rattle.bm_law_scenario.proofs.slots.worked_slots.Goals as goal

pub returns-clause-handed_over : goal.returns-clause-handed_over
returns-clause-handed_over c = handed_over-lawful

pub returns-clause-puts : goal.returns-clause-puts
returns-clause-puts c = puts-runs

pub returns-clause-unheld : goal.returns-clause-unheld
returns-clause-unheld c = unheld-wrong

pub returns-clause-null : goal.returns-clause-null
returns-clause-null c = null-wrong

pub returns-clause-kept : goal.returns-clause-kept
returns-clause-kept c = kept-wrong

pub returns-clause-undeclared : goal.returns-clause-undeclared
returns-clause-undeclared c = undeclared-wrong
