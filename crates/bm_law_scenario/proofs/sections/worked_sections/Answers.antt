use Rattle.bm_law_scenario.proofs.WorkedSlept.{asleep-lawful, awake-lawful}
use Rattle.bm_law_scenario.proofs.sections.worked_sections.Goals as goal

pub returns-clause-asleep : goal.returns-clause-asleep
returns-clause-asleep c = asleep-lawful

pub returns-clause-awake : goal.returns-clause-awake
returns-clause-awake c = awake-lawful
