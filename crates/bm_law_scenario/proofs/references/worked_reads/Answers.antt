use Rattle.bm_law_scenario.proofs.WorkedShared.{reads-first, reads_none-wrong, reads_other-wrong, reads_second-wrong}
use Rattle.bm_law_scenario.proofs.references.worked_reads.Goals as goal

pub returns-clause-read : goal.returns-clause-read
returns-clause-read c = reads-first

pub returns-clause-other_place : goal.returns-clause-other_place
returns-clause-other_place c = reads_second-wrong

pub returns-clause-other_field : goal.returns-clause-other_field
returns-clause-other_field c = reads_other-wrong

pub returns-clause-through_none : goal.returns-clause-through_none
returns-clause-through_none c = reads_none-wrong
