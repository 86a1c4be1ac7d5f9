use Rattle.std.proofs.Common.{refl}
use Rattle.std.specs.Fmt.{digits}
use Rattle.bm_class.specs.Sizes.{size_of_class}
use Rattle.bm_journal.specs.Line.{line}
use Rattle.bm_journal.specs.JournalText.{journal_text, totals_text}
use Rattle.bm_law_scenario.proofs.OneObject.{one_object-lawful}
use Rattle.bm_law_scenario.proofs.NoObject.{no_object-lawful}
use Rattle.bm_law_scenario.proofs.ThreeCalls.{three_calls-lawful}
use Rattle.bm_law_scenario.proofs.worked_journal.worked_journals.Goals as goal

pub returns-clause-one_object : goal.returns-clause-one_object
returns-clause-one_object c = one_object-lawful

pub returns-clause-no_object : goal.returns-clause-no_object
returns-clause-no_object c = no_object-lawful

pub returns-clause-three_calls : goal.returns-clause-three_calls
returns-clause-three_calls c = three_calls-lawful

pub returns-clause-text : goal.returns-clause-text
unfolding journal_text totals_text line size_of_class digits
returns-clause-text c = refl
