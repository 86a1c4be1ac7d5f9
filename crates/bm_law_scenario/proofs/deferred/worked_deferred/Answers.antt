use Rattle.std.proofs.Common.{refl}
use Rattle.std.specs.Fmt.{digits}
use Rattle.bm_class.specs.Sizes.{size_of_class}
use Rattle.bm_journal.specs.Line.{line}
use Rattle.bm_journal.specs.JournalText.{journal_text, totals_text}
use Rattle.bm_law_scenario.proofs.OneBlock.{one_block-lawful}
use Rattle.bm_law_scenario.proofs.NoBlock.{no_block-lawful}
use Rattle.bm_law_scenario.proofs.deferred.worked_deferred.Goals as goal

pub returns-clause-one_block : goal.returns-clause-one_block
returns-clause-one_block c = one_block-lawful

pub returns-clause-no_block : goal.returns-clause-no_block
returns-clause-no_block c = no_block-lawful

pub returns-clause-text : goal.returns-clause-text
unfolding journal_text totals_text line size_of_class digits
returns-clause-text c = refl
