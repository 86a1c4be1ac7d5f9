use Rattle.std.proofs.Common.{◌≡◌, true, take}
use Rattle.bm_journal.specs.WellFormed.{all_differ}
use Rattle.bm_journal_reader.specs.Pieces.{texts}
use Rattle.bm_journal_reader.proofs.draft.differ.Given as goal

abbrev pub invariant-loop-word : goal.invariant-loop-word
invariant-loop-word l = (l.owners ≡ texts (take l.word-index l.words)) × (all_differ (texts (take l.word-index l.words)) ≡ true)
