use Rattle.std.proofs.Common.{◌≡◌, Some, take}
use Rattle.bm_journal_reader.specs.Pieces.{texts}
use Rattle.bm_law_text.specs.Parts.{names}
use Rattle.bm_journal_reader.proofs.lists.names.Given as goal

abbrev pub invariant-loop-word : goal.invariant-loop-word
invariant-loop-word l = names (texts (take l.word-index l.words)) ≡ Some l.names.items
