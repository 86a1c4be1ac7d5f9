use Rattle.std.proofs.Common.{◌≡◌, ◌^◌, Some, take}
use Rattle.bm_journal_reader.specs.Pieces.{texts}
use Rattle.bm_law_text.specs.Parts.{numbers}
use Rattle.bm_journal_reader.proofs.lists.unit_numbers.Given as goal

abbrev pub invariant-loop-word : goal.invariant-loop-word
invariant-loop-word l = numbers (2 ^ 16) (texts (take l.word-index l.words)) ≡ Some l.units.items
