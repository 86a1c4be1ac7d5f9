-- The pieces of a text: its lines, each without its line feed, and behind the last line feed the end. The words of a line.
use Rattle.std.specs.Prelude.{ℕ, ◌==◌, List}
use Rattle.std.specs.List.{slice_split}
use Rattle.bm_journal.specs.EntryText.{Words}

abbrev pub pieces : List ℕ → List (List ℕ)
pieces bytes = slice_split (λ b. b == 10) bytes

abbrev pub words : List ℕ → Words
words piece = slice_split (λ b. b == 32) piece
