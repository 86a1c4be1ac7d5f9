-- The entry that a line of a log says.
use Rattle.std.specs.Prelude.{ℕ, List, [], ◌∷◌, Option, Some, None}
use Rattle.bm_journal.specs.declared.entry.Entry.{Entry}
use Rattle.bm_journal.specs.EntryText.{Words}
use Rattle.bm_law_text.specs.Entries.{entry_of}
use Rattle.bm_law_text.specs.Parts.{after, number}
use Rattle.bm_law_text.specs.Pieces.{words}

-- a level, and behind it the words of an entry
abbrev pub levelled : Words → Option (ℕ × Entry)
levelled [] = None
levelled (w ∷ ws) = after (number 4 w) (λ level. after (entry_of ws) (λ entry. Some (level, entry)))

abbrev pub entry_said : List ℕ → Option (ℕ × Entry)
entry_said line = levelled (words line)
