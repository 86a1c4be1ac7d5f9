-- The parts that the code prints a line of the heading, the histories and the totals from.
use Rattle.std.specs.Prelude.{List, [], ◌∷◌, ◌++◌, decimal}
use Rattle.bm_journal.specs.declared.form.Part.{Part}
use Rattle.bm_journal.specs.declared.form.Part.TheVariants as part
use Rattle.bm_journal.specs.EntryText.{Words, size, object}

-- the words of a part
abbrev pub part_words : Part → Words
part_words (part.Text word) = word.now ∷ []
part_words (part.Size class) = size class ∷ []
part_words (part.Number n) = decimal n ∷ []
part_words (part.Long n) = decimal n ∷ []
part_words (part.Object o) = object o
part_words part.Nothing = []

-- the words of parts, one after the other
abbrev pub parts_words : List Part → Words
parts_words [] = []
parts_words (p ∷ []) = part_words p
parts_words (p ∷ q ∷ ps) = part_words p ++ parts_words (q ∷ ps)
