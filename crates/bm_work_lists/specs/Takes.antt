-- Takes off Free.
use Rattle.std.specs.Prelude.{◌≡◌, ℕ, Option, Some, None, List, [], ◌∷◌}
use Rattle.bm_journal.specs.declared.entry.Entry.{Entry}
use Rattle.bm_journal.specs.declared.entry.Entry.TheVariants as entry
use Rattle.bm_law_work.specs.WorkPhrases.{Moved, take_of, empty_take}

-- the units that these entries take off Free, in order
abbrev pub popped : List Entry → List ℕ
popped [] = []
popped (entry.Pop c u ∷ es) = u ∷ popped es
popped (e ∷ es) = popped es

-- one take, whose count names this number, or which finds Free empty
abbrev pub IsTake : ℕ → Option ℕ → List Entry → Type 0
IsTake c (Some k) own = (x : Moved) × (x.count ≡ k) × (own ≡ take_of c x)
IsTake c None own = (a : ℕ) × (own ≡ empty_take c a)
