-- Worked entries that take units from the stock.
use Rattle.std.specs.Prelude.{ℕ, List, [], ◌∷◌}
use Rattle.bm_journal.specs.declared.units.Units.TheVariants.{Whole}
use Rattle.bm_journal.specs.declared.entry.Entry.{Entry}
use Rattle.bm_journal.specs.declared.entry.Entry.TheVariants as entry

-- A cache of class 10, whose units fill pages of their own, begins with the unit of the first page, and a refill wants three.
abbrev pub fetched_by : List ℕ → List Entry
fetched_by units = entry.Fill 10 (Whole (0 ∷ [])) ∷ entry.Fetch 10 3 (Whole units) ∷ []

-- the same, where another cache fetches the unit of the next page behind it
abbrev pub fetched_later : List Entry
fetched_later =
    entry.Fill 10 (Whole (0 ∷ [])) ∷ entry.Fetch 10 3 (Whole [])
    ∷ entry.Fetch 10 1 (Whole (256 ∷ [])) ∷ []

-- a cache of the least class begins with these
abbrev pub filled_with : List ℕ → List Entry
filled_with units = entry.Fill 0 (Whole units) ∷ []
