-- How many units a list names.
use Rattle.std.specs.Prelude.{ℕ, length}
use Rattle.bm_journal.specs.declared.units.Units.{Units}
use Rattle.bm_journal.specs.declared.units.Units.TheVariants.{Whole, Counted}

-- the length of the list, also where that number alone is kept
abbrev pub unit_count : Units → ℕ
unit_count (Whole us) = length us
unit_count (Counted n) = n
