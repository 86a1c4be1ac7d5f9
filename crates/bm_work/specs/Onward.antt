-- How tests change while the side's rights do.
use Rattle.std.specs.Prelude.{◌≡◌, ℕ, true, Option, List}
use Rattle.bm_law.specs.Stands.{times}
use Rattle.bm_page.specs.declared.units.Seal.{Seal}
use Rattle.bm_cache.specs.Tests.{Tests}

-- What was true of a unit that isn't among these, by its number, is true.
abbrev pub Onward : List ℕ → Tests → Tests → Type 0
Onward gone before now =
    (k n life : ℕ) (seal : Option Seal) → times n gone ≡ 0 → before k n life seal ≡ true
    → now k n life seal ≡ true
