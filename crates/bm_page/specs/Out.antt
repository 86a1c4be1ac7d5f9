-- Units that are out of a pool, as their holders know of them.
use Rattle.std.specs.Prelude.{ℕ, ◌/◌, ◌≡◌, ◌≢◌, true, false, List, Some, All, AllPairs, count_by}
use Rattle.bm_page.specs.declared.units.Stocked.{Stocked}
use Rattle.bm_page.specs.UnitState.{UnitState}
use Rattle.bm_page.specs.Stock.{Stock, class_at, stocked_at}

-- A unit that is out of a pool: it is out there, and its page has the unit's class.
pub record IsOut (pool : Stock) (unit : UnitState) : Type 0 where
  pub out : (stocked_at pool.units unit.number).out ≡ true
  pub class : class_at pool.classes (unit.number / 256) ≡ Some unit.class

-- Units that are out of a pool, no two of which have one number.
pub record AreOut (pool : Stock) (units : List UnitState) : Type 0 where
  pub each : All (IsOut pool) units
  pub distinct : AllPairs (λ (a b : UnitState). a.number ≢ b.number) units

-- How many units are out.
abbrev pub count_out : List Stocked → ℕ
count_out units = count_by (λ unit. unit.out) units

-- A unit that was in stock, as it is given: of the class, with its lives so far and its seal as the
-- stock had them, and without a processor that gave it.
pub record IsFromStock (class : ℕ) (pool : Stock) (unit : UnitState) : Type 0 where
  pub stock : (stocked_at pool.units unit.number).out ≡ false
  pub of_class : unit.class ≡ class
  pub home : unit.home ≡ 0
  pub life : unit.life ≡ (stocked_at pool.units unit.number).life
  pub seal : unit.seal ≡ (stocked_at pool.units unit.number).seal
