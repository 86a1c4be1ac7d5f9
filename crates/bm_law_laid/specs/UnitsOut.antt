-- The units that are out of the stock, as an order takes and returns them. (Pages are this project's own.)
use Rattle.std.specs.Prelude.{◌≡◌, ℕ, ◌*◌, ◌/◌, true, if◌then◌else◌, IsSome, length}
use Rattle.bm_page.specs.Stock.{Stock, class_at, stocked_at}

-- once, if unit u is out
abbrev pub times_out : ℕ → Stock → ℕ
times_out u pool = if (stocked_at pool.units u).out then 1 else 0

-- A stock as it is from the outset on: each page has 256 units, and a unit is out only where its page has a class.
pub record IsSettled (pool : Stock) : Type 0 where
  pub unit_count : length pool.units ≡ 256 * length pool.classes
  pub placed :
      (u : ℕ) → (stocked_at pool.units u).out ≡ true → IsSome (class_at pool.classes (u / 256))
