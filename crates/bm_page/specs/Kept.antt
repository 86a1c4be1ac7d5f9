-- What a pool keeps true of its fields, and where a fetch still has to look.
use Rattle.std.specs.Prelude.{ℕ, ◌+◌, ◌*◌, ◌/◌, ◌%◌, ◌<◌, ◌≤◌, ◌≡◌, true, false, List, Option, None, Some, length, slice_index, IsSome}
use Rattle.std.specs.Option.{option_map_or}
use Rattle.bm_class.specs.Sizes.{units_per_page}
use Rattle.bm_page.specs.declared.units.Stocked.{Stocked}
use Rattle.bm_page.specs.declared.pool.Walk.{Walk}
use Rattle.bm_page.specs.Stock.{Stock, class_at, stocked_at, is_stock_of}

-- How many units a page is carved into: none while it has no class.
abbrev pub units_on : List (Option ℕ) → ℕ → ℕ
units_on classes page = option_map_or units_per_page (class_at classes page) 0

-- The fields of a pool: the pages' classes, for each page a position below which each unit is out,
-- and what is known of each unit. A unit is out only where its page is carved into so many units,
-- and a page has a class only while a unit of it is out.
pub record IsPool (classes : List (Option ℕ)) (lows : List ℕ) (units : List Stocked) : Type 0 where
  pub pages : length classes ≤ 256
  pub low_count : length lows ≡ length classes
  pub unit_count : length units ≡ 256 * length classes
  pub placed : (u : ℕ) → (stocked_at units u).out ≡ true → u % 256 < units_on classes (u / 256)
  pub used :
      (p : ℕ) → IsSome (class_at classes p)
      → (u : ℕ) × (u / 256 ≡ p) × ((stocked_at units u).out ≡ true)
  pub low : (p k : ℕ) → k < slice_index lows p → (stocked_at units (256 * p + k)).out ≡ true
  pub low_limit : (p : ℕ) → slice_index lows p ≤ 256

-- The lowest unit that isn't out among the first positions of a page.
pub record IsFirstOn (units : List Stocked) (page positions number : ℕ) : Type 0 where
  pub inside : number < length units
  pub from : 256 * page ≤ number
  pub until : number < 256 * page + positions
  pub stock : (stocked_at units number).out ≡ false
  pub least : (k : ℕ) → 256 * page + k < number → (stocked_at units (256 * page + k)).out ≡ true

-- The least-numbered unit in stock of a class on a page.
pub record IsLeastOn (class : ℕ) (pool : Stock) (page number : ℕ) : Type 0 where
  pub inside : number < length pool.units
  pub on_page : number / 256 ≡ page
  pub stock : is_stock_of class pool number ≡ true
  pub least : (u : ℕ) → u / 256 ≡ page → u < number → is_stock_of class pool u ≡ false

-- A page without a class, whose first unit is in stock.
pub record IsFresh (pool : Stock) (page : ℕ) : Type 0 where
  pub small : page < 256
  pub inside : page < length pool.classes
  pub room : 256 * page < length pool.units
  pub none : class_at pool.classes page ≡ None
  pub stock : (stocked_at pool.units (256 * page)).out ≡ false

-- A unit that can be given as one of a class: it is in stock, and its page has the class or none.
pub record CanGive (class : ℕ) (pool : Stock) (number : ℕ) : Type 0 where
  pub inside : number < length pool.units
  pub stock : (stocked_at pool.units number).out ≡ false
  pub position : number % 256 < units_per_page class
  pub page : (c : ℕ) → class_at pool.classes (number / 256) ≡ Some c → c ≡ class

-- Where a fetch still has to look: units in stock of the class stand only on the pages from the
-- first of these numbers to below the second, and each page below the third has a class.
pub record IsWalk (class : ℕ) (pool : Stock) (walk : Walk) : Type 0 where
  pub small : walk.until ≤ 256
  pub within : walk.until ≤ length pool.classes
  pub from : (u : ℕ) → is_stock_of class pool u ≡ true → walk.from ≤ u / 256
  pub until : (u : ℕ) → is_stock_of class pool u ≡ true → u / 256 < walk.until
  pub fresh : (p : ℕ) → p < walk.fresh → IsSome (class_at pool.classes p)
