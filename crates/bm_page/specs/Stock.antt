-- The stock: which class each page has, and for each unit whether it is out, its lives so far and
-- its seal. Pages, their carving and the order of a fetch are this project's own rules.
use Rattle.std.specs.Prelude.{ℕ, zero, suc, ◌+◌, ◌*◌, ◌/◌, ◌%◌, ◌==◌, ◌&&◌, nat_lt, not, Bool, true, false, if◌then◌else◌, List, [], ◌∷◌, Option, Some, None, length, slice_index_or, slice_set, slice_range, is_none}
use Rattle.std.specs.List.{list_any}
use Rattle.std.specs.Option.{option_map_or}
use Rattle.bm_class.specs.Sizes.{units_per_page}
use Rattle.bm_page.specs.declared.units.Stocked.{Stocked}
use Rattle.bm_page.specs.UnitState.{UnitState, stocked_of}

-- The two maps: by page its class, if it has one, and by unit number what the stock knows of it.
-- A unit's number is 256 times its page, and its position on the page.
pub record Stock : Type 0 where
  pub classes : List (Option ℕ)
  pub units : List Stocked

-- The class of a page, if it has one.
abbrev pub class_at : List (Option ℕ) → ℕ → Option ℕ
class_at classes page = slice_index_or classes page None

-- A unit that never lived, in stock.
abbrev pub unborn : Stocked
unborn = record { out = false; life = 0; seal = None }

-- What the stock knows of a unit.
abbrev pub stocked_at : List Stocked → ℕ → Stocked
stocked_at units number = slice_index_or units number unborn

-- Whether a page has this class.
abbrev pub is_of : ℕ → Option ℕ → Bool
is_of class None = false
is_of class (Some other) = other == class

-- Whether a unit is in stock and of a class: its page has the class and is carved into enough
-- units, and the unit isn't out.
unfoldable pub is_stock_of : ℕ → Stock → ℕ → Bool
is_stock_of class pool number =
    is_of class (class_at pool.classes (number / 256))
    && (nat_lt (number % 256) (units_per_page class) && not (stocked_at pool.units number).out)

-- The least number below a bound that passes a test.
unfoldable pub least_below : (ℕ → Bool) → ℕ → Option ℕ
least_below test zero = None
least_below test (suc n) = or_at (least_below test n) (test n) n
  where
    or_at : Option ℕ → Bool → ℕ → Option ℕ
    or_at (Some k) pass n = Some k
    or_at None pass n = if pass then Some n else None

-- The least-numbered unit in stock of a class.
abbrev pub least_stock : ℕ → Stock → Option ℕ
least_stock class pool = least_below (is_stock_of class pool) (length pool.units)

-- The lowest page without a class.
abbrev pub lowest_page : Stock → Option ℕ
lowest_page pool = least_below (λ page. is_none (class_at pool.classes page)) (length pool.classes)

-- A unit in stock if there is one, else the first unit of a page if there is one, else none.
abbrev pub unit_or_page : Option ℕ → Option ℕ → Option ℕ
unit_or_page (Some number) page = Some number
unit_or_page None (Some page) = Some (256 * page)
unit_or_page None None = None

-- The unit that is given next: the least-numbered unit in stock of the class; if none, the lowest
-- page without a class takes the class and gives its first unit; if none, none.
unfoldable pub next_unit : ℕ → Stock → Option ℕ
next_unit class pool = unit_or_page (least_stock class pool) (lowest_page pool)

-- The stock once a unit was given as one of a class: the unit is out, and its page has the class.
unfoldable pub given : ℕ → ℕ → Stock → Stock
given class number pool = record {
  classes = slice_set pool.classes (number / 256) (Some class);
  units = slice_set pool.units number (record (stocked_at pool.units number) { out = true });
}

-- The unit as it is given: of the class, with its lives so far and its seal as the stock has them,
-- and without a processor that gave it.
unfoldable pub unit_given : ℕ → ℕ → Stock → UnitState
unit_given class number pool = record {
  number = number;
  class = class;
  home = 0;
  life = (stocked_at pool.units number).life;
  seal = (stocked_at pool.units number).seal;
}

-- What a fetch answers: the units, in the order in which they were given, and the stock after it.
pub record Fetched : Type 0 where
  pub units : List UnitState
  pub pool : Stock

-- A fetch gives one unit after the other, until as many were given as were wanted or there is none.
unfoldable pub fetched : ℕ → ℕ → Stock → Fetched
fetched class zero pool = record { units = []; pool = pool }
fetched class (suc want) pool =
    option_map_or
    (λ number.
    let rest = fetched class want (given class number pool) in
    record { units = unit_given class number pool ∷ rest.units; pool = rest.pool })
    (next_unit class pool)
    (record { units = []; pool = pool })

-- Whether a unit of a page is out.
unfoldable pub any_out : List Stocked → ℕ → Bool
any_out units page = list_any (λ unit. unit.out) (slice_range units (256 * page) (256 * page + 256))

-- The stock once a unit is back: the unit is in stock with its lives so far and its seal, and its
-- page has no class any more if no other unit of the page is out.
unfoldable pub returned : UnitState → Stock → Stock
returned unit pool =
    let units = slice_set pool.units unit.number (stocked_of unit) in
    let page = unit.number / 256 in
    record {
      classes = if any_out units page then pool.classes else slice_set pool.classes page None;
      units = units;
    }
