-- Units in their places, and lists that name them.
use Rattle.std.specs.Prelude.{◌≡◌, ◌≤◌, ℕ, ◌+◌, set, Option, Some, None, is_some, if◌then◌else◌, List, [], ◌∷◌, length, map, get_or}
use Rattle.bm_page.specs.UnitState.{UnitState}
use Rattle.bm_law.specs.State.{Row, seen_row, empty_row}
use Rattle.bm_law.specs.Stands.{in_row, times}

-- the unit in a place; a unit that never was where there is none
abbrev pub unit_or : ℕ → Option UnitState → UnitState
unit_or n None = record { number = n; class = 0; home = 0; life = 0; seal = None }
unit_or n (Some u) = u

abbrev pub unit_at : List (Option UnitState) → ℕ → UnitState
unit_at places n = unit_or n (get_or places n None)

-- the rows of units that rows of numbers and places come to
abbrev pub rows_of : List (Option UnitState) → List (Row ℕ) → List (Row UnitState)
rows_of places lines = map (seen_row (unit_at places)) lines

-- how often a number stands in all rows, and in the places
abbrev pub all_in : ℕ → List (Row ℕ) → ℕ
all_in n [] = 0
all_in n (r ∷ rs) = in_row n r + all_in n rs

abbrev pub taken : List (Option UnitState) → ℕ → ℕ
taken places n = if is_some (get_or places n None) then 1 else 0

-- Each number in the lists stands there once, and its unit is in the place of this number; no other place has one. There are
-- places up to the greatest number so far.
pub record Housed (places : List (Option UnitState)) (lines : List (Row ℕ)) : Type 0 where
  pub room : length places ≤ 65536
  pub eleven : length lines ≡ 11
  pub housed : (n : ℕ) → all_in n lines ≡ taken places n
  pub own : (n : ℕ) → (unit_at places n).number ≡ n

-- the row at an index
abbrev pub row_at : {A : Type 0} → List (Row A) → ℕ → Row A
row_at rs c = get_or rs c (empty_row 0)

-- the number that a list and a log name a unit by
abbrev pub number_of : UnitState → ℕ
number_of u = u.number

-- the rows with the one at an index changed so
abbrev pub on_row_at : {A : Type 0} → ℕ → (Row A → Row A) → List (Row A) → List (Row A)
on_row_at c f rs = set rs c (f (row_at rs c))

-- unit n stands in no row
abbrev pub Nowhere : ℕ → List (Row UnitState) → Type 0
Nowhere n rows = (c : ℕ) → in_row n (seen_row number_of (row_at rows c)) ≡ 0

-- these units stand in no row, and none of them twice
abbrev pub AreFresh : List UnitState → List (Row UnitState) → Type 0
AreFresh us rows =
    (n : ℕ) → (c : ℕ)
    → in_row n (seen_row number_of (row_at rows c)) + times n (map number_of us) ≤ 1
