-- The units that caches begin with, as a run brings them. (prefill_mem_cache in kernel/bpf/memalloc.c.)
use Rattle.std.specs.Prelude.{◌≡◌, ◌≤◌, ℕ, Option, None, List, [], ◌∷◌, ◌++◌, length}
use Rattle.bm_law_scenario.specs.Fills.{prefill}
use Rattle.bm_page.specs.declared.units.Seal.{Seal}
use Rattle.bm_page.specs.declared.units.Stocked.{Stocked}
use Rattle.bm_page.specs.UnitState.{UnitState}
use Rattle.bm_page.specs.Stock.{Stock, stocked_at, fetched}

-- units for classes, and the stock that they leave
pub record Filling : Type 0 where
  pub fills : List (ℕ × List UnitState)
  pub pool : Stock

abbrev pub behind : List (ℕ × List UnitState) → Filling → Filling
behind fills rest = record { fills = fills ++ rest.fills; pool = rest.pool }

-- one class after the other fetches its units
abbrev pub filling : List ℕ → Stock → Filling
filling [] pool = record { fills = []; pool = pool }
filling (c ∷ cs) pool =
    let f = fetched c (prefill c) pool in behind ((c, f.units) ∷ []) (filling cs f.pool)

abbrev pub units_in : List (ℕ × List UnitState) → List UnitState
units_in [] = []
units_in (f ∷ fs) = f.1 ++ units_in fs

-- a unit with so many lives and this seal never lived
abbrev pub NeverLived : (life : ℕ) → Option Seal → Type 0
NeverLived life seal = (life ≡ 0) × (seal ≡ None)

-- no unit ever lived, and each number is one of 65,536
pub record IsUnborn (units : List Stocked) : Type 0 where
  pub size : length units ≤ 65536
  pub each : (n : ℕ) → NeverLived (stocked_at units n).life (stocked_at units n).seal
