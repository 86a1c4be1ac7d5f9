-- Lemmas on a whole fetch.
use Rattle.std.proofs.Common.{◌≡◌, ℕ, zero, suc, ◌+◌, List, [], ◌∷◌, ◌++◌, length, None, Some, refl, sym, ◌∙◌, ap, arith, append_assoc, append-nil, length-append}
use Rattle.bm_page.specs.UnitState.{UnitState}
use Rattle.bm_page.specs.Stock.{Stock, Fetched, fetched, next_unit, given, unit_given}

-- a fetch of none
pub fetched-zero : (class n : ℕ) (pool : Stock) → n ≡ 0 → fetched class n pool ≡ record { units = []; pool = pool }
unfolding fetched
fetched-zero class zero pool e = refl
fetched-zero class (suc n) pool e = absurd (omega arith)

-- a fetch where there is none
pub fetched-none : (class n : ℕ) (pool : Stock) → next_unit class pool ≡ None → fetched class n pool ≡ record { units = []; pool = pool }
unfolding fetched
fetched-none class zero pool none = refl
fetched-none class (suc n) pool none = rw none

-- a fetch gives the next unit, and then the rest
pub fetched-next : (class m number : ℕ) (pool : Stock) → next_unit class pool ≡ Some number → fetched class (suc m) pool ≡ record { units = unit_given class number pool ∷ (fetched class m (given class number pool)).units; pool = (fetched class m (given class number pool)).pool }
unfolding fetched
fetched-next class m number pool next = rw next

-- A fetch in progress: what was given so far, and what it gives from here on.
pub record IsFetching (class want : ℕ) (before : List UnitState) (start : Stock) (out : List UnitState) (pool : Stock) (left : ℕ) : Type 0 where
  pub units : before ++ (fetched class want start).units ≡ out ++ (fetched class left pool).units
  pub pool_after : (fetched class want start).pool ≡ (fetched class left pool).pool

pub IsFetching-start : (class want : ℕ) (out : List UnitState) (pool : Stock) (left : ℕ) → left ≡ want → IsFetching class want out pool out pool left
IsFetching-start class want out pool left e = record {
  units = ap (λ n. out ++ (fetched class n pool).units) (sym e);
  pool_after = ap (λ n. (fetched class n pool).pool) (sym e);
}

-- one unit more
pub IsFetching-next : (class want : ℕ) (before : List UnitState) (start : Stock) (out : List UnitState) (pool : Stock) (left number rest : ℕ) → IsFetching class want before start out pool left → left ≡ suc rest → next_unit class pool ≡ Some number → IsFetching class want before start (out ++ unit_given class number pool ∷ []) (given class number pool) rest
IsFetching-next class want before start out pool left number rest is e next =
    let step : fetched class left pool ≡ record { units = unit_given class number pool ∷ (fetched class rest (given class number pool)).units; pool = (fetched class rest (given class number pool)).pool } = ap (λ n. fetched class n pool) e ∙ fetched-next class rest number pool next in
    record {
      units = is.units ∙ (ap (λ (f : Fetched). out ++ f.units) step ∙ sym (append_assoc out (unit_given class number pool ∷ []) (fetched class rest (given class number pool)).units));
      pool_after = is.pool_after ∙ ap (λ (f : Fetched). f.pool) step;
    }

-- a unit is given under its number
pub number-unit_given : (class number : ℕ) (pool : Stock) → (unit_given class number pool).number ≡ number
unfolding unit_given
number-unit_given class number pool = refl

-- where nothing more is given, all was given
pub IsFetching-end : (class want : ℕ) (before : List UnitState) (start : Stock) (out : List UnitState) (pool : Stock) (left : ℕ) → IsFetching class want before start out pool left → fetched class left pool ≡ record { units = []; pool = pool } → (out ≡ before ++ (fetched class want start).units) × (pool ≡ (fetched class want start).pool)
IsFetching-end class want before start out pool left is done = (
  sym (append-nil out) ∙ sym (is.units ∙ ap (λ (f : Fetched). out ++ f.units) done),
  sym (is.pool_after ∙ ap (λ (f : Fetched). f.pool) done),
)

-- and so many were given
pub count-end : (class want : ℕ) (before : List UnitState) (start : Stock) (out : List UnitState) (n : ℕ) → out ≡ before ++ (fetched class want start).units → length out ≡ length before + n → n ≡ length (fetched class want start).units
count-end class want before start out n e count =
    let whole = ap length e ∙ length-append before (fetched class want start).units in
    omega (arith, whole, count)

-- and as one of the class
pub class-unit_given : (class number : ℕ) (pool : Stock) → (unit_given class number pool).class ≡ class
unfolding unit_given
class-unit_given class number pool = refl

-- a fetch that gives a unit gives one more than the rest of it does
pub length-fetched_next : (class left rest number : ℕ) (pool : Stock) → left ≡ suc rest → next_unit class pool ≡ Some number → length (fetched class left pool).units ≡ suc (length (fetched class rest (given class number pool)).units)
length-fetched_next class left rest number pool e next =
    ap (λ n. length (fetched class n pool).units) e ∙ ap (λ (f : Fetched). length f.units) (fetched-next class rest number pool next)
