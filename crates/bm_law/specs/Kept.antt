-- What calls of higher levels leave as it was. (unit_alloc and unit_free in kernel/bpf/memalloc.c: an active cache's
-- Free is let alone, and what is freed then goes to the two lists beside it.)
use Rattle.std.specs.Prelude.{◌≡◌, ◌≢◌, ◌<◌, ◌≤◌, ℕ, ◌+◌, List, ◌++◌}
use Rattle.bm_law.specs.State.{Row, State, idle_side}

-- Nothing is taken from an active cache: its Free, count and Delayed stand, and its Extra and ExtraDelayed have at most
-- more on top.
pub record Inside {A : Type 0} (r s : Row A) : Type 0 where
  pub free : s.free ≡ r.free
  pub count : s.count ≡ r.count
  pub delayed : s.delayed ≡ r.delayed
  pub more : List A
  pub extra : s.extra ≡ more ++ r.extra
  pub more_delayed : List A
  pub extra_delayed : s.extra_delayed ≡ more_delayed ++ r.extra_delayed

-- Calls came between that left the cache of a class so: its active number, and what deferred work alone writes, are as
-- before, and where it was active nothing was taken from it.
pub record RowKept {A : Type 0} (r s : Row A) : Type 0 where
  pub active : s.active ≡ r.active
  pub deferred : s.deferred ≡ r.deferred
  pub inside : 0 < r.active → Inside r s

-- calls of level l and above came between
pub record Kept {A : Type 0} (l : ℕ) (s t : State A) : Type 0 where
  pub rows : (c : ℕ) → RowKept (s.rows c) (t.rows c)
  pub sides : (k : ℕ) → k < l → t.sides k ≡ s.sides k

-- A call of level l may begin: at most the calls of the lower levels are in a cache, and no level from l on has
-- anything in hand.
pub record Ready {A : Type 0} (l : ℕ) (s : State A) : Type 0 where
  pub active : (c : ℕ) → (s.rows c).active ≤ l
  pub sides : (k : ℕ) → l ≤ k → s.sides k ≡ idle_side

-- Two moments of one call of level l on class c, with whatever handlers ran. It had raised the active number m times
-- at s, and n times at t.
pub record Between {A : Type 0} (l c m n : ℕ) (s t : State A) : Type 0 where
  pub active : (t.rows c).active + m ≡ (s.rows c).active + n
  pub inside : m < (s.rows c).active → Inside (s.rows c) (t.rows c)
  pub others : (k : ℕ) → k ≢ c → RowKept (s.rows k) (t.rows k)
  pub sides : (k : ℕ) → k < l → t.sides k ≡ s.sides k
