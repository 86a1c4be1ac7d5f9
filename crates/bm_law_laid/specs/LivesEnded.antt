-- The lives of a unit that an order ends. (In the kernel bpf_obj_drop_impl of kernel/bpf/helpers.c frees an object where its count of
-- references falls to 0. That a reply says so is this project's own.)
use Rattle.std.specs.Prelude.{◌<◌, ◌≤◌, ℕ, ◌-◌, eqb, if◌then◌else◌, Option, Some, None, List, [], ◌∷◌, ◌++◌}
use Rattle.bm_journal.specs.declared.entry.Entry.{Entry}
use Rattle.bm_journal.specs.declared.entry.Entry.TheVariants as entry
use Rattle.bm_law_order.specs.Lives.{Dropping, Life, Lives, lives_after}
use Rattle.bm_law_order.specs.Orders.{Order}
use Rattle.bm_law_laid.specs.Once.{Any, Once}

-- the life that a drop names, if it is one of unit u
abbrev pub life_of_drop : ℕ → Option Dropping → List ℕ
life_of_drop u None = []
life_of_drop u (Some d) = if eqb u d.unit then d.life ∷ [] else []

-- the life of unit u that an entry of level l of processor p ends: the reply `last` that which its level drops
abbrev pub life_ended : (u p l : ℕ) → Entry → Lives → List ℕ
life_ended u p l entry.Last lives = life_of_drop u (lives.dropping p l)
life_ended u p l _ lives = []

abbrev pub lives_ended_over : ℕ → Order → Lives → List ℕ
lives_ended_over u [] lives = []
lives_ended_over u (e ∷ o) lives =
    life_ended u e.processor e.level e.entry lives
    ++ lives_ended_over u o (lives_after e.processor e.level e.entry lives)

-- how many lives have ended: all that have begun, but the one that the unit has
abbrev pub ended_of : ℕ → Option Life → ℕ
ended_of begun None = begun
ended_of begun (Some life) = begun - 1

abbrev pub ended_so_far : ℕ → Lives → ℕ
ended_so_far u lives = ended_of (lives.begun u) (lives.holds u)

-- a unit that has a life has begun one
abbrev pub OneBegun : ℕ → Option Life → Type 0
OneBegun begun None = Unit {0}
OneBegun begun (Some life) = 0 < begun

abbrev pub HasBegun : ℕ → Lives → Type 0
HasBegun u lives = OneBegun (lives.begun u) (lives.holds u)

-- Of a unit's lives an order ends each one above the first bound and not above the second once, and no other.
pub record AreEnded (u from to : ℕ) (ended : List ℕ) : Type 0 where
  pub grows : from ≤ to
  pub each : Once Any from to ended
