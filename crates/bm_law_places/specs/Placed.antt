-- Each unit is in exactly one place, and what follows for a unit that a processor has. (This project's own. In the kernel a pointer to
-- memory is on one list of struct bpf_mem_cache, or out with the caller, and nothing says so but the code.)
use Rattle.std.specs.Prelude.{◌≡◌, ◌≢◌, ◌<◌, ℕ, true, None, [], ◌++◌}
use Rattle.std.specs.List.{concat}
use Rattle.bm_page.specs.Stock.{stocked_at}
use Rattle.bm_law.specs.State.{seven_lists}
use Rattle.bm_law.specs.Stands.{times}
use Rattle.bm_law_laid.specs.UnitsOut.{IsSettled}
use Rattle.bm_law_order.specs.Orders.{Order}
use Rattle.bm_law_places.specs.Place.{Place, Cache, Hand, ending, times_at}
use Rattle.bm_law_places.specs.World.{World, outset, world_over}

-- Unit u is in exactly one place: one place names it once, and no other names it.
pub record InOnePlace (u : ℕ) (w : World) : Type 0 where
  pub place : Place
  pub here : times_at u place w ≡ 1
  pub only : (other : Place) → other ≢ place → times_at u other w ≡ 0

-- so is each unit
abbrev pub AllPlaced : World → Type 0
AllPlaced w = (u : ℕ) → InOnePlace u w

-- Wherever an order is cut in two, each unit is in exactly one place between the entries before the cut and those after it.
abbrev pub IsPlaced : (processors pages : ℕ) → Order → Type 0
IsPlaced processors pages order =
    (done rest : Order) → order ≡ done ++ rest
    → AllPlaced (world_over done (outset processors pages))

-- ---- what a processor has

-- a place is a list or a hand of processor p
abbrev pub IsOf : ℕ → Place → Type 0
IsOf p (Cache q c) = q ≡ p
IsOf p (Hand q l) = q ≡ p
IsOf p _ = ⊥

-- unit u is in a list or hand of processor p
pub record IsWith (p u : ℕ) (w : World) : Type 0 where
  pub place : Place
  pub own : IsOf p place
  pub named : 0 < times_at u place w

-- Unit u is in no list or hand of another processor than p, in no inbox, out of the stock, and neither lives nor has just ended.
pub record IsOnlyWith (p u : ℕ) (w : World) : Type 0 where
  pub others : (q : ℕ) → q ≢ p → IsWith q u w → ⊥
  pub inboxes : (q c : ℕ) → times u (concat (w.shared.boxes q c)) ≡ 0
  pub out : (stocked_at w.shared.pool.units u).out ≡ true
  pub lifeless : w.shared.lives.holds u ≡ None
  pub ended : (q l : ℕ) → times u (ending (w.shared.lives.dropping q l)) ≡ 0

-- Between two worlds nothing happened to unit u: it is in the stock as before, in each inbox as often, has the life that it had or none,
-- and has begun as many lives.
pub record IsUntouched (u : ℕ) (before now : World) : Type 0 where
  pub out : (stocked_at now.shared.pool.units u).out ≡ (stocked_at before.shared.pool.units u).out
  pub inboxes :
      (p c : ℕ)
      → times u (concat (now.shared.boxes p c)) ≡ times u (concat (before.shared.boxes p c))
  pub holds : now.shared.lives.holds u ≡ before.shared.lives.holds u
  pub begun : now.shared.lives.begun u ≡ before.shared.lives.begun u

-- What was done between two worlds left processor q alone: its lists and hands are as they were, and nothing happened to a unit in them.
pub record LeavesAlone (q : ℕ) (before now : World) : Type 0 where
  pub lists : now.lists q ≡ before.lists q
  pub units : (u : ℕ) → IsWith q u before → IsUntouched u before now

-- ---- at the end

-- No list, hand or inbox has a unit, nothing lives, and nothing is dropped.
pub record IsEmptied (w : World) : Type 0 where
  pub caches : (p c : ℕ) → seven_lists ((w.lists p).rows c) ≡ []
  pub hands : (p l : ℕ) → ((w.lists p).sides l).hand ≡ []
  pub inboxes : (p c : ℕ) → concat (w.shared.boxes p c) ≡ []
  pub lives : (u : ℕ) → w.shared.lives.holds u ≡ None
  pub drops : (p l : ℕ) → w.shared.lives.dropping p l ≡ None

-- ---- going on

-- What holds from the outset on: each unit is in exactly one place, and the stock is settled.
pub record IsWellPlaced (w : World) : Type 0 where
  pub placed : AllPlaced w
  pub settled : IsSettled w.shared.pool
