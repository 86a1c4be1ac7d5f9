-- What a poll of a grace period does before it looks at the number: it ends the period that it has in progress exactly where all
-- words pass, and begins one exactly where it has none and the number is even and below the stamp. (poll_state_synchronize_rcu of
-- kernel/rcu/tree.c only looks; that whoever waits drives the period is this project's own.)
use Rattle.std.specs.Prelude.{◌≡◌, ◌≢◌, ◌⊎◌, ◌≤◌, ℕ, ◌%◌, ◌&&◌, eqb, if◌then◌else◌, Option, Some, None, List, [], ◌∷◌}
use Rattle.bm_journal.specs.declared.ids.Domain.{Domain}
use Rattle.bm_journal.specs.declared.entry.Entry.{Entry}
use Rattle.bm_journal.specs.declared.entry.Entry.TheVariants as entry
use Rattle.bm_law.specs.State.{State, opening}
use Rattle.bm_law.specs.Lists.{next as lists_after, stamp_of}
use Rattle.bm_law_order.specs.ByDomain.{of}
use Rattle.bm_law_order.specs.Looks.{Passes}
use Rattle.bm_law_order.specs.Shared.{Shared, found, fresh, shared_after}
use Rattle.bm_law_order.specs.Orders.{AllFit, Order}

-- What is shared; and by processor the lists that its log leaves, and what was shared at each place since its last entry of level
-- 0, the last place first: directly after that entry, and after each entry of a handler or of another processor since.
pub record Polling : Type 0 where
  pub shared : Shared
  pub lists : ℕ → State ℕ
  pub places : ℕ → List Shared

-- what processor p has now
abbrev pub for_processor : {A : Type 0} → ℕ → A → (ℕ → A) → ℕ → A
for_processor p a f q = if eqb q p then a else f q

-- an entry of level l of processor p leads to one place more, and one of level 0 leaves its processor that place alone
abbrev pub places_after : (p l : ℕ) → Shared → (ℕ → List Shared) → ℕ → List Shared
places_after p l now places q = now ∷ (if eqb q p && eqb l 0 then [] else places q)

-- after an entry of level l of processor p
abbrev pub polling_after : (p l : ℕ) → Entry → Polling → Polling
polling_after p l e m =
    let now = shared_after p l e m.shared in
    record {
      shared = now;
      lists = for_processor p (lists_after (m.lists p) (l, e)) m.lists;
      places = places_after p l now m.places;
    }

-- Nothing is left to do for a poll of processor p that waits for this stamp: a word of its period doesn't pass; or it has no period
-- in progress, and the number is odd or has reached the stamp.
pub record HasRested (p : ℕ) (d : Domain) (stamp : ℕ) (s : Shared) : Type 0 where
  pub waits : (of d s.numbers).driver ≡ Some p → Passes (of d s.looks).first (found s d) → ⊥
  pub idle :
      (of d s.numbers).driver ≢ Some p
      → ((of d s.numbers).number % 2 ≡ 1) ⊎ (stamp ≤ (of d s.numbers).number)

-- it was so at one of these places
abbrev pub AtSome : (Shared → Type 0) → List Shared → Type 0
AtSome holds [] = ⊥
AtSome holds (s ∷ places) = holds s ⊎ AtSome holds places

-- What the pass of a poll needs: the batch has a stamp, and since the last entry of level 0 nothing was left to do for it.
abbrev pub HasPolled : (p : ℕ) → Domain → Option ℕ → List Shared → Type 0
HasPolled p d None places = ⊥
HasPolled p d (Some stamp) places = AtSome (HasRested p d stamp) places

-- What a begin needs: a batch of the processor's own waits for the period's end or for more.
pub record IsAwaited (d : Domain) (number : ℕ) (lists : State ℕ) : Type 0 where
  pub class : ℕ
  pub stamp : ℕ
  pub waits : stamp_of d (lists.rows class).deferred ≡ Some stamp
  pub below : number ≤ stamp

abbrev pub PollFits : (p l : ℕ) → Entry → Polling → Type 0
PollFits p l (entry.Begin d n) m = IsAwaited d n (m.lists p)
PollFits p l (entry.Pass c d n) m =
    HasPolled p d (stamp_of d ((m.lists p).rows c).deferred) (m.places p)
PollFits p l _ m = Unit {0}

-- at the outset nobody has done anything
abbrev pub no_polls : (processors pages : ℕ) → Polling
no_polls processors pages =
    record {
      shared = fresh processors pages;
      lists = opening;
      places = λ p. fresh processors pages ∷ [];
    }

-- Each period of an order is begun for a batch that waits for it, and each pass ends a poll that has rested.
abbrev pub IsPolled : (processors pages : ℕ) → Order → Type 0
IsPolled processors pages order = AllFit polling_after PollFits order (no_polls processors pages)
