-- What all processors share, with what is in the lists and hands of each, and what an entry makes of both. (This project's own:
-- journals are. The lists are those of struct bpf_mem_cache in kernel/bpf/memalloc.c.)
use Rattle.std.specs.Prelude.{◌≡◌, ℕ, eqb, if◌then◌else◌}
use Rattle.std.specs.List.{concat}
use Rattle.bm_journal.specs.declared.entry.Entry.{Entry}
use Rattle.bm_journal.specs.declared.entry.Entry.TheVariants as entry
use Rattle.bm_law.specs.State.{State, opening}
use Rattle.bm_law.specs.Lists.{Names, brought, next}
use Rattle.bm_law_order.specs.Orders.{AllFit, Order, over}
use Rattle.bm_law_order.specs.Shared.{Fits, Shared, fresh, shared_after}

-- what is shared, and by processor its lists and hands
pub record World : Type 0 where
  pub shared : Shared
  pub lists : ℕ → State ℕ

-- at the outset
abbrev pub outset : (processors pages : ℕ) → World
outset processors pages = record { shared = fresh processors pages; lists = opening }

-- after an entry of level l of processor p: of all lists and hands those of this processor alone change
abbrev pub world_after : (p l : ℕ) → Entry → World → World
world_after p l e w = record {
  shared = shared_after p l e w.shared;
  lists = λ q. if eqb q p then next (w.lists q) (l, e) else w.lists q;
}

-- What a sweep takes from outside, after the units of the lists, is just what waits in the inbox. (Neither the lists nor the
-- inboxes say so by themselves: the former say how the sweep begins, the latter how it ends.)
abbrev pub SweepsInbox : (p l : ℕ) → Entry → World → Type 0
SweepsInbox p l (entry.Sweep c us) w =
    brought (entry.Sweep c us) (w.lists p) ≡ concat (w.shared.boxes p c)
SweepsInbox p l _ w = Unit {0}

-- The entry finds what it needs: of what is shared, and in the lists and hands of its processor.
pub record Finds (p l : ℕ) (e : Entry) (w : World) : Type 0 where
  pub shared : Fits p l e w.shared
  pub lists : Names l e (w.lists p)
  pub inbox : SweepsInbox p l e w

-- the same of an order, and what it leaves
abbrev pub AllFound : Order → World → Type 0
AllFound = AllFit world_after Finds

abbrev pub world_over : Order → World → World
world_over = over world_after
