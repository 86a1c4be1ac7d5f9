-- The places in which a unit can be, and how often each names it. (Lists and stock are those of kernel/bpf/memalloc.c and of the page
-- allocator below it; hands, inboxes and lives are this project's own.)
use Rattle.std.specs.Prelude.{ℕ, List, [], ◌∷◌, Option, Some, None, is_some, if◌then◌else◌}
use Rattle.std.specs.List.{concat}
use Rattle.bm_page.specs.Stock.{stocked_at}
use Rattle.bm_law.specs.State.{seven_lists}
use Rattle.bm_law.specs.Stands.{times}
use Rattle.bm_law_order.specs.Lives.{Dropping}
use Rattle.bm_law_places.specs.World.{World}

-- The stock; the inbox of a processor for a class, with the parcels that wait there; the lists of a processor's cache of a class; what
-- a level of a processor has in hand; a life; and a drop at a level of a processor that has ended a life, before the free that follows.
pub data Place : Type 0 where
  Stock : Place
  Inbox : (processor class : ℕ) → Place
  Cache : (processor class : ℕ) → Place
  Hand : (processor level : ℕ) → Place
  Living : Place
  Ending : (processor level : ℕ) → Place

-- the unit of a drop that has ended its life
abbrev pub ending : Option Dropping → List ℕ
ending None = []
ending (Some drop) = if is_some drop.ended then drop.unit ∷ [] else []

-- How often a place names unit u. The stock has what isn't out; so it has a number beyond its pages too, which never is.
abbrev pub times_at : ℕ → Place → World → ℕ
times_at u Stock w = if (stocked_at w.shared.pool.units u).out then 0 else 1
times_at u (Inbox p c) w = times u (concat (w.shared.boxes p c))
times_at u (Cache p c) w = times u (seven_lists ((w.lists p).rows c))
times_at u (Hand p l) w = times u ((w.lists p).sides l).hand
times_at u Living w = if is_some (w.shared.lives.holds u) then 1 else 0
times_at u (Ending p l) w = times u (ending (w.shared.lives.dropping p l))
