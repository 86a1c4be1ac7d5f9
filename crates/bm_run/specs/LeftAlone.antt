-- What the turns of other processors leave of one that waits for its turn. (This project's own.)
use Rattle.std.specs.Prelude.{◌≡◌, ◌≢◌, ◌≤◌, ℕ, List, [], ◌∷◌, is_some, slice_index}
use Rattle.bm_journal.specs.declared.ids.Domain.{Domain}
use Rattle.bm_journal.specs.declared.entry.Entry.{Entry}
use Rattle.bm_journal.specs.declared.entry.Entry.TheVariants as entry
use Rattle.bm_law.specs.Lists.{Log}
use Rattle.bm_law.specs.State.{State}
use Rattle.bm_law_order.specs.Act.{Act}
use Rattle.bm_law_order.specs.Orders.{Leads, by}
use Rattle.bm_law_order.specs.Story.{Steady, Story, deeds, lines, plainly}
use Rattle.bm_law_places.specs.Placed.{IsWellPlaced}
use Rattle.bm_law_places.specs.World.{AllFound, World, world_over}
use Rattle.bm_page.specs.Stock.{stocked_at}
use Rattle.bm_grace.specs.Known.{side}
use Rattle.bm_grace.specs.PlainState.{domain_in}
use Rattle.bm_post.specs.PostState.{waits}
use Rattle.bm_cache.specs.Each.{Each}
use Rattle.bm_cache.specs.Tokens.{Token}
use Rattle.bm_world.specs.LivingState.{LivingState, begun_at, known_living}
use Rattle.bm_world.specs.Slots.{unit_at}
use Rattle.bm_world.specs.Spared.{AllSpare}
use Rattle.bm_world.specs.Standings.{standing_at}
use Rattle.bm_world.specs.Told.{IsSideOf}
use Rattle.bm_world.specs.ToldLiving.{told_living}

-- Nothing happened to unit n between two worlds: it is in the stock or out as before, and in the inboxes as often; it lives or doesn't, has
-- begun as many lives, and waits for the same.
pub record StaysPut (n : ℕ) (before now : LivingState) : Type 0 where
  pub out :
      (stocked_at now.side.post.pool.units n).out ≡ (stocked_at before.side.post.pool.units n).out
  pub inboxes : waits n now.side.post.inboxes ≡ waits n before.side.post.inboxes
  pub lives : is_some (unit_at now.slots n) ≡ is_some (unit_at before.slots n)
  pub begun : begun_at now.begun n ≡ begun_at before.begun n
  pub standing : standing_at now.standings n ≡ standing_at before.standings n

-- Between two worlds, both as the side of one processor with these lists and hands, it was left alone: there are as many processors, it has
-- its section words and may begin no fewer periods, no fewer calls are counted, and nothing happened to the units that it has.
pub record IsLeftAlone (lists : State Token) (before now : LivingState) : Type 0 where
  pub processors : now.side.grace.processors ≡ before.side.grace.processors
  pub processor : now.side.grace.processor ≡ before.side.grace.processor
  pub words : (d : Domain) → (side d (known_living now)).word ≡ (side d (known_living before)).word
  pub begins :
      (d : Domain) → (side d (known_living before)).begins ≤ (side d (known_living now)).begins
  pub asked : before.asked ≤ now.asked
  pub units : Each (λ c k u. StaysPut u.number before now) (λ u. StaysPut u.number before now) lists

-- Acts keep for processor q what it may begin and the calls that were counted, and of each unit that they spare what it waits for, since the same stamps.
pub record KeepsFor (q : ℕ) (acts : List Act) (before now : LivingState) : Type 0 where
  pub begins :
      (d : Domain)
      → slice_index (domain_in d before.side.grace).begins q
      ≤ slice_index (domain_in d now.side.grace).begins q
  pub asked : before.asked ≤ now.asked
  pub standings :
      (n : ℕ) → AllSpare n acts → standing_at now.standings n ≡ standing_at before.standings n

-- A turn of processor p, by its story, from one world to another: each unit is in one place when it begins, each of its entries finds what it needs,
-- and they lead from what is told of the one world to what is told of the other.
pub record IsTurnOf (p : ℕ) (story : Story) (places : World) (before now : LivingState) :
    Type 0 where
  pub placed : IsWellPlaced places
  pub found : AllFound (by p (lines story)) places
  pub told : places.shared ≡ plainly (told_living before)
  pub leads : Leads (by p (lines story)) (plainly (told_living before)) (plainly (told_living now))
  pub begins_his : IsSideOf p before.side
  pub ends_his : IsSideOf p now.side

-- The one world of all lists and of what is shared, as a world of one thread tells it: each unit is in one place, and what is shared is what that
-- tells; there each period in progress was looked at, and no drop is under way.
pub record IsTold (places : World) (world : LivingState) : Type 0 where
  pub placed : IsWellPlaced places
  pub told : places.shared ≡ plainly (told_living world)
  pub steady : Steady (told_living world)

-- .. and what a turn of processor p makes of it: these are its lists then, the others have theirs, and for each of them its acts keep what they may
-- begin and what their units wait for
pub record Turned (p : ℕ) (story : Story) (places : World) (lists : State ℕ)
    (before now : LivingState) : Type 0 where
  pub turn : IsTurnOf p story places before now
  pub told : IsTold (world_over (by p (lines story)) places) now
  pub own : (world_over (by p (lines story)) places).lists p ≡ lists
  pub others : (q : ℕ) → q ≢ p → (world_over (by p (lines story)) places).lists q ≡ places.lists q
  pub keeps : (q : ℕ) → q ≢ p → KeepsFor q (deeds story) before now

-- no entry of a log sweeps
abbrev pub IsUnswept : Entry → Type 0
IsUnswept (entry.Sweep c us) = ⊥
IsUnswept _ = Unit {0}

abbrev pub AllUnswept : Log → Type 0
AllUnswept [] = Unit {0}
AllUnswept (e ∷ log) = IsUnswept e.1 × AllUnswept log
