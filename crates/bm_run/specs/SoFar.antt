-- What is so of the order of a run between two turns. (This project's own: the order and the turns are.)
use Rattle.std.specs.Prelude.{◌≡◌, ℕ, ◌++◌, List, None, Option, Some, true}
use Rattle.bm_law.specs.Lists.{Log}
use Rattle.bm_law_graphs.specs.Shelves.{IsShelved, Shelved, nothing_shelved, shelved_after}
use Rattle.bm_law_order.specs.Calls.{lock_in}
use Rattle.bm_law_order.specs.Graphs.{graph_names_in, history_in, standing_from}
use Rattle.bm_law_order.specs.Lives.{Life}
use Rattle.bm_law_order.specs.Orders.{Leads, Order, by, over, part_of}
use Rattle.bm_law_order.specs.Polls.{IsPolled}
use Rattle.bm_law_order.specs.Seals.{IsSealed, nobody_waits, waiting_after}
use Rattle.bm_law_order.specs.Shared.{fresh}
use Rattle.bm_law_order.specs.Slots.{named_in}
use Rattle.bm_law_order.specs.Story.{Steady, plainly}
use Rattle.bm_world.specs.Contents.{are_apart}
use Rattle.bm_world.specs.LivingState.{LivingState}
use Rattle.bm_world.specs.Standings.{waits_told}
use Rattle.bm_world.specs.Told.{IsSideOf}
use Rattle.bm_world.specs.ToldLiving.{fields_told, told_living}
use Rattle.bm_law_objects.specs.Objects.{Asked, IsOwned, Made, nothing_owned, owned_after}

-- A life, if the unit has one, is the last one that it began, and was made of what was asked for with these values.
abbrev pub MadeAs : Option Life → (last : ℕ) → (values : List ℕ) → Option Made → Type 0
MadeAs None last values made = Unit {0}
MadeAs (Some life) last values made =
    (asked : Asked) × (made ≡ Some (record { life = last; asked = asked }))
    × (asked.values ≡ values)

-- So it is of each unit that lives, by an order and by what the world tells.
abbrev pub IsMadeOf : Order → LivingState → Type 0
IsMadeOf o world =
    let lives = (told_living world).lives in
    (u : ℕ)
    → MadeAs (lives.holds u) (lives.begun u) (fields_told world u)
    ((over owned_after o nothing_owned).objects.made u)

-- what an order makes of lists, trees and locks, where these are the names of the maps
abbrev pub shelves_over : (names : List (List ℕ)) → Order → Shelved
shelves_over names o = over (shelved_after names) o nothing_shelved

-- The entries so far, of so many processors, each find what they need, and lead from the outset to what the world tells, which is
-- steady; each period was begun for a batch that waits for it, and each pass ended a poll that had rested; and each unit was given where an
-- object was asked for, each read found a value with which its object was made, each exchange found what the slot held, those that live were
-- made with what the world tells, and the slots hold what it tells. No two of its maps have one name, each call found the lists and trees as the
-- calls before it had left them, under its lock or in the closing, and these are what the world tells; nobody holds a lock, and no log
-- ends under one.
pub record SoFar (processors pages : ℕ) (o : Order) (world : LivingState) : Type 0 where
  pub leads : Leads o (fresh processors pages) (plainly (told_living world))
  pub steady : Steady (told_living world)
  pub polled : IsPolled processors pages o
  pub owned : IsOwned o
  pub made : IsMadeOf o world
  pub slots : (over owned_after o nothing_owned).objects.slots ≡ named_in world.contents
  pub apart : are_apart (graph_names_in world.graphs) ≡ true
  pub shelved : IsShelved (graph_names_in world.graphs) o
  pub histories :
      (shelves_over (graph_names_in world.graphs) o).shelves.histories ≡ history_in world.graphs
  pub within :
      (shelves_over (graph_names_in world.graphs) o).shelves.within ≡ standing_from 0 world.graphs
  pub unlocked :
      (name : List ℕ) → (shelves_over (graph_names_in world.graphs) o).shelves.holders name ≡ None
  pub unheld : (p : ℕ) → lock_in (part_of p o) ≡ None

-- So it is while nothing was swept: units wait for what the world tells, and each was given with what it had waited for.
pub record SealedSoFar (o : Order) (world : LivingState) : Type 0 where
  pub waits : (over waiting_after o nobody_waits).waits ≡ waits_told world.standings
  pub sealed : IsSealed o

-- the world at the turn of a processor
abbrev pub at_turn : ℕ → LivingState → LivingState
at_turn p world = record world {
  side = record {
    post = record world.side.post { processor = p };
    grace = record world.side.grace { processor = p };
  };
}

-- In a turn of processor p its log has grown from one to another by entries that follow those so far, and the world is still its side.
pub record TurnTaken (processors pages p : ℕ) (o : Order) (since log : Log) (world : LivingState) :
    Type 0 where
  pub added : Log
  pub log_is : log ≡ since ++ added
  pub so_far : SoFar processors pages (o ++ by p added) world
  pub stays : IsSideOf p world.side
