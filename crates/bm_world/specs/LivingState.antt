-- The world on one thread with the units that live in it. (This project's own. The kernel's allocator knows nothing of a unit
-- while it is in use.)
use Rattle.std.specs.Prelude.{◌≡◌, ℕ, ◌+◌, ◌-◌, ◌%◌, ◌^◌, ◌<◌, ◌≤◌, ◌&&◌, not, eqb, Bool, false, true, Option, None, Some, List, [], is_some, length, slice_index_or, slice_set}
use Rattle.std.specs.List.{All}
use Rattle.std.proofs.lemmas.Bool.{and_parts}
use Rattle.bm_journal.specs.declared.ids.Domain.{Domain}
use Rattle.bm_journal.specs.declared.ids.ObjId.{ObjId}
use Rattle.bm_journal.specs.declared.ids.Tag.{Tag}
use Rattle.bm_law_order.specs.Graphs.{NamedGraph, graphs_after, standing_from}
use Rattle.bm_law_order.specs.Slots.{Named}
use Rattle.bm_journal.specs.declared.past.PastCall.{PastCall}
use Rattle.bm_world.specs.Contents.{put_at}
use Rattle.bm_journal.specs.declared.ids.Domain.TheVariants.{Plain, Tracing}
use Rattle.bm_page.specs.declared.units.Seal.{Seal}
use Rattle.bm_page.specs.UnitState.{UnitState}
use Rattle.bm_page.specs.Stock.{stocked_at}
use Rattle.bm_grace.specs.Known.{Known, Living, Lives, side}
use Rattle.bm_grace.specs.Rights.{Rights}
use Rattle.bm_post.specs.HasRoom.{has_room, room-of}
use Rattle.bm_grace.specs.Answers.{next}
use Rattle.bm_grace.specs.PlainState.{PlainState, idle}
use Rattle.bm_post.specs.PostState.{PostState, is_mine, no_parcels}
use Rattle.bm_world.specs.Lives.{life_of_unit}
use Rattle.bm_world.specs.SideState.{SideAtRest, SideState, idle-of, known_of}
use Rattle.bm_world.specs.Slots.{count_of, new_object, object_at, stands_in, unit_at, with_count, with_place}
use Rattle.bm_world.specs.declared.slots.Object.{Object}
use Rattle.bm_world.specs.Standings.{AreStanding, counts_for, has_waited, is_over, is_waiting, standing_at, standing_of}
use Rattle.bm_world.specs.declared.wait.Wait.{Wait}
use Rattle.bm_world.specs.declared.standing.Standing.{Standing}
use Rattle.bm_world.specs.declared.standing.Standing.TheVariants.{Nothing, Waits}

-- The side; by a unit's number the object that it is, if it lives, how many lives it has begun, and what it waits for; how many calls for
-- objects were counted; the slots with what they hold; and the lists and trees.
pub record LivingState : Type 0 where
  pub side : SideState
  pub slots : List (Option Object)
  pub begun : List ℕ
  pub standings : List Standing
  pub asked : ℕ
  pub contents : List Named
  pub graphs : List NamedGraph

-- an object that lives, as it is known
abbrev pub living_of : Option Object → Option Living
living_of None = None
living_of (Some object) =
    Some (life_of_unit object.type_number object.count object.values object.unit)

abbrev pub lives_of : List (Option Object) → Lives
lives_of slots = λ n. living_of (object_at slots n)

-- how many lives a unit has begun
abbrev pub begun_at : List ℕ → ℕ → ℕ
begun_at begun n = slice_index_or begun n 0

-- It knows what its side knows, and tells what lives and how many lives began.
abbrev pub known_living : LivingState → Known
known_living world =
    record (known_of world.side) {
      objects =
          record {
            lives = lives_of world.slots;
            begun = begun_at world.begun;
            asked = world.asked;
            slots = world.contents;
            graphs = world.graphs;
          };
    }

-- Whether a unit with these lives so far may be used again: it has room for one life more, and they are the lives that it has
-- begun.
abbrev pub may_live : (begun : List ℕ) → (n life : ℕ) → Bool
may_live begun n life = has_room n life && eqb life (begun_at begun n)

-- .. and so may the unit, if it doesn't wait and has the seal of what it has waited for
abbrev pub may_be_used : (begun : List ℕ) → List Standing → (n life : ℕ) → Option Seal → Bool
may_be_used begun standings n life seal =
    may_live begun n life && has_waited (standing_at standings n) seal

-- Mine is what is mine of the side and doesn't live. A unit whose lives are those that it has begun may be used again as soon as it
-- is there, if it doesn't wait and has its seal; where it waits it is due, and it is ripe once its wait is over.
abbrev pub rights_with_living :
    PostState → (plain tracing : ℕ) → List (Option Object) → List ℕ → List Standing → Rights
rights_with_living post plain tracing slots begun standings = record {
  mine = λ n. is_mine post n && not (is_some (unit_at slots n));
  settled = may_be_used begun standings;
  due = λ n life seal. may_live begun n life && is_waiting (standing_at standings n);
  ripe =
      λ n life seal. may_live begun n life && is_over plain tracing (standing_at standings n) seal;
  since = λ d x n. counts_for d x (standing_at standings n);
}

abbrev pub rights_living : LivingState → Rights
rights_living world =
    rights_with_living world.side.post world.side.grace.plain.number world.side.grace.tracing.number
    world.slots world.begun world.standings

-- All is at rest where it is on the side.
abbrev pub LivingAtRest : LivingState → Domain → ℕ → Type 0
LivingAtRest world = SideAtRest world.side

-- A unit begins its next life, without a seal.
abbrev pub next_life : UnitState → UnitState
next_life unit = record unit { life = unit.life + 1; seal = None }

-- One more call is counted.
abbrev pub with_asked : LivingState → LivingState
with_asked world = record world { asked = world.asked + 1 }

-- .. and a unit begins its next life for it, in its slot, of this type and with these values; it waits for nothing
abbrev pub with_begun : (type : ℕ) → (values : List ℕ) → UnitState → LivingState → LivingState
with_begun type values unit world =
    record world {
      slots = slice_set world.slots unit.number (Some (new_object type values (next_life unit)));
      begun = slice_set world.begun unit.number (unit.life + 1);
      standings = slice_set world.standings unit.number Nothing;
      asked = world.asked + 1;
    }

-- There are so many references to the object that unit n is.
abbrev pub slots_counted : (n count : ℕ) → List (Option Object) → List (Option Object)
slots_counted n count slots = slice_set slots n (with_count count (object_at slots n))

-- A reference to it was asked for, and is there; or one was given up.
abbrev pub with_acquired : ℕ → LivingState → LivingState
with_acquired n world =
    record world {
      slots = slots_counted n (count_of (object_at world.slots n) + 1) world.slots;
      asked = world.asked + 1;
    }

abbrev pub with_given_up : ℕ → LivingState → LivingState
with_given_up n world =
    record world { slots = slots_counted n (count_of (object_at world.slots n) - 1) world.slots }

-- The slot at a place holds something else, which a call has put there.
abbrev pub with_exchanged : (place : ℕ) → (put : Option ObjId) → Tag → LivingState → LivingState
with_exchanged place put tag world =
    record world { contents = put_at place (record { held = put; by = Some tag }) world.contents }

-- The object that unit n is is in the list or tree at this place, or in none.
abbrev pub slots_placed :
    (n : ℕ) → (within : Option ℕ) → List (Option Object) → List (Option Object)
slots_placed n within slots = slice_set slots n (with_place within (object_at slots n))

-- A call was made on the list or tree at a place ..
abbrev pub with_called : (place : ℕ) → PastCall → Tag → LivingState → LivingState
with_called place call tag world =
    record world { graphs = graphs_after place call tag world.graphs }

-- .. and so the object that unit n is is in one, or in none
abbrev pub with_moved :
    (place : ℕ) → PastCall → Tag → (n : ℕ) → (within : Option ℕ) → LivingState → LivingState
with_moved place call tag n within world =
    record world {
      slots = slots_placed n within world.slots;
      graphs = graphs_after place call tag world.graphs;
    }

-- What units wait for once the life of unit n has ended: behind a free with delay it waits from now on, behind a plain one for nothing,
-- as before.
abbrev pub wait_now : PlainState → Wait
wait_now grace = record { plain = next grace.plain.number; tracing = next grace.tracing.number }

abbrev pub standings_after : (delayed : Bool) → ℕ → PlainState → List Standing → List Standing
standings_after true n grace standings = slice_set standings n (Waits (wait_now grace))
standings_after false n grace standings = standings

-- The life of a unit ends, by a free with delay or a plain one.
abbrev pub with_ended : (delayed : Bool) → ℕ → LivingState → LivingState
with_ended delayed n world =
    record world {
      slots = slice_set world.slots n None;
      standings = standings_after delayed n world.side.grace world.standings;
    }

-- The lives of a unit are those that it has begun, and it has the seal of what it has waited for.
abbrev pub HasLived : (begun : List ℕ) → List Standing → (n life : ℕ) → Option Seal → Type 0
HasLived begun standings n life seal =
    (life ≡ begun_at begun n) × (standing_at standings n ≡ standing_of seal)

abbrev pub LivedAs : List ℕ → List Standing → UnitState → Type 0
LivedAs begun standings unit = HasLived begun standings unit.number unit.life unit.seal

-- So it is of each unit of the pool and of the inboxes.
pub record HaveLived (begun : List ℕ) (standings : List Standing) (post : PostState) : Type 0 where
  pub stock : (n : ℕ) → (stocked_at post.pool.units n).out ≡ false
      → HasLived begun standings n (stocked_at post.pool.units n).life
      (stocked_at post.pool.units n).seal
  pub boxes : (i : ℕ) → All (All (LivedAs begun standings)) (slice_index_or post.inboxes i [])

-- There is a reference to an object that lives, and there are no more than were asked for.
abbrev pub IsCounted : (asked : ℕ) → Option Object → Type 0
IsCounted asked None = Unit {0}
IsCounted asked (Some object) = (0 < object.count) × (object.count ≤ asked)

-- What the parts keep true: there is a slot for each number, and a count of its lives, which isn't above the number of objects
-- and references that were asked for, and so it is of the count of its references; the unit in a slot has its number, is out of the pool and stands in no inbox, lives the last life that
-- it has begun, has no seal, and its home is one of the processors; and so it is of the lives and seals of all units of the pool
-- and of the inboxes. And standings keep true what they do.
pub record AreLiving (post : PostState) (plain tracing : ℕ) (slots : List (Option Object))
    (begun : List ℕ) (standings : List Standing) (asked : ℕ) : Type 0 where
  pub size : length slots ≡ 2 ^ 16
  pub counts : length begun ≡ 2 ^ 16
  pub number : (n : ℕ) (unit : UnitState) → unit_at slots n ≡ Some unit → unit.number ≡ n
  pub mine : (n : ℕ) (unit : UnitState) → unit_at slots n ≡ Some unit → is_mine post n ≡ true
  pub life : (n : ℕ) (unit : UnitState) → unit_at slots n ≡ Some unit → unit.life ≡ begun_at begun n
  pub unsealed : (n : ℕ) (unit : UnitState) → unit_at slots n ≡ Some unit → unit.seal ≡ None
  pub home : (n : ℕ) (unit : UnitState) → unit_at slots n ≡ Some unit → unit.home < post.processors
  pub counted : (n : ℕ) → IsCounted asked (object_at slots n)
  pub few : asked < 2 ^ 31
  pub most : (n : ℕ) → begun_at begun n ≤ asked
  pub lived : HaveLived begun standings post
  pub standing : AreStanding plain tracing slots standings

-- What an object says of the list or tree that it is in is where it stands; and what doesn't live stands in none.
pub record AreShelved (slots : List (Option Object)) (graphs : List NamedGraph) : Type 0 where
  pub stands : (n : ℕ) → stands_in (object_at slots n) ≡ standing_from 0 graphs n

-- what may be used again has room
pub room-living :
    (p : LivingState) (n life : ℕ) (seal : Option Seal)
    → (rights_living p).settled n life seal ≡ true → (n < 2 ^ 16) × (life + 1 < 2 ^ 32)
room-living p n life seal h =
    let may = (and_parts (may_live p.begun n life) (has_waited (standing_at p.standings n) seal)
    h).0 in
    room-of n life seal (and_parts (has_room n life) (eqb life (begun_at p.begun n)) may).0

pub idle-living :
    (world : LivingState) (d : Domain) (n : ℕ) → LivingAtRest world d n → n % 2 ≡ 0
    → (side d (known_living world)).number ≡ 0
idle-living world Plain n rest even = idle-of world.side Plain n rest even
idle-living world Tracing n rest even = idle-of world.side Tracing n rest even

-- a side of which nobody did anything, without pages
abbrev pub no_living_state : LivingState
no_living_state = record {
  side = record {
    post =
        record {
          pool = record { classes = []; units = [] };
          processors = 1;
          processor = 0;
          inboxes = no_parcels;
        };
    grace = record { processors = 1; processor = 0; plain = idle; tracing = idle };
  };
  slots = [];
  begun = [];
  standings = [];
  asked = 0;
  contents = [];
  graphs = [];
}
