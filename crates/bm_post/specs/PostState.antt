-- The pool and all inboxes, for one thread.
use Rattle.std.specs.Prelude.{ℕ, ◌+◌, ◌*◌, ◌&&◌, eqb, nat_lt, if◌then◌else◌, Bool, true, Some, List, map, [], ◌∷◌, ◌++◌, drop, replicate, slice_index_or, slice_set}
use Rattle.std.specs.List.{sum_by}
use Rattle.bm_law.specs.Stands.{times}
use Rattle.bm_page.specs.UnitState.{UnitState}
use Rattle.bm_page.specs.Stock.{Stock, stocked_at, returned}
use Rattle.bm_grace.specs.Known.{Known, no_objects, no_side}
use Rattle.bm_grace.specs.Rights.{Rights}
use Rattle.bm_post.specs.HasRoom.{has_room}
use Rattle.bm_post.specs.Parcels.{Inboxes}
use Rattle.bm_post.specs.Rights.{numbers}

-- The parcels of an inbox, oldest first.
abbrev pub Parcels : Type 0
Parcels = List (List UnitState)

-- The pool; among how many processors, and whose side it is now; and the inboxes of eight processors, eleven each, by
-- class.
pub record PostState : Type 0 where
  pub pool : Stock
  pub processors : ℕ
  pub processor : ℕ
  pub inboxes : List Parcels

-- All inboxes are empty.
abbrev pub no_parcels : List Parcels
no_parcels = replicate 88 []

abbrev pub place : ℕ → ℕ → ℕ
place processor class = 11 * processor + class

abbrev pub inbox : ℕ → ℕ → PostState → Parcels
inbox processor class state = slice_index_or state.inboxes (place processor class) []

abbrev pub with_inbox : ℕ → ℕ → Parcels → PostState → PostState
with_inbox processor class parcels state =
    record state { inboxes = slice_set state.inboxes (place processor class) parcels }

-- Units were sent as one parcel, which is the newest.
abbrev pub sent_to : ℕ → ℕ → List UnitState → PostState → PostState
sent_to processor class units state =
    with_inbox processor class (inbox processor class state ++ units ∷ []) state

-- The oldest parcel of an inbox was taken.
abbrev pub taken_by : ℕ → ℕ → PostState → PostState
taken_by processor class state =
    with_inbox processor class (drop 1 (inbox processor class state)) state

-- One unit after the other goes back to the pool.
abbrev pub all_returned : List UnitState → Stock → Stock
all_returned [] pool = pool
all_returned (unit ∷ units) pool = all_returned units (returned unit pool)

-- How often a number stands in parcels.
abbrev pub times_in : ℕ → Parcels → ℕ
times_in n parcels = sum_by (λ (units : List UnitState). times n (numbers units)) parcels

abbrev pub waits : ℕ → List Parcels → ℕ
waits n inboxes = sum_by (times_in n) inboxes

-- Mine are the units that are out of the pool and stand in no inbox.
abbrev pub is_mine : PostState → ℕ → Bool
is_mine state n = (stocked_at state.pool.units n).out && eqb (waits n state.inboxes) 0

-- The parcels in the inboxes of the processor whose side it is, by the numbers of their units; there are eleven classes.
abbrev pub told_in : PostState → Inboxes
told_in state = λ c. if nat_lt c 11 then map numbers (inbox state.processor c state) else []

-- A post knows among how many processors it is, and whose side, and tells its parcels; of grace periods and of objects it knows
-- nothing.
abbrev pub known_by : PostState → Known
known_by state = record {
  grace =
      record {
        processors = state.processors;
        processor = state.processor;
        plain = no_side;
        tracing = no_side;
      };
  steps = [];
  parcels = Some (told_in state);
  objects = no_objects;
}

-- On one thread each unit with room for one life more may be used again as soon as it is there, whatever its seal.
abbrev pub rights_in : PostState → Rights
rights_in state = record {
  mine = is_mine state;
  settled = λ n life seal. has_room n life;
  due = λ n life seal. has_room n life;
  ripe = λ n life seal. has_room n life;
  since = λ d x n. true;
}
