-- The world on one thread that tells which units wait. (This project's own. The kernel keeps units that wait in lists apart,
-- and nothing there tells of a unit itself that it waits.)
use Rattle.std.specs.Prelude.{◌≡◌, ◌≤◌, ℕ, ◌+◌, ◌%◌, ◌^◌, ◌<◌, ◌&&◌, not, nat_le, Bool, true, false, Option, None, Some, List, [], ◌∷◌, length, slice_index_or, slice_set, replicate}
use Rattle.bm_journal.specs.declared.ids.Domain.{Domain}
use Rattle.bm_journal.specs.declared.ids.Domain.TheVariants.{Plain, Tracing}
use Rattle.bm_page.specs.declared.units.Seal.{Seal}
use Rattle.bm_grace.specs.Answers.{next}
use Rattle.bm_grace.specs.PlainState.{PlainState}
use Rattle.bm_grace.specs.Known.{side}
use Rattle.bm_grace.specs.Rights.{Rights}
use Rattle.std.proofs.lemmas.Bool.{and_parts}
use Rattle.bm_post.specs.HasRoom.{has_room, room-of}
use Rattle.bm_post.specs.PostState.{PostState, is_mine}
use Rattle.bm_world.specs.SideState.{SideAtRest, SideState, idle-of, known_of}
use Rattle.bm_world.specs.declared.wait.Wait.{Wait}

-- The side, and by a unit's number since when it waits; none where it doesn't.
pub record WaitingState : Type 0 where
  pub side : SideState
  pub waits : List (Option Wait)

abbrev pub wait_of : List (Option Wait) → ℕ → Option Wait
wait_of waits n = slice_index_or waits n None

abbrev pub is_waiting : Option Wait → Bool
is_waiting None = false
is_waiting (Some wait) = true

-- the stamp of a domain that was taken when a unit began to wait
abbrev pub stamp_in : Domain → Wait → ℕ
stamp_in Plain wait = wait.plain
stamp_in Tracing wait = wait.tracing

-- A stamp is of use to a unit where it was taken no earlier than the unit began to wait.
abbrev pub counts_for : Domain → ℕ → Option Wait → Bool
counts_for d x None = true
counts_for d x (Some wait) = nat_le (stamp_in d wait) x

-- A plain stamp and a number pass a wait: the stamp was taken no earlier than it began, the number is at least the stamp,
-- and the domain had it.
abbrev pub passes : ℕ → Wait → Seal → Bool
passes number wait seal =
    nat_le wait.plain seal.stamp && (nat_le seal.stamp seal.seen && nat_le seal.seen number)

-- A wait is over by the seal of its unit, or where there is none by the number of the tracing domain.
abbrev pub is_over : (plain tracing : ℕ) → Option Wait → Option Seal → Bool
is_over plain tracing None seal = false
is_over plain tracing (Some wait) None = nat_le wait.tracing tracing
is_over plain tracing (Some wait) (Some seal) = passes plain wait seal

-- Mine is what is mine of the side. A unit may be used again where it doesn't wait, whatever its seal; where it waits it is
-- due, and it is ripe once its wait is over. Each of them has room for one life more.
abbrev pub rights_with : PostState → (plain tracing : ℕ) → List (Option Wait) → Rights
rights_with post plain tracing waits = record {
  mine = is_mine post;
  settled = λ n life seal. has_room n life && not (is_waiting (wait_of waits n));
  due = λ n life seal. has_room n life && is_waiting (wait_of waits n);
  ripe = λ n life seal. has_room n life && is_over plain tracing (wait_of waits n) seal;
  since = λ d x n. counts_for d x (wait_of waits n);
}

abbrev pub rights_now : WaitingState → Rights
rights_now state =
    rights_with state.side.post state.side.grace.plain.number state.side.grace.tracing.number
    state.waits

-- All is at rest where it is on the side.
abbrev pub WaitingAtRest : WaitingState → Domain → ℕ → Type 0
WaitingAtRest world = SideAtRest world.side

-- nothing waits
abbrev pub no_waits : List (Option Wait)
no_waits = replicate 65536 None

-- A unit begins to wait now.
abbrev pub wait_now : PlainState → Wait
wait_now grace = record { plain = next grace.plain.number; tracing = next grace.tracing.number }

abbrev pub with_wait : ℕ → WaitingState → WaitingState
with_wait n state =
    record state { waits = slice_set state.waits n (Some (wait_now state.side.grace)) }

-- the units with these numbers wait no more
abbrev pub cleared : List ℕ → List (Option Wait) → List (Option Wait)
cleared [] waits = waits
cleared (n ∷ ns) waits = cleared ns (slice_set waits n None)

-- what the two parts keep true: a unit that waits is mine, and it began to wait no later than now
pub record AreKept (post : PostState) (plain tracing : ℕ) (waits : List (Option Wait)) :
    Type 0 where
  pub size : length waits ≡ 65536
  pub mine : (n : ℕ) (wait : Wait) → wait_of waits n ≡ Some wait → is_mine post n ≡ true
  pub began_plain : (n : ℕ) (wait : Wait) → wait_of waits n ≡ Some wait → wait.plain ≤ next plain
  pub began_tracing :
      (n : ℕ) (wait : Wait) → wait_of waits n ≡ Some wait → wait.tracing ≤ next tracing

-- what may be used again has room
pub room-now :
    (p : WaitingState) (n life : ℕ) (seal : Option Seal) → (rights_now p).settled n life seal ≡ true
    → (n < 2 ^ 16) × (life + 1 < 2 ^ 32)
room-now p n life seal h =
    room-of n life seal (and_parts (has_room n life) (not (is_waiting (wait_of p.waits n))) h).0

pub idle-now :
    (world : WaitingState) (d : Domain) (n : ℕ) → WaitingAtRest world d n → n % 2 ≡ 0
    → (side d (known_of world.side)).number ≡ 0
idle-now world = idle-of world.side
