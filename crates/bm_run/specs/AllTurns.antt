-- Processors before their first turns. (This project's own.)
use Rattle.std.specs.Prelude.{◌≡◌, ◌+◌, ℕ, false, IsSome, List, [], ◌∷◌, None, Some, slice_get}
use Rattle.bm_lang.specs.declared.scenario.RunLine.{RunLine}
use Rattle.bm_exec_levels.specs.declared.kept.Kept.{Kept}
use Rattle.bm_run.specs.declared.seats.Seat.{Seat}

-- This is processor p before its first turn, which keeps so much: it has all these lines to run, among them those of other processors.
pub record IsSeatOf (lines : List RunLine) (p : ℕ) (own : Kept) (seat : Seat) : Type 0 where
  pub kept : seat.kept ≡ Some own
  pub processor : seat.remaining.processor ≡ p
  pub begun : seat.remaining.begun ≡ None
  pub lines_are : seat.remaining.lines.now ≡ lines
  pub going : seat.ended ≡ false

-- so are these, ascending from p, one for each of those that are kept
abbrev pub AreSeats : List RunLine → (p : ℕ) → List Kept → List Seat → Type 0
AreSeats lines p [] [] = Unit {0}
AreSeats lines p (own ∷ kept) (seat ∷ seats) =
    IsSeatOf lines p own seat × AreSeats lines (p + 1) kept seats
AreSeats lines p [] (seat ∷ seats) = ⊥
AreSeats lines p (own ∷ kept) [] = ⊥

-- each of these processors tells its log
abbrev pub AllTold : List Kept → Type 0
AllTold kept = (p : ℕ) (own : Kept) → slice_get kept p ≡ Some own → IsSome own.caches.recorder.told

-- one of them has failed, and tells none
pub record SomeFailed (kept : List Kept) : Type 0 where
  pub processor : ℕ
  pub own : Kept
  pub own_is : slice_get kept processor ≡ Some own
  pub failed : own.caches.recorder.told ≡ None
