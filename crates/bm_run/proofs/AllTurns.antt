-- Processors that take turns, by whether they have ended.
use Rattle.std.specs.Prelude.{◌≡◌, ℕ, zero, suc, true, false, List, [], ◌∷◌, Some, get_or, slice_get}
use Rattle.std.proofs.Common.{refl, sym, ◌∙◌, ap}
use Rattle.bm_exec_levels.specs.declared.program.Program.{Program}
use Rattle.bm_world.specs.LivingState.{LivingState}
use Rattle.bm_run.specs.Between.{AllStopped, Between, ended_of}
use Rattle.bm_run.specs.declared.seats.Seat.{Seat}
use Rattle.bm_run.proofs.TurnsInOrder.{turn-passed}

-- whether a processor has ended, by its seat
pub seat-ended : (seats : List Seat) (p : ℕ) (seat : Seat) → slice_get seats p ≡ Some seat → get_or (ended_of seats) p true ≡ seat.ended
seat-ended [] p seat h = absurd cc
seat-ended (x ∷ seats) zero seat h = (let same : x ≡ seat = cc in ap (λ (y : Seat). y.ended) same)
seat-ended (x ∷ seats) (suc p) seat h = seat-ended seats p seat h

-- one that hasn't ended has a seat
pub seat-going : (seats : List Seat) (p : ℕ) → get_or (ended_of seats) p true ≡ false → (seat : Seat) × (slice_get seats p ≡ Some seat) × (seat.ended ≡ false)
seat-going [] p h = absurd cc
seat-going (x ∷ seats) zero h = (x, refl, h)
seat-going (x ∷ seats) (suc p) h = seat-going seats p h

-- where each has ended by number, each has by its seat
pub all-stopped : (seats : List Seat) → ((p : ℕ) (seat : Seat) → slice_get seats p ≡ Some seat → get_or (ended_of seats) p true ≡ true) → AllStopped seats
all-stopped seats h p seat f = sym (seat-ended seats p seat f) ∙ h p seat f

-- A turn that is named of a processor that has ended is passed over.
pub between-passed : (g : Program) (p : ℕ) (turns rest : List ℕ) (seats : List Seat) (world : LivingState) → get_or (ended_of seats) p true ≡ true → Between g turns (p ∷ rest) seats world → Between g turns rest seats world
between-passed g p turns rest seats world done b = record {
  many = b.many;
  order = b.order;
  taken = b.taken;
  logs = b.logs;
  bases = b.bases;
  shares = b.shares;
  turned = turn-passed g.scenario.now.processors p turns rest b.taken (ended_of seats) b.order b.turned done;
  pieces = b.pieces;
  logs_are = b.logs_are;
  so_far = b.so_far;
  waits = b.waits;
  seated = b.seated;
  add_up = b.add_up;
  shares_many = b.shares_many;
  few = b.few;
}
