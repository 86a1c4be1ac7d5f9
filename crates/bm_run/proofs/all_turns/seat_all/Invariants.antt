use Rattle.std.proofs.Common.{◌≤◌, ◌+◌, ◌++◌, List, length}
use Rattle.bm_run.specs.AllTurns.{AreSeats}
use Rattle.bm_run.specs.declared.seats.Seat.{Seat}
use Rattle.bm_run.proofs.all_turns.seat_all.Given as goal

abbrev pub invariant-loop-own : goal.invariant-loop-own
invariant-loop-own l = record {
  so_far : (more : List Seat) → AreSeats l.lines l.processor l.rest.items more → AreSeats l.lines 0 l.fn.kept.items (l.seats.items ++ more);
  few : l.processor + length l.rest.items ≤ 8;
}

abbrev pub decreases-loop-own : goal.decreases-loop-own
decreases-loop-own l = length l.rest.items
