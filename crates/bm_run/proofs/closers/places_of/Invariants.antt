use Rattle.std.proofs.Common.{◌≡◌, ◌++◌, map, reverse, vec_len}
use Rattle.bm_run.specs.declared.seats.Seat.{Seat}
use Rattle.bm_run.proofs.closers.places_of.Given as goal

-- the last seats, of which the first ones are left
abbrev pub invariant-loop-seat : goal.invariant-loop-seat
invariant-loop-seat l = map (λ (x : Seat). x.kept) l.seats.items ++ reverse l.places.items ≡ map (λ (x : Seat). x.kept) l.initial.seats.items

abbrev pub decreases-loop-seat : goal.decreases-loop-seat
decreases-loop-seat l = vec_len l.seats
