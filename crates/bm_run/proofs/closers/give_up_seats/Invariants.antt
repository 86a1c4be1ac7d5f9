use Rattle.std.proofs.Common.{vec_len}
use Rattle.bm_run.proofs.closers.give_up_seats.Given as goal

abbrev pub decreases-loop-seat : goal.decreases-loop-seat
decreases-loop-seat l = vec_len l.seats
