use Rattle.std.proofs.Common.{vec_len}
use Rattle.bm_run.proofs.closers.give_up_places.Given as goal

abbrev pub decreases-loop-place : goal.decreases-loop-place
decreases-loop-place l = vec_len l.places
