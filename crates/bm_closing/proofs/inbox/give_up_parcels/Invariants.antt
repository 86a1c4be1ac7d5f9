use Rattle.std.proofs.Common.{vec_len}
use Rattle.bm_closing.proofs.inbox.give_up_parcels.Given as goal

abbrev pub decreases-loop-units : goal.decreases-loop-units
decreases-loop-units l = vec_len l.parcels
