use Rattle.std.proofs.Common.{vec_len}
use Rattle.bm_run.proofs.filling.give_up_fills.Given as goal

abbrev pub decreases-loop-class : goal.decreases-loop-class
decreases-loop-class l = vec_len l.fills
