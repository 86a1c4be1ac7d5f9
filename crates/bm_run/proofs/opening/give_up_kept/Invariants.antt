use Rattle.std.proofs.Common.{vec_len}
use Rattle.bm_run.proofs.opening.give_up_kept.Given as goal

abbrev pub decreases-loop-own : goal.decreases-loop-own
decreases-loop-own l = vec_len l.kept
