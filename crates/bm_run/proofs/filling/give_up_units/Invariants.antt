use Rattle.std.proofs.Common.{vec_len}
use Rattle.bm_run.proofs.filling.give_up_units.Given as goal

abbrev pub decreases-loop-unit : goal.decreases-loop-unit
decreases-loop-unit l = vec_len l.units
