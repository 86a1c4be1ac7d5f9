use Rattle.std.proofs.Common.{vec_len}
use Rattle.bm_tests_machine.proofs.work_tests.end.Given as goal

abbrev pub decreases-loop-unit : goal.decreases-loop-unit
decreases-loop-unit g l = vec_len l.units
