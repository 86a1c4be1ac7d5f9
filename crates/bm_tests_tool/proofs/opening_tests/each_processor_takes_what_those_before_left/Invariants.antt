use Rattle.std.proofs.Common.{vec_len}
use Rattle.bm_tests_tool.proofs.opening_tests.each_processor_takes_what_those_before_left.Given as goal

abbrev pub decreases-loop-last : goal.decreases-loop-last
decreases-loop-last g l = vec_len l.kept
