use Rattle.std.proofs.Common.{vec_len}
use Rattle.bm_page.specs.Out.{AreOut}
use Rattle.bm_tests_world.proofs.pool_tests.put_all_back.Given as goal

abbrev pub invariant-loop-unit : goal.invariant-loop-unit
invariant-loop-unit l = AreOut l.pool l.units.items

abbrev pub decreases-loop-unit : goal.decreases-loop-unit
decreases-loop-unit l = vec_len l.units
