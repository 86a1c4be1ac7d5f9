use Rattle.std.proofs.Common.{[], append-nil}
use Rattle.bm_tests_world.proofs.pool_tests.put_all_back.Goals as goal

pub loop-unit-preserved : goal.loop-unit-preserved
loop-unit-preserved c =
    let before = rw c.in-Some.ensures.items at c.loop-unit.invariant in
    rw append-nil at (c.put_back.ensures.out c.pop.new.self.items [] before)
