use Rattle.bm_page.specs.Out.{AreOut}
use Rattle.bm_tests_world.proofs.pool_tests.stock_goes_by_the_worked_rows.Given as goal

abbrev pub invariant-loop-back : goal.invariant-loop-back
invariant-loop-back g l = AreOut l.pool l.held.items
