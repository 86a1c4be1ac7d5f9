use Rattle.bm_tests_objects.specs.Visits.{others}
use Rattle.bm_tests_objects.proofs.visit_tests.opened.Goals as goal

pub returns : goal.returns
unfolding others
returns g c = c.one_world.ensures
