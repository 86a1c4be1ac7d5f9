use Rattle.std.proofs.Common.{refl}
use Rattle.bm_class.specs.Sizes.{class_of_size}
use Rattle.bm_tests_objects.proofs.visit_tests.make_first.Goals as goal

pub make-requires-clause-class : goal.make-requires-clause-class
unfolding class_of_size
make-requires-clause-class g c = rw (c.requires, c.next_unit-unit.ensures.class) refl
