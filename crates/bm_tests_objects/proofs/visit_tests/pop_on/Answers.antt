use Rattle.std.proofs.Common.{Some, refl, subst, sym}
use Rattle.bm_tests_objects.specs.Visits.{MayLeave, tag_of}
use Rattle.bm_tests_objects.proofs.Visits.{leaves-hands, leaves-list}
use Rattle.bm_tests_objects.proofs.visit_tests.pop_on.Goals as goal

pub returns-in_err-at-clause-leaves : goal.returns-in_err-at-clause-leaves
returns-in_err-at-clause-leaves c = subst MayLeave (sym (c.in_err-at.ensures.refused refl)) (leaves-list (Some (tag_of 2)))

pub returns-clause-leaves : goal.returns-clause-leaves
returns-clause-leaves c = subst MayLeave (sym c.in_ok-at.ensures.state) (leaves-hands (Some (tag_of 2)))
