use Rattle.std.proofs.Common.{Some, subst, sym}
use Rattle.bm_tests_objects.specs.Visits.{MayLeave, tag_of}
use Rattle.bm_tests_objects.proofs.Visits.{leaves-hands, leaves-list}
use Rattle.bm_tests_objects.proofs.visit_tests.push_on.Goals as goal

pub returns-in-Ok-clause-leaves : goal.returns-in-Ok-clause-leaves
returns-in-Ok-clause-leaves c = subst MayLeave (sym c.in-Ok.ensures.state) (leaves-list (Some (tag_of 1)))

pub returns-in-Err-clause-leaves : goal.returns-in-Err-clause-leaves
returns-in-Err-clause-leaves c = subst MayLeave (sym c.in-Err.ensures.refused) (leaves-hands (Some (tag_of 1)))
