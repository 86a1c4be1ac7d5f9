use Rattle.std.proofs.Common.{◌≡◌, ◌∙◌, ℕ, None, Some, ap, subst, sym}
use Rattle.bm_obj.specs.Reference.{Reference}
use Rattle.bm_obj.specs.Table.{object_at}
use Rattle.bm_obj.specs.WorldState.{World, released}
use Rattle.bm_obj.specs.declared.object.UnitPlace.TheVariants.{Free}
use Rattle.bm_tests_objects.specs.Visits.{MayLeave, in_hands, tag_of, world_with}
use Rattle.bm_tests_objects.proofs.Visits.{leaves-hands, none-lives}
use Rattle.bm_tests_objects.proofs.visit_tests.an_object_goes_into_a_list_and_out.Goals as goal

pub page_out-page-requires-clause-claims : goal.page_out-page-requires-clause-claims
page_out-page-requires-clause-claims g c = (subst MayLeave (sym c.make_first-x.ensures.state) (leaves-hands None)).1

pub finish-requires : goal.finish-requires
finish-requires g c =
    let last = Some (tag_of 2) in
    let before = c.page_in.ensures.state ∙ c.pop-world.ensures.state in
    let of_first = ap (λ (r : Reference). released r (world_with in_hands None last)) c.pop-world.ensures.reference in
    let after : c.release.new.self ≡ world_with (Free 1) None last = c.release.ensures.state ∙ (ap (λ (w : World). released c.pop-world.result.1 w) before ∙ of_first) in
    subst (λ (w : World). (n : ℕ) → object_at w.places n ≡ None) (sym after) (none-lives 1 None last)
