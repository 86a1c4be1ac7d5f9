use Rattle.std.proofs.Common.{refl, None, ap, ◌∙◌, ◌≡◌}
use Rattle.bm_class.specs.Sizes.{class_of_size}
use Rattle.bm_obj.specs.Known.{Known}
use Rattle.bm_obj.specs.WorldState.{known_of}
use Rattle.bm_tests_objects.proofs.shelf_tests.a_note_goes_through_a_shelf.Goals as goal

pub make-x-requires-clause-class : goal.make-x-requires-clause-class
unfolding class_of_size
make-x-requires-clause-class g c = rw (c.one_world-world.ensures, c.next_unit-unit.ensures.class) refl

pub put_in-note-requires-clause-page : goal.put_in-note-requires-clause-page
put_in-note-requires-clause-page g c =
    let x = c.make-x.result in
    let first : (known_of c.one_world-world.result).claims x.unit ≡ None = rw (c.make-x.ensures.answer, c.next_unit-unit.ensures.number, c.one_world-world.ensures) refl in
    let none : (known_of c.make-x.new.self).claims x.unit ≡ None = ap (λ (k : Known). k.claims x.unit) c.make-x.ensures.known ∙ first in
    rw none tt
