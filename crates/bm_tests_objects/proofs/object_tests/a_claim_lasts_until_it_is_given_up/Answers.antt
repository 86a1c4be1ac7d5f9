use Rattle.std.proofs.Common.{◌≡◌, ◌∙◌, None, refl, sym, ap, subst}
use Rattle.bm_class.specs.Sizes.{class_of_size}
use Rattle.bm_obj.specs.Known.{Has, HasPage, Known, MayEnd, at_unit}
use Rattle.bm_obj.specs.WorldState.{known_of}
use Rattle.bm_obj.proofs.Sides.{has-claimed, has-gained, may-end-claimed, page-claimed, there}
use Rattle.bm_tests_objects.proofs.object_tests.a_claim_lasts_until_it_is_given_up.Goals as goal

pub make-x-requires-clause-class : goal.make-x-requires-clause-class
unfolding class_of_size
make-x-requires-clause-class g c = rw (c.one_world-world.ensures, c.next_unit-unit.ensures.class) refl

pub unclaim-requires-2-clause-has : goal.unclaim-requires-2-clause-has
unclaim-requires-2-clause-has g c =
    let x = c.make-x.result in
    let T : Known → Type 0 = λ k. Has x k in
    let k0 = known_of c.one_world-world.result in
    let h0 : T (known_of c.make-x.new.self) = subst T (sym c.make-x.ensures.known) (has-gained x (record k0 { mine = at_unit x.unit None k0.mine })) in
    let h1 : T (known_of c.claim.new.self) = subst T (sym c.claim.ensures.known) (has-claimed x x 0 c.claim.result (known_of c.make-x.new.self) h0) in
    let h2 : T (known_of c.claim-2.new.self) = subst T (sym c.claim-2.ensures.known) (has-claimed x x 0 c.claim-2.result (known_of c.claim.new.self) h1) in
    let h3 : T (known_of c.unclaim.new.self) = subst T (sym c.unclaim.ensures.known) h2 in
    subst T (sym c.claim-3.ensures.known) (has-claimed x x 0 c.claim-3.result (known_of c.unclaim.new.self) h3)

pub unclaim-requires-2-clause-ends : goal.unclaim-requires-2-clause-ends
unclaim-requires-2-clause-ends g c =
    let x = c.make-x.result in
    let T : Known → Type 0 = λ k. HasPage 0 k in
    let k2 = known_of c.claim-2.new.self in
    let first : T (known_of c.one_world-world.result) = rw c.one_world-world.ensures refl in
    let h0 : T (known_of c.make-x.new.self) = subst T (sym c.make-x.ensures.known) first in
    let h1 : T (known_of c.claim.new.self) = subst T (sym c.claim.ensures.known) (page-claimed 0 x 0 c.claim.result (known_of c.make-x.new.self) h0) in
    let h2 : T k2 = subst T (sym c.claim-2.ensures.known) (page-claimed 0 x 0 c.claim-2.result (known_of c.claim.new.self) h1) in
    let h3 : T (known_of c.unclaim.new.self) = subst T (sym c.unclaim.ensures.known) h2 in
    let none : (known_of c.unclaim.new.self).claims x.unit ≡ None = ap (λ (k : Known). k.claims x.unit) c.unclaim.ensures.known ∙ there x.unit None k2.claims in
    subst (λ (k : Known). MayEnd x k) (sym c.claim-3.ensures.known) (may-end-claimed x 0 c.claim-3.result (known_of c.unclaim.new.self) none h3)

pub release-requires-clause-has : goal.release-requires-clause-has
release-requires-clause-has g c =
    let x = c.make-x.result in
    let T : Known → Type 0 = λ k. Has x k in
    let k0 = known_of c.one_world-world.result in
    let h0 : T (known_of c.make-x.new.self) = subst T (sym c.make-x.ensures.known) (has-gained x (record k0 { mine = at_unit x.unit None k0.mine })) in
    let h1 : T (known_of c.claim.new.self) = subst T (sym c.claim.ensures.known) (has-claimed x x 0 c.claim.result (known_of c.make-x.new.self) h0) in
    let h2 : T (known_of c.claim-2.new.self) = subst T (sym c.claim-2.ensures.known) (has-claimed x x 0 c.claim-2.result (known_of c.claim.new.self) h1) in
    let h3 : T (known_of c.unclaim.new.self) = subst T (sym c.unclaim.ensures.known) h2 in
    let h4 : T (known_of c.claim-3.new.self) = subst T (sym c.claim-3.ensures.known) (has-claimed x x 0 c.claim-3.result (known_of c.unclaim.new.self) h3) in
    subst T (sym c.unclaim-2.ensures.known) h4
