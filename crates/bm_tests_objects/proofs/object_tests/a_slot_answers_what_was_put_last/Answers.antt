use Rattle.std.proofs.Common.{◌≡◌, ◌∙◌, Option, None, Some, refl, sym, ap, subst, arith}
use Rattle.bm_class.specs.Sizes.{class_of_size}
use Rattle.bm_obj.specs.Known.{Has, Known, gained, told_exchanged}
use Rattle.bm_obj.specs.Reference.{Reference}
use Rattle.bm_obj.specs.WorldState.{known_of}
use Rattle.bm_obj.proofs.Sides.{has-gained, has-gained-other, has-released-other, has-spent-other}
use Rattle.bm_tests_objects.proofs.object_tests.a_slot_answers_what_was_put_last.Goals as goal

pub make-x-requires-clause-class : goal.make-x-requires-clause-class
unfolding class_of_size
make-x-requires-clause-class g c = rw (c.one_world-world.ensures, c.next_unit-first.ensures.class) refl

pub make-y-requires-clause-class : goal.make-y-requires-clause-class
unfolding class_of_size
make-y-requires-clause-class g c = rw (c.make-x.ensures.state, c.one_world-world.ensures, c.next_unit-second.ensures.class) refl

pub release-requires-clause-has : goal.release-requires-clause-has
release-requires-clause-has g c =
    let x = c.some-x.result in
    let y = c.make-y.result in
    let z = c.some-y.result in
    let k2 = known_of c.exchange_once-2.new.world in
    let k3 = known_of c.exchange_once-3.new.world in
    let k4 = known_of c.exchange_once-4.new.world in
    let is_x : x.unit ≡ 0 = c.some-x.ensures.unit in
    let is_y : y.unit ≡ 1 = ap (λ (r : Reference). r.unit) c.make-y.ensures.answer ∙ c.next_unit-second.ensures.number in
    let is_z : z.unit ≡ 1 = c.some-y.ensures.unit in
    let T : Known → Type 0 = λ k. Has x k in
    let to3 = c.exchange_once-3.ensures.known ∙ ap (λ (o : Option Reference). told_exchanged (λ r. r) (Some y) o k2) c.some-x.ensures.is in
    let h3 : Has x k3 = subst T (sym to3) (has-spent-other x y (gained x k2) (λ e. (let n : 1 ≡ 0 = sym is_y ∙ (e ∙ is_x) in absurd (omega arith))) (has-gained x k2)) in
    let to4 = c.exchange_once-4.ensures.known ∙ ap (λ (o : Option Reference). told_exchanged (λ r. r) None o k3) c.some-y.ensures.is in
    let h4 : Has x k4 = subst T (sym to4) (has-gained-other x z k3 (λ e. (let n : 1 ≡ 0 = sym is_z ∙ (e ∙ is_x) in absurd (omega arith))) h3) in
    let to5 = c.exchange_once-5.ensures.known ∙ ap (λ (o : Option Reference). told_exchanged (λ r. r) None o k4) c.none-3.ensures in
    subst T (sym to5) h4

pub release-requires-2-clause-has : goal.release-requires-2-clause-has
release-requires-2-clause-has g c =
    let x = c.some-x.result in
    let z = c.some-y.result in
    let k3 = known_of c.exchange_once-3.new.world in
    let k4 = known_of c.exchange_once-4.new.world in
    let k5 = known_of c.exchange_once-5.new.world in
    let is_x : x.unit ≡ 0 = c.some-x.ensures.unit in
    let is_z : z.unit ≡ 1 = c.some-y.ensures.unit in
    let T : Known → Type 0 = λ k. Has z k in
    let to4 = c.exchange_once-4.ensures.known ∙ ap (λ (o : Option Reference). told_exchanged (λ r. r) None o k3) c.some-y.ensures.is in
    let h4 : Has z k4 = subst T (sym to4) (has-gained z k3) in
    let to5 = c.exchange_once-5.ensures.known ∙ ap (λ (o : Option Reference). told_exchanged (λ r. r) None o k4) c.none-3.ensures in
    let h5 : Has z k5 = subst T (sym to5) h4 in
    subst T (sym c.release.ensures.known) (has-released-other z x c.release.result k5 (λ e. (let n : 0 ≡ 1 = sym is_x ∙ (e ∙ is_z) in absurd (omega arith))) h5)
