use Rattle.std.proofs.Common.{◌≡◌, ◌∙◌, Result, Ok, OnOk, refl, sym, ap, subst, arith}
use Rattle.bm_journal.specs.declared.ids.Domain.TheVariants.{Tracing}
use Rattle.bm_grace.specs.Known.{Known, side}
use Rattle.bm_post.specs.PostState.{rights_in}
use Rattle.bm_world.specs.SideState.{SideAtRest, SideState, known_of}
use Rattle.bm_work.proofs.Came.{takes-reusable}
use Rattle.bm_tests_machine.proofs.closing_tests.all_units_of_a_class_are_swept.Goals as goal

-- what an answer tells that is no error
from-ok : {X E : Type 0} (r : Result X E) (x : X) (A : Type 0) → r ≡ Ok x → OnOk r A → A
from-ok {X} {E} r x A e h = let F : Result X E → Type 0 = λ z. OnOk z A in subst F e h

pub desk_over-desk-requires-clause-reusable : goal.desk_over-desk-requires-clause-reusable
desk_over-desk-requires-clause-reusable g c = takes-reusable c.expect-class.result c.fetched-free.result.items (rights_in c.side_with_parcel-lent.result.post) (rights_in c.fetched-free.new.side.post) c.fetched-free.ensures.takes

pub sweep-requires-clause-rest : goal.sweep-requires-clause-rest
sweep-requires-clause-rest g c =
    let e : c.free_with_delay.new.host.side ≡ c.fetched-free.new.side = c.free_with_delay.ensures.keeps ∙ c.given_unit-unit.ensures.keeps ∙ c.desk_over-desk.ensures.side in
    let F : SideState → Type 0 = λ x. SideAtRest x Tracing 0 in
    (0, (subst F (sym e) (c.fetched-free.ensures.rest Tracing 0 (c.side_with_parcel-lent.ensures.rest Tracing)), refl))

pub sweep-requires-clause-room : goal.sweep-requires-clause-room
sweep-requires-clause-room g c =
    let e : c.free_with_delay.new.host.side ≡ c.fetched-free.new.side = c.free_with_delay.ensures.keeps ∙ c.given_unit-unit.ensures.keeps ∙ c.desk_over-desk.ensures.side in
    let a = ap (λ (x : SideState). (side Tracing (known_of x)).begins) e in
    let b = ap (λ (k : Known). (side Tracing k).begins) c.fetched-free.ensures.posts.known in
    let d = c.side_with_parcel-lent.ensures.begins Tracing in
    omega (arith, a, b, d)

pub sweep-requires-2-clause-rest : goal.sweep-requires-2-clause-rest
sweep-requires-2-clause-rest g c =
    let e : c.free_with_delay.new.host.side ≡ c.fetched-free.new.side = c.free_with_delay.ensures.keeps ∙ c.given_unit-unit.ensures.keeps ∙ c.desk_over-desk.ensures.side in
    let F : SideState → Type 0 = λ x. SideAtRest x Tracing 0 in
    let here : F c.free_with_delay.new.host.side = subst F (sym e) (c.fetched-free.ensures.rest Tracing 0 (c.side_with_parcel-lent.ensures.rest Tracing)) in
    let m = from-ok c.sweep.result c.expect.result _ c.expect.ensures c.sweep.ensures.rest 0 refl in
    (m.0, (m.1.1.moves here, m.1.0))

pub sweep-requires-2-clause-room : goal.sweep-requires-2-clause-room
sweep-requires-2-clause-room g c =
    let e : c.free_with_delay.new.host.side ≡ c.fetched-free.new.side = c.free_with_delay.ensures.keeps ∙ c.given_unit-unit.ensures.keeps ∙ c.desk_over-desk.ensures.side in
    let a = ap (λ (x : SideState). (side Tracing (known_of x)).begins) e in
    let b = ap (λ (k : Known). (side Tracing k).begins) c.fetched-free.ensures.posts.known in
    let d = c.side_with_parcel-lent.ensures.begins Tracing in
    let s = from-ok c.sweep.result c.expect.result _ c.expect.ensures c.sweep.ensures.sweeps in
    let f = s.tracing_begins in
    omega (arith, a, b, d, f)
