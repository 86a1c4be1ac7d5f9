use Rattle.std.proofs.Common.{◌≡◌, ◌%◌, ℕ, ap, sym, subst, arith}
use Rattle.bm_journal.specs.declared.ids.Domain.TheVariants.{Plain, Tracing}
use Rattle.bm_grace.specs.Known.{Known, side}
use Rattle.bm_post.specs.PostState.{rights_in}
use Rattle.bm_world.specs.SideState.{SideAtRest, SideState, known_of}
use Rattle.bm_work.proofs.Came.{takes-reusable}
use Rattle.bm_closing.specs.AtEnd.{ended_at}
use Rattle.bm_tests_machine.proofs.closing_tests.a_processor_is_closed.Goals as goal

pub desk_over-desk-requires-clause-reusable : goal.desk_over-desk-requires-clause-reusable
desk_over-desk-requires-clause-reusable g c = takes-reusable c.expect-class.result c.fetched-free.result.items (rights_in c.begin_plain.new.lent.post) (rights_in c.fetched-free.new.side.post) c.fetched-free.ensures.takes

pub close-requires-clause-rest : goal.close-requires-clause-rest
close-requires-clause-rest g c Plain =
    let r = c.begin_plain.ensures.rest Plain in
    let F : SideState → Type 0 = λ x. SideAtRest x Plain r.0 × (ended_at (side Plain (known_of x)).number r.0 % 2 ≡ 0) in
    let G : ℕ → Type 0 = λ n. ended_at n r.0 % 2 ≡ 0 in
    let same = ap (λ (k : Known). (side Plain k).number) c.fetched-free.ensures.posts.known in
    let here : F c.fetched-free.new.side = (c.fetched-free.ensures.rest Plain r.0 r.1.0, subst G (sym same) r.1.1) in
    (r.0, subst F (sym c.desk_over-desk.ensures.side) here)
close-requires-clause-rest g c Tracing =
    let r = c.begin_plain.ensures.rest Tracing in
    let F : SideState → Type 0 = λ x. SideAtRest x Tracing r.0 × (ended_at (side Tracing (known_of x)).number r.0 % 2 ≡ 0) in
    let G : ℕ → Type 0 = λ n. ended_at n r.0 % 2 ≡ 0 in
    let same = ap (λ (k : Known). (side Tracing k).number) c.fetched-free.ensures.posts.known in
    let here : F c.fetched-free.new.side = (c.fetched-free.ensures.rest Tracing r.0 r.1.0, subst G (sym same) r.1.1) in
    (r.0, subst F (sym c.desk_over-desk.ensures.side) here)

pub close-requires-clause-room : goal.close-requires-clause-room
close-requires-clause-room g c =
    let a = ap (λ (x : SideState). (side Tracing (known_of x)).begins) c.desk_over-desk.ensures.side in
    let b = ap (λ (k : Known). (side Tracing k).begins) c.fetched-free.ensures.posts.known in
    let e = c.begin_plain.ensures.begins in
    let d = c.side_with_parcel-lent.ensures.begins Tracing in
    omega (arith, a, b, d, e)
