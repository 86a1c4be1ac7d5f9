use Rattle.std.proofs.Common.{◌≡◌, ◌∙◌, sym, ap, subst, arith}
use Rattle.bm_cache.specs.Tests.{Tests, Either, Passes}
use Rattle.bm_work.specs.DeskTests.{since_test, tests_by}
use Rattle.bm_work.proofs.Alike.{alike-read}
use Rattle.bm_work.proofs.Sides.{stands-knows}
use Rattle.bm_work.proofs.Tests.{since-tests}
use Rattle.bm_work.proofs.Owing.{owes-called}
use Rattle.bm_work.proofs.stamps.take_stamp.Goals as goal

pub returns-clause-positive : goal.returns-clause-positive
returns-clause-positive g c = let k = c.stamp.ensures.known in omega (arith, k.stamp_is)

pub returns-clause-stands : goal.returns-clause-stands
returns-clause-stands g c = stands-knows g.R.Recorder.log g.R.Recorder.counts (λ _. Unit {0}) g.H.Host.tests g.H.Host.face g.H.Host.held g.H.Desk.shared g.H.Desk.with_shared g.H.W.Knows.known g.H.W.Knows.rights g.met.H.Desk.shared_back g.met.H.Desk.held_apart g.met.H.Desk.face_apart (λ h w a s. s) g.met.H.Desk.tests_are c.args.host.now c.world.result.now c.stamp.new.self _ c.world.ensures.held c.stamp.ensures.known.known (alike-read _ _ _ _) c.stamp.ensures.rights c.requires.stands

pub returns-clause-since : goal.returns-clause-since
returns-clause-since g c u =
    let h = c.args.host.now in
    let k = g.H.Desk.with_shared h c.stamp.new.self in
    let r = g.H.W.Knows.rights in
    let a : g.H.Host.tests h ≡ tests_by (r c.world.result.now) = g.met.H.Desk.tests_are h ∙ ap (λ x. tests_by (r x)) (sym c.world.ensures.held) in
    let b : g.H.Host.tests k ≡ tests_by (r c.stamp.new.self) = g.met.H.Desk.tests_are k ∙ ap (λ x. tests_by (r x)) (g.met.H.Desk.shared_back h c.stamp.new.self) in
    let F : Tests → Tests → Type 0 = λ x y. Either x u → Passes y (since_test c.args.domain c.stamp.result) u in
    subst (λ x. F x (g.H.Host.tests k)) (sym a) (subst (F (tests_by (r c.world.result.now))) (sym b) (since-tests (r c.world.result.now) (r c.stamp.new.self) c.args.domain c.stamp.result u c.stamp.ensures.rights c.stamp.ensures.since))

pub returns-clause-owes : goal.returns-clause-owes
returns-clause-owes g c done o = owes-called g.H.Desk.shared g.H.Desk.with_shared g.H.W.Knows.known g.H.W.Knows.does g.H.Desk.asked_owes g.met.H.Desk.asked_done c.args.host.now c.world.result.now c.stamp.new.self _ _ c.world.ensures.held c.stamp.ensures.known.known (alike-read _ _ _ _) c.stamp.ensures.does done o
