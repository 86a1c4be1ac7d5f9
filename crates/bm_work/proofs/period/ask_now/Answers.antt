use Rattle.bm_work.proofs.Owing.{owes-called}
use Rattle.std.proofs.Common.{◌≡◌, sym, ◌∙◌, ap, subst}
use Rattle.bm_cache.specs.Tests.{Tests}
use Rattle.bm_work.specs.DeskTests.{Ripened, tests_by}
use Rattle.bm_work.proofs.Alike.{alike-read}
use Rattle.bm_work.proofs.Sides.{stands-knows}
use Rattle.bm_work.proofs.Tests.{ripens-tests}
use Rattle.bm_work.proofs.period.ask_now.Goals as goal

pub returns-clause-stands : goal.returns-clause-stands
returns-clause-stands g c = stands-knows g.R.Recorder.log g.R.Recorder.counts (λ _. Unit {0}) g.H.Host.tests g.H.Host.face g.H.Host.held g.H.Desk.shared g.H.Desk.with_shared g.H.W.Knows.known g.H.W.Knows.rights g.met.H.Desk.shared_back g.met.H.Desk.held_apart g.met.H.Desk.face_apart (λ h w a s. s) g.met.H.Desk.tests_are c.args.host.now c.world.result.now c.done.new.self _ c.world.ensures.held c.done.ensures.known (alike-read _ _ _ _) c.done.ensures.rights c.requires.stands

pub returns-clause-ripe : goal.returns-clause-ripe
returns-clause-ripe g c u =
    let h = c.args.host.now in
    let k = g.H.Desk.with_shared h c.done.new.self in
    let r = g.H.W.Knows.rights in
    let a : g.H.Host.tests h ≡ tests_by (r c.world.result.now) = g.met.H.Desk.tests_are h ∙ ap (λ x. tests_by (r x)) (sym c.world.ensures.held) in
    let b : g.H.Host.tests k ≡ tests_by (r c.done.new.self) = g.met.H.Desk.tests_are k ∙ ap (λ x. tests_by (r x)) (g.met.H.Desk.shared_back h c.done.new.self) in
    let F : Tests → Tests → Type 0 = λ x y. Ripened x y c.args.domain c.args.stamp c.done.result u in
    subst (λ x. F x (g.H.Host.tests k)) (sym a) (subst (F (tests_by (r c.world.result.now))) (sym b) (ripens-tests (r c.world.result.now) (r c.done.new.self) c.args.domain c.args.stamp c.done.result u c.done.ensures.rights c.done.ensures.ripe))

pub returns-clause-owes : goal.returns-clause-owes
returns-clause-owes g c done o = owes-called g.H.Desk.shared g.H.Desk.with_shared g.H.W.Knows.known g.H.W.Knows.does g.H.Desk.asked_owes g.met.H.Desk.asked_done c.args.host.now c.world.result.now c.done.new.self _ _ c.world.ensures.held c.done.ensures.known (alike-read _ _ _ _) c.done.ensures.does done o

pub returns-clause-rested : goal.returns-clause-rested
returns-clause-rested g c done o = owes-called g.H.Desk.shared g.H.Desk.with_shared g.H.W.Knows.known g.H.W.Knows.does (g.H.Desk.asked_rested c.args.domain c.args.stamp) (λ h w x y. g.met.H.Desk.rested_done h w c.args.domain c.args.stamp x y) c.args.host.now c.world.result.now c.done.new.self _ _ c.world.ensures.held c.done.ensures.known (alike-read _ _ _ _) c.done.ensures.does done o
