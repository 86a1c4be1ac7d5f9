use Rattle.std.proofs.Common.{◌≢◌, ℕ, [], ◌∷◌, ◌++◌, List, refl, sym, subst}
use Rattle.bm_journal.specs.declared.ids.Domain.{Domain}
use Rattle.bm_grace.specs.Answers.{Verdict}
use Rattle.bm_grace.specs.declared.answer.Look.{Look}
use Rattle.bm_grace.specs.declared.answer.Look.TheVariants.{All, Waits}
use Rattle.bm_work.specs.Rested.{Fails}
use Rattle.bm_law_order.specs.Act.{Act}
use Rattle.bm_law_order.specs.Act as act
use Rattle.bm_work.proofs.Owing.{owes-called}
use Rattle.bm_grace.specs.Known.{side}
use Rattle.bm_work.proofs.Alike.{alike-looked}
use Rattle.bm_work.proofs.Sides.{stands-knows}
use Rattle.bm_work.proofs.period.look_now.Goals as goal

pub returns-clause-stands : goal.returns-clause-stands
returns-clause-stands g c = stands-knows g.R.Recorder.log g.R.Recorder.counts (λ _. Unit {0}) g.H.Host.tests g.H.Host.face g.H.Host.held g.H.Desk.shared g.H.Desk.with_shared g.H.W.Knows.known g.H.W.Knows.rights g.met.H.Desk.shared_back g.met.H.Desk.held_apart g.met.H.Desk.face_apart (λ h w a s. s) g.met.H.Desk.tests_are c.args.host.now c.world.result.now c.look.new.self _ c.world.ensures.held c.look.ensures.known (alike-looked _ _ _ _) c.look.ensures.rights c.requires.stands

pub returns-clause-owes : goal.returns-clause-owes
returns-clause-owes g c done es o =
    let h = c.args.host.now in
    let w = c.look.new.self in
    let d = c.args.domain in
    let k = g.H.Desk.with_shared h w in
    let F : _ → Type 0 = λ x. g.H.Desk.owes (done ++ act.Looks d (side d (g.H.W.Knows.known x)).later ∷ []) es k in
    subst F (sym (g.met.H.Desk.shared_back h w)) (owes-called g.H.Desk.shared g.H.Desk.with_shared g.H.W.Knows.known g.H.W.Knows.does (λ x h. g.H.Desk.owes x es h) (λ h w x y. g.met.H.Desk.owes_done h w x y es) c.args.host.now c.world.result.now c.look.new.self _ _ c.world.ensures.held c.look.ensures.known (alike-looked _ _ _ _) c.look.ensures.does done o)

fails-by : (r : Look) (d : Domain) (first later : List ℕ) → Verdict r d first later → r ≢ All → Fails first later
fails-by All d first later v ne = absurd (ne refl)
fails-by (Waits p w) d first later v ne = λ h. v.waiting.here (h v.place v.waiting.inside)

pub returns-clause-fails : goal.returns-clause-fails
returns-clause-fails g c ne =
    let h = c.args.host.now in
    let w = c.look.new.self in
    let d = c.args.domain in
    let F : _ → Type 0 = λ x. Fails (side d (g.H.W.Knows.known x)).first (side d (g.H.W.Knows.known x)).later in
    subst F (sym (g.met.H.Desk.shared_back h w)) (fails-by c.look.result d _ _ c.look.ensures.answer ne)
