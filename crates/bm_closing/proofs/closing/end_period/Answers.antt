use Rattle.std.proofs.Common.{◌≡◌, ◌∙◌, ◌+◌, ◌%◌, ◌∷◌, [], ℕ, List, refl, ap, sym, subst}
use Rattle.bm_journal.specs.declared.entry.Entry.TheVariants as entry
use Rattle.bm_law_order.specs.Act.{Act}
use Rattle.bm_law_order.specs.Act as act
use Rattle.bm_grace.specs.Known.{side}
use Rattle.bm_grace.specs.Rest.{MovesNumber}
use Rattle.bm_cache.specs.Shown.{shown}
use Rattle.bm_cache.specs.declared.caches.Caches.{Caches}
use Rattle.bm_work.proofs.Sides.{ages-same, alike-same}
use Rattle.bm_work.specs.Owed.{Whatever}
use Rattle.bm_work.proofs.Owing.{owes-called, owes-noted}
use Rattle.bm_closing.specs.AtEnd.{ended_at}
use Rattle.bm_closing.proofs.Owed.{at-end-with, finishing}
use Rattle.bm_closing.proofs.Closes.{closes-moved}
use Rattle.bm_closing.proofs.AtEnds.{alike-moved, at-end-called, at-end-noted, odd-ended}
use Rattle.bm_closing.proofs.closing.end_period.Goals as goal

pub returns-clause-rest : goal.returns-clause-rest
returns-clause-rest g c n =
    let h = c.args.host.now in
    let d = c.args.domain in
    let v = c.world.result.now in
    let h1 = g.H.Desk.with_shared h v in
    let w = c.end_driven-period.new.world in
    let h2 = g.H.Desk.with_shared h1 w in
    let M : g.row.H-W.Denot → g.row.H-W.Denot → ℕ → Type 0 = λ x y m. MovesNumber g.H.W.Knows.rest d n m x y in
    let e1 : c.world-2.result.now ≡ g.H.Desk.shared h = c.world-2.ensures.held ∙ g.met.H.Desk.shared_back h v ∙ c.world.ensures.held in
    let e2 : g.H.Desk.shared (g.H.Host.with_held h2 c.finished.new.self) ≡ w = g.met.H.Desk.shared_apart h2 c.finished.new.self ∙ g.met.H.Desk.shared_back h1 w in
    let F : g.row.H-W.Denot → Type 0 = λ x. (side d (g.H.W.Knows.known x)).number % 2 ≡ 1 in
    let odd : (side d (g.H.W.Knows.known (g.H.Desk.shared h))).number % 2 ≡ 1 = subst F c.world.ensures.held (c.driving.ensures.odd c.if-not-driving.false) in
    let q : ended_at (side d (g.H.W.Knows.known (g.H.Desk.shared h))).number n ≡ n + 1 = odd-ended (side d (g.H.W.Knows.known (g.H.Desk.shared h))).number n odd in
    subst (λ m. M (g.H.Desk.shared h) (g.H.Desk.shared (g.H.Host.with_held h2 c.finished.new.self)) m) (sym q)
    (subst (λ y. M (g.H.Desk.shared h) y (n + 1)) (sym e2) (subst (λ x. M x w (n + 1)) e1 (c.end_driven-period.ensures.rest n)))

pub returns-then-not-driving-clause-at_end : goal.returns-then-not-driving-clause-at_end
returns-then-not-driving-clause-at_end g c =
    let h = c.args.host.now in
    let v = c.world.result.now in
    let N = g.H.W.Knows.known in
    let S = g.H.Host.sound in
    let a0 = at-end-with g.R.Recorder.log g.R.Recorder.counts S Whatever g.H.Host.tests g.H.Host.face g.H.Host.held h tt c.requires.at_end in
    let a1 = at-end-called g.R.Recorder.log g.R.Recorder.counts Whatever g.H.Host.tests g.H.Host.face g.H.Host.held g.H.Desk.shared g.H.Desk.with_shared N g.H.W.Knows.rights g.met.H.Desk.shared_back g.met.H.Desk.held_apart g.met.H.Desk.face_apart (λ x y a s. s) g.met.H.Desk.tests_are h v v c.world.ensures.held (alike-same (N v)) (ages-same (g.H.W.Knows.rights v)) a0 in
    let o = owes-called g.H.Desk.shared g.H.Desk.with_shared N g.H.W.Knows.does (λ (done : List Act). g.H.Desk.owes done []) (λ x y done more. g.met.H.Desk.owes_done x y done more []) h v v (N v) [] c.world.ensures.held refl (alike-same (N v)) (g.H.W.Knows.does_same v) [] (g.met.H.Desk.owes_open h c.requires.at_end.sound) in
    at-end-with g.R.Recorder.log g.R.Recorder.counts Whatever S g.H.Host.tests g.H.Host.face g.H.Host.held (g.H.Desk.with_shared h v) (g.met.H.Desk.owes_shut (g.H.Desk.with_shared h v) o) a1

pub returns-clause-at_end : goal.returns-clause-at_end
returns-clause-at_end g c =
    let h = c.args.host.now in
    let v = c.world.result.now in
    let h1 = g.H.Desk.with_shared h v in
    let w = c.end_driven-period.new.world in
    let h2 = g.H.Desk.with_shared h1 w in
    let z = c.finished.new.self in
    let d = c.args.domain in
    let p = c.end_driven-period.result in
    let N = g.H.W.Knows.known in
    let did = c.end_driven-period.ensures.does in
    let acts : List Act = act.Looks d did.0 ∷ act.Finishes p ∷ [] in
    let a0 = at-end-with g.R.Recorder.log g.R.Recorder.counts g.H.Host.sound Whatever g.H.Host.tests g.H.Host.face g.H.Host.held h tt c.requires.at_end in
    let call = at-end-called g.R.Recorder.log g.R.Recorder.counts Whatever g.H.Host.tests g.H.Host.face g.H.Host.held g.H.Desk.shared g.H.Desk.with_shared N g.H.W.Knows.rights g.met.H.Desk.shared_back g.met.H.Desk.held_apart g.met.H.Desk.face_apart (λ x y a s. s) g.met.H.Desk.tests_are in
    let a1 = call h v v c.world.ensures.held (alike-same (N v)) (ages-same (g.H.W.Knows.rights v)) a0 in
    let a2 = call h1 c.world-2.result.now w c.world-2.ensures.held c.end_driven-period.ensures.alike c.end_driven-period.ensures.ages a1 in
    let did-call = owes-called g.H.Desk.shared g.H.Desk.with_shared N g.H.W.Knows.does (λ (done : List Act). g.H.Desk.owes done []) (λ x y done more. g.met.H.Desk.owes_done x y done more []) in
    let o1 = did-call h v v (N v) [] c.world.ensures.held refl (alike-same (N v)) (g.H.W.Knows.does_same v) [] (g.met.H.Desk.owes_open h c.requires.at_end.sound) in
    let o2 = did-call h1 c.world-2.result.now w (N w) acts c.world-2.ensures.held refl c.end_driven-period.ensures.alike did.1 [] o1 in
    let o3 = owes-noted g.H.Host.face g.H.Host.held g.H.Host.with_held g.R.Recorder.log g.H.Desk.owes g.met.H.Desk.owes_said h2 c.caches.result.now z c.level-level.result (entry.Finish p) c.level-level.ensures.same c.caches.ensures.held refl c.finished.ensures.step.records c.finished.ensures.step.processor acts [] o2 in
    let sound = g.met.H.Desk.owes_closed (g.H.Host.with_held h2 z) acts (entry.Finish p ∷ []) (finishing d did.0 p c.end_driven-period.ensures.domain) o3 in
    let a3 = at-end-noted g.R.Recorder.log g.R.Recorder.counts Whatever g.H.Host.tests g.H.Host.face g.H.Host.held h2 (g.H.Host.with_held h2 z) z (g.met.H.Host.held_back h2 z) (g.met.H.Host.face_back h2 z) (g.met.H.Host.tests_back h2 z) tt (c.finished.ensures.same ∙ ap shown c.caches.ensures.held) (c.finished.ensures.step.processor ∙ ap (λ (x : Caches g.row.R.Denot). x.processor) c.caches.ensures.held) c.finished.ensures.placed a2 in
    at-end-with g.R.Recorder.log g.R.Recorder.counts Whatever g.H.Host.sound g.H.Host.tests g.H.Host.face g.H.Host.held (g.H.Host.with_held h2 z) sound a3

pub returns-clause-alike : goal.returns-clause-alike
returns-clause-alike g c =
    let h = c.args.host.now in
    let v = c.world.result.now in
    let h1 = g.H.Desk.with_shared h v in
    let w = c.end_driven-period.new.world in
    let h2 = g.H.Desk.with_shared h1 w in
    let z = c.finished.new.self in
    alike-moved g.H.W.Knows.known (g.H.Desk.shared h) c.world-2.result.now w (g.H.Desk.shared (g.H.Host.with_held h2 z)) (c.world-2.ensures.held ∙ g.met.H.Desk.shared_back h v ∙ c.world.ensures.held) (g.met.H.Desk.shared_apart h2 z ∙ g.met.H.Desk.shared_back h1 w) c.end_driven-period.ensures.alike

pub returns-then-not-driving-clause-does : goal.returns-then-not-driving-clause-does
returns-then-not-driving-clause-does g c =
    let h = c.args.host.now in
    let v = c.world.result.now in
    closes-moved g.H.W.Knows.does (g.H.Desk.shared h) v v (g.H.Desk.shared (g.H.Desk.with_shared h v)) c.world.ensures.held (g.met.H.Desk.shared_back h v) ([], tt, g.H.W.Knows.does_same v)

pub returns-clause-does : goal.returns-clause-does
returns-clause-does g c =
    let h = c.args.host.now in
    let v = c.world.result.now in
    let h1 = g.H.Desk.with_shared h v in
    let w = c.end_driven-period.new.world in
    let h2 = g.H.Desk.with_shared h1 w in
    let z = c.finished.new.self in
    let d = c.args.domain in
    let did = c.end_driven-period.ensures.does in
    let acts : List Act = act.Looks d did.0 ∷ act.Finishes c.end_driven-period.result ∷ [] in
    closes-moved g.H.W.Knows.does (g.H.Desk.shared h) c.world-2.result.now w (g.H.Desk.shared (g.H.Host.with_held h2 z)) (c.world-2.ensures.held ∙ g.met.H.Desk.shared_back h v ∙ c.world.ensures.held) (g.met.H.Desk.shared_apart h2 z ∙ g.met.H.Desk.shared_back h1 w) (acts, (tt, (tt, tt)), did.1)
