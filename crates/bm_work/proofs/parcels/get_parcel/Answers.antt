use Rattle.std.proofs.Common.{◌≤◌, ◌+◌, ℕ, [], map, refl, sym, subst, ap, ◌∷◌, ◌++◌}
use Rattle.bm_law.specs.Stands.{stands, times}
use Rattle.bm_law.specs.State.{seen}
use Rattle.bm_cache.specs.Shown.{shown}
use Rattle.bm_cache.specs.Tokens.{number_of}
use Rattle.bm_cache.specs.declared.caches.Caches.{Caches}
use Rattle.bm_post.specs.Rights.{numbers}
use Rattle.bm_work.proofs.Alike.{alike-mails}
use Rattle.bm_work.proofs.Came.{gains-fresh, gains-onward, same-onward, takes-reusable}
use Rattle.bm_work.proofs.Sides.{passes-shared, proper-shared, stands-posted}
use Rattle.bm_law_order.specs.Act.{Act}
use Rattle.bm_law_order.specs.Act as act
use Rattle.bm_work.proofs.Owing.{owes-called}
use Rattle.bm_work.proofs.parcels.get_parcel.Goals as goal

pub returns-in-Some-clause-fresh : goal.returns-in-Some-clause-fresh
returns-in-Some-clause-fresh g c =
    let h = c.args.host.now in
    let v = c.world.result.now in
    let us = c.in-Some.units.items in
    let F : Caches g.row.R.Denot → Type 0 = λ x. (n : ℕ) → stands n (seen number_of (shown x)) + times n (map number_of us) ≤ 1 in
    subst F (sym (g.met.H.Desk.held_apart h c.receive.new.self)) (gains-fresh (g.H.W.Knows.rights v) (g.H.W.Knows.rights c.receive.new.self) (numbers us) (shown (g.H.Host.held h)) c.requires.stands.fine.placed.once (proper-shared g.R.Recorder.log g.R.Recorder.counts (λ _. Unit {0}) g.H.Host.tests g.H.Host.face g.H.Host.held g.H.Desk.shared g.H.Desk.with_shared g.H.W.Knows.known g.H.W.Knows.rights g.met.H.Desk.shared_back g.met.H.Desk.held_apart g.met.H.Desk.face_apart (λ h w a s. s) g.met.H.Desk.tests_are h v c.world.ensures.held c.requires.stands.fine.proper) c.in-Some.ensures.some.takes.gains)

pub returns-in-Some-clause-reusable : goal.returns-in-Some-clause-reusable
returns-in-Some-clause-reusable g c =
    passes-shared g.R.Recorder.log g.R.Recorder.counts (λ _. Unit {0}) g.H.Host.tests g.H.Host.face g.H.Host.held g.H.Desk.shared g.H.Desk.with_shared g.H.W.Knows.known g.H.W.Knows.rights g.met.H.Desk.shared_back g.met.H.Desk.held_apart g.met.H.Desk.face_apart (λ h w a s. s) g.met.H.Desk.tests_are 0 c.in-Some.units.items c.args.host.now c.receive.new.self (takes-reusable c.args.class c.in-Some.units.items (g.H.W.Knows.rights c.world.result.now) (g.H.W.Knows.rights c.receive.new.self) c.in-Some.ensures.some.takes)

pub returns-in-Some-clause-stands : goal.returns-in-Some-clause-stands
returns-in-Some-clause-stands g c =
    let e = c.in-Some.ensures in
    stands-posted g.R.Recorder.log g.R.Recorder.counts (λ _. Unit {0}) g.H.Host.tests g.H.Host.face g.H.Host.held g.H.Desk.shared g.H.Desk.with_shared g.H.W.Knows.known g.H.W.Knows.rights g.met.H.Desk.shared_back g.met.H.Desk.held_apart g.met.H.Desk.face_apart (λ h w a s. s) g.met.H.Desk.tests_are c.args.host.now c.world.result.now c.receive.new.self c.world.ensures.held (alike-mails _ _ _ _ e.mails) (gains-onward (g.H.W.Knows.rights c.world.result.now) (g.H.W.Knows.rights c.receive.new.self) (numbers c.in-Some.units.items) e.some.takes.gains e.lasts) c.requires.stands

pub returns-in-None-clause-stands : goal.returns-in-None-clause-stands
returns-in-None-clause-stands g c =
    let e = c.in-None.ensures in
    stands-posted g.R.Recorder.log g.R.Recorder.counts (λ _. Unit {0}) g.H.Host.tests g.H.Host.face g.H.Host.held g.H.Desk.shared g.H.Desk.with_shared g.H.W.Knows.known g.H.W.Knows.rights g.met.H.Desk.shared_back g.met.H.Desk.held_apart g.met.H.Desk.face_apart (λ h w a s. s) g.met.H.Desk.tests_are c.args.host.now c.world.result.now c.receive.new.self c.world.ensures.held (alike-mails _ _ _ _ e.mails) (same-onward (g.H.W.Knows.rights c.world.result.now) (g.H.W.Knows.rights c.receive.new.self) e.none e.lasts) c.requires.stands

pub returns-in-Some-clause-owes : goal.returns-in-Some-clause-owes
returns-in-Some-clause-owes g c done o =
    let e = c.in-Some.ensures in
    let q = owes-called g.H.Desk.shared g.H.Desk.with_shared g.H.W.Knows.known g.H.W.Knows.does g.H.Desk.asked_owes g.met.H.Desk.asked_done c.args.host.now c.world.result.now c.receive.new.self _ (act.Receives c.args.class (numbers c.in-Some.units.items) ∷ []) c.world.ensures.held refl (alike-mails _ _ _ _ e.mails) e.does done o in
    q

pub returns-in-None-clause-owes : goal.returns-in-None-clause-owes
returns-in-None-clause-owes g c done o =
    let e = c.in-None.ensures in
    let q = owes-called g.H.Desk.shared g.H.Desk.with_shared g.H.W.Knows.known g.H.W.Knows.does g.H.Desk.asked_owes g.met.H.Desk.asked_done c.args.host.now c.world.result.now c.receive.new.self _ (act.Receives c.args.class ([]) ∷ []) c.world.ensures.held refl (alike-mails _ _ _ _ e.mails) e.does done o in
    subst (λ z. g.H.Desk.asked_owes (done ++ act.Receives c.args.class z ∷ []) (g.H.Desk.with_shared c.args.host.now c.receive.new.self)) (sym (ap numbers c.new.ensures.items)) q
