use Rattle.std.proofs.Common.{◌≡◌, ◌≤◌, ◌+◌, ◌∷◌, [], drop, refl, ℕ, List, arith, length, map, sym, subst}
use Rattle.std.specs.List.{All}
use Rattle.bm_law.specs.Stands.{stands, times}
use Rattle.bm_law.specs.State.{seen}
use Rattle.bm_cache.specs.Shown.{shown}
use Rattle.bm_cache.specs.Tests.{Reusable}
use Rattle.bm_cache.specs.Tokens.{Token, number_of}
use Rattle.bm_cache.specs.declared.caches.Caches.{Caches}
use Rattle.bm_post.specs.Rights.{numbers}
use Rattle.bm_work.proofs.Alike.{alike-posts}
use Rattle.bm_work.proofs.Came.{fetched-all, gains-fresh, gains-onward, same-onward, takes-reusable}
use Rattle.bm_work.proofs.Sides.{passes-shared, proper-shared, stands-posted}
use Rattle.bm_law_order.specs.Act as act
use Rattle.bm_work.proofs.Owing.{owes-called}
use Rattle.bm_work.proofs.fetches.get_fetched.Goals as goal

pub returns-in-Ok-clause-few : goal.returns-in-Ok-clause-few
returns-in-Ok-clause-few g c =
    let f = c.in-Ok.ensures.ok in
    let e : c.fetch.new.out.items ≡ f.units = fetched-all c.new-units.result.items f.units c.fetch.new.out.items f.appended c.new-units.ensures.items in
    let F : List Token → Type 0 = λ us. length us ≤ c.args.want in
    subst F (sym e) (omega (arith, f.count, f.most))

pub returns-in-Ok-clause-fresh : goal.returns-in-Ok-clause-fresh
returns-in-Ok-clause-fresh g c =
    let h = c.args.host.now in
    let v = c.world.result.now in
    let f = c.in-Ok.ensures.ok in
    let e : c.fetch.new.out.items ≡ f.units = fetched-all c.new-units.result.items f.units c.fetch.new.out.items f.appended c.new-units.ensures.items in
    let F : Caches g.row.R.Denot → List Token → Type 0 = λ x us. (n : ℕ) → stands n (seen number_of (shown x)) + times n (map number_of us) ≤ 1 in
    subst (F (g.H.Host.held (g.H.Desk.with_shared h c.fetch.new.self))) (sym e) (subst (λ x. F x f.units) (sym (g.met.H.Desk.held_apart h c.fetch.new.self)) (gains-fresh (g.H.W.Knows.rights v) (g.H.W.Knows.rights c.fetch.new.self) (numbers f.units) (shown (g.H.Host.held h)) c.requires.stands.fine.placed.once (proper-shared g.R.Recorder.log g.R.Recorder.counts (λ _. Unit {0}) g.H.Host.tests g.H.Host.face g.H.Host.held g.H.Desk.shared g.H.Desk.with_shared g.H.W.Knows.known g.H.W.Knows.rights g.met.H.Desk.shared_back g.met.H.Desk.held_apart g.met.H.Desk.face_apart (λ h w a s. s) g.met.H.Desk.tests_are h v c.world.ensures.held c.requires.stands.fine.proper) f.takes.gains))

pub returns-in-Ok-clause-reusable : goal.returns-in-Ok-clause-reusable
returns-in-Ok-clause-reusable g c =
    let f = c.in-Ok.ensures.ok in
    let e : c.fetch.new.out.items ≡ f.units = fetched-all c.new-units.result.items f.units c.fetch.new.out.items f.appended c.new-units.ensures.items in
    let F : List Token → Type 0 = λ us. All (Reusable (g.H.Host.tests (g.H.Desk.with_shared c.args.host.now c.fetch.new.self))) us in
    subst F (sym e) (passes-shared g.R.Recorder.log g.R.Recorder.counts (λ _. Unit {0}) g.H.Host.tests g.H.Host.face g.H.Host.held g.H.Desk.shared g.H.Desk.with_shared g.H.W.Knows.known g.H.W.Knows.rights g.met.H.Desk.shared_back g.met.H.Desk.held_apart g.met.H.Desk.face_apart (λ h w a s. s) g.met.H.Desk.tests_are 0 f.units c.args.host.now c.fetch.new.self (takes-reusable c.args.class f.units (g.H.W.Knows.rights c.world.result.now) (g.H.W.Knows.rights c.fetch.new.self) f.takes))

pub returns-in-Ok-clause-stands : goal.returns-in-Ok-clause-stands
returns-in-Ok-clause-stands g c =
    let e = c.in-Ok.ensures in
    stands-posted g.R.Recorder.log g.R.Recorder.counts (λ _. Unit {0}) g.H.Host.tests g.H.Host.face g.H.Host.held g.H.Desk.shared g.H.Desk.with_shared g.H.W.Knows.known g.H.W.Knows.rights g.met.H.Desk.shared_back g.met.H.Desk.held_apart g.met.H.Desk.face_apart (λ h w a s. s) g.met.H.Desk.tests_are c.args.host.now c.world.result.now c.fetch.new.self c.world.ensures.held (alike-posts _ _ _ e.known) (gains-onward (g.H.W.Knows.rights c.world.result.now) (g.H.W.Knows.rights c.fetch.new.self) (numbers e.ok.units) e.ok.takes.gains e.lasts) c.requires.stands

pub returns-in-Err-clause-stands : goal.returns-in-Err-clause-stands
returns-in-Err-clause-stands g c =
    let e = c.in-Err.ensures in
    stands-posted g.R.Recorder.log g.R.Recorder.counts (λ _. Unit {0}) g.H.Host.tests g.H.Host.face g.H.Host.held g.H.Desk.shared g.H.Desk.with_shared g.H.W.Knows.known g.H.W.Knows.rights g.met.H.Desk.shared_back g.met.H.Desk.held_apart g.met.H.Desk.face_apart (λ h w a s. s) g.met.H.Desk.tests_are c.args.host.now c.world.result.now c.fetch.new.self c.world.ensures.held (alike-posts _ _ _ e.known) (same-onward (g.H.W.Knows.rights c.world.result.now) (g.H.W.Knows.rights c.fetch.new.self) e.same e.lasts) c.requires.stands

pub returns-in-Ok-clause-owes : goal.returns-in-Ok-clause-owes
returns-in-Ok-clause-owes g c done o =
    let h = c.args.host.now in
    let v = c.world.result.now in
    let w = c.fetch.new.self in
    let e = c.in-Ok.ensures in
    let F : List Token → Type 0 = λ us. g.H.W.Knows.does (act.Fetches c.args.class c.args.want (numbers (drop (length us) c.fetch.new.out.items)) ∷ []) v w in
    let d : F [] = subst F c.new-units.ensures.items e.does in
    owes-called g.H.Desk.shared g.H.Desk.with_shared g.H.W.Knows.known g.H.W.Knows.does g.H.Desk.asked_owes g.met.H.Desk.asked_done h v w _ (act.Fetches c.args.class c.args.want (numbers c.fetch.new.out.items) ∷ []) c.world.ensures.held refl (alike-posts _ _ _ e.known) d done o
