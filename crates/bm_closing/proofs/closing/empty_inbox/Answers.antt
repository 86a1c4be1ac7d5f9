use Rattle.std.proofs.Common.{◌≡◌, ◌∙◌, ◌≤◌, ◌+◌, ◌<◌, ◌++◌, ℕ, List, [], map, refl, ap, sym, subst, false, arith}
use Rattle.std.specs.List.{flat_map}
use Rattle.bm_page.specs.UnitState.{UnitState}
use Rattle.bm_law.specs.State.{seen}
use Rattle.bm_law.specs.Stands.{stands, times}
use Rattle.bm_post.specs.Rights.{numbers}
use Rattle.bm_cache.specs.Shown.{shown}
use Rattle.bm_cache.specs.Tests.{Tests, Proper}
use Rattle.bm_cache.specs.Tokens.{number_of}
use Rattle.bm_work.specs.DeskTests.{tests_by}
use Rattle.bm_work.specs.Goes.{Alike}
use Rattle.bm_work.specs.Onward.{Onward}
use Rattle.bm_work.specs.Owed.{Whatever}
use Rattle.bm_work.proofs.Owing.{owes-called}
use Rattle.bm_law_order.specs.Act.{Act}
use Rattle.bm_closing.specs.Told.{receives_all}
use Rattle.bm_closing.proofs.Owed.{at-end-with}
use Rattle.bm_work.proofs.Came.{lasting-onward}
use Rattle.bm_closing.specs.Arrived.{Came}
use Rattle.bm_closing.proofs.Closes.{closes-moved, closing-received}
use Rattle.bm_closing.proofs.AtEnds.{alike-graces, at-end-on, came-apart, when-ok}
use Rattle.bm_closing.proofs.closing.empty_inbox.Goals as goal

pub returns-clause-emptied : goal.returns-clause-emptied
returns-clause-emptied g c =
    let h = c.args.host.now in
    let v = c.world.result.now in
    let w = c.receive_all.new.post in
    let k = g.H.Desk.with_shared h w in
    let us = flat_map (λ p. p.items) c.receive_all.new.parcels.items in
    let R = g.H.W.Knows.rights in
    let N = g.H.W.Knows.known in
    let e = c.if-is_err.ensures.value in
    let none : flat_map (λ p. p.items) c.new-parcels.result.items ≡ [] = ap (flat_map (λ p. p.items)) c.new-parcels.ensures.items in
    let came : Came c.args.class [] us (R v) (R w) (N v) (N w) = subst (λ (xs : List UnitState). Came c.args.class xs us (R v) (R w) (N v) (N w)) none (when-ok c.receive_all.result _ e c.receive_all.ensures.came) in
    let arrived = when-ok c.receive_all.result _ e c.receive_all.ensures.arrived in
    let a : Alike (N (g.H.Desk.shared h)) (N w) = subst (λ x. Alike (N x) (N w)) c.world.ensures.held (alike-graces (N v) (N w) came.grace came.objects) in
    let back = g.met.H.Desk.shared_back h w in
    let same : us ≡ came.came = came.units_are in
    let are : g.H.Host.tests h ≡ tests_by (R v) = g.met.H.Desk.tests_are h ∙ ap (λ x. tests_by (R x)) (sym c.world.ensures.held) in
    let proper : Proper (tests_by (R v)) (shown (g.H.Host.held h)) = subst (λ (t : Tests). Proper t (shown (g.H.Host.held h))) are c.requires.at_end.fine.proper in
    let apart : (n : ℕ) → stands n (seen number_of (shown (g.H.Host.held h))) + times n (numbers us) ≤ 1 =
    came-apart (R v) (numbers us) (shown (g.H.Host.held h)) c.requires.at_end.fine.placed.once proper arrived.holds.once (λ n. subst (λ (xs : List UnitState). 0 < times n (numbers xs) → (R v).mine n ≡ false) (sym same) (came.fresh n)) in
    record {
      held = g.met.H.Desk.held_apart h w;
      arrived = rw back arrived;
      came = rw (back, sym c.world.ensures.held) came;
      apart = rw (g.met.H.Desk.held_apart h w) apart;
      goes = record { face = g.met.H.Desk.face_apart h w a; pending = rw (g.met.H.Desk.pending_apart h w) (omega arith); keeps = g.met.H.Desk.stays_apart h w a };
    }

pub returns-clause-at_end : goal.returns-clause-at_end
returns-clause-at_end g c =
    let h = c.args.host.now in
    let v = c.world.result.now in
    let w = c.receive_all.new.post in
    let k = g.H.Desk.with_shared h w in
    let R = g.H.W.Knows.rights in
    let N = g.H.W.Knows.known in
    let e = c.if-is_err.ensures.value in
    let came = when-ok c.receive_all.result _ e c.receive_all.ensures.came in
    let lasts = when-ok c.receive_all.result _ e c.receive_all.ensures.lasts in
    let a : Alike (N (g.H.Desk.shared h)) (N w) = subst (λ x. Alike (N x) (N w)) c.world.ensures.held (alike-graces (N v) (N w) came.grace came.objects) in
    let o : Onward [] (tests_by (R v)) (tests_by (R w)) = lasting-onward (R v) (R w) [] (λ n z m. came.stay n m) lasts in
    let are : g.H.Host.tests h ≡ tests_by (R v) = g.met.H.Desk.tests_are h ∙ ap (λ x. tests_by (R x)) (sym c.world.ensures.held) in
    let now : g.H.Host.tests k ≡ tests_by (R w) = g.met.H.Desk.tests_are k ∙ ap (λ x. tests_by (R x)) (g.met.H.Desk.shared_back h w) in
    let p : Onward [] (g.H.Host.tests h) (g.H.Host.tests k) = subst (λ t. Onward [] t (g.H.Host.tests k)) (sym are) (subst (λ t. Onward [] (tests_by (R v)) t) (sym now) o) in
    at-end-on g.R.Recorder.log g.R.Recorder.counts Whatever g.H.Host.tests g.H.Host.face g.H.Host.held h k (g.met.H.Desk.held_apart h w) (g.met.H.Desk.face_apart h w a) tt p (at-end-with g.R.Recorder.log g.R.Recorder.counts g.H.Host.sound Whatever g.H.Host.tests g.H.Host.face g.H.Host.held h tt c.requires.at_end)

pub returns-clause-owes : goal.returns-clause-owes
returns-clause-owes g c =
    let h = c.args.host.now in
    let v = c.world.result.now in
    let w = c.receive_all.new.post in
    let N = g.H.W.Knows.known in
    let i = c.args.class in
    let now : List (List ℕ) = map (λ p. numbers p.items) c.receive_all.new.parcels.items in
    let e = c.if-is_err.ensures.value in
    let came = when-ok c.receive_all.result _ e c.receive_all.ensures.came in
    let told : Came i (flat_map (λ p. p.items) c.new-parcels.result.items) (flat_map (λ p. p.items) c.receive_all.new.parcels.items) (g.H.W.Knows.rights v) (g.H.W.Knows.rights w) (N v) (N w) = came in
    let did = when-ok c.receive_all.result _ e c.receive_all.ensures.does in
    let none : map (λ p. numbers p.items) c.new-parcels.result.items ≡ [] = ap (map (λ p. numbers p.items)) c.new-parcels.ensures.items in
    let all : now ≡ did.0 = did.1 ∙ ap (λ z. z ++ did.0) none in
    let does : g.H.W.Knows.does (receives_all i now) v w = subst (λ (z : List (List ℕ)). g.H.W.Knows.does (receives_all i z) v w) (sym all) did.2 in
    owes-called g.H.Desk.shared g.H.Desk.with_shared N g.H.W.Knows.does (λ (done : List Act). g.H.Desk.owes done []) (λ x y done more. g.met.H.Desk.owes_done x y done more []) h v w (N w) (receives_all i now) c.world.ensures.held refl (alike-graces (N v) (N w) told.grace told.objects) does [] (g.met.H.Desk.owes_open h c.requires.at_end.sound)

pub returns-clause-does : goal.returns-clause-does
returns-clause-does g c =
    let h = c.args.host.now in
    let v = c.world.result.now in
    let w = c.receive_all.new.post in
    let did = when-ok c.receive_all.result _ c.if-is_err.ensures.value c.receive_all.ensures.does in
    closes-moved g.H.W.Knows.does (g.H.Desk.shared h) v w (g.H.Desk.shared (g.H.Desk.with_shared h w)) c.world.ensures.held (g.met.H.Desk.shared_back h w) (receives_all c.args.class did.0, closing-received c.args.class did.0, did.2)
