use Rattle.std.proofs.Common.{◌≡◌, ◌∙◌, ◌++◌, ◌%◌, [], ℕ, List, Some, eq-eqb, map, refl, ap, sym, subst, arith}
use Rattle.std.specs.List.{All, concat, flat_map}
use Rattle.std.proofs.lemmas.List.{map-append}
use Rattle.bm_law_order.specs.Act.{Act}
use Rattle.bm_law.specs.State.{State, seven_lists}
use Rattle.bm_post.specs.Rights.{IsSettled, MayLeave, numbers}
use Rattle.bm_cache.specs.Shown.{shown}
use Rattle.bm_cache.specs.Tests.{Either, Tests, Proper}
use Rattle.bm_cache.specs.Tokens.{Token, number_of}
use Rattle.bm_cache.specs.declared.caches.Caches.{Caches}
use Rattle.bm_journal.specs.declared.ids.Domain.TheVariants.{Tracing}
use Rattle.bm_cache.specs.Span.{Face}
use Rattle.bm_work.specs.Goes.{Alike}
use Rattle.bm_work.specs.DeskTests.{tests_by}
use Rattle.bm_work.specs.Owed.{Whatever}
use Rattle.bm_work.proofs.Owing.{owes-called, has-stamp}
use Rattle.bm_closing.specs.Arrived.{Arrived}
use Rattle.bm_closing.specs.Gathered.{swept}
use Rattle.bm_closing.specs.Told.{receives_all, waiting}
use Rattle.bm_closing.proofs.Owed.{at-end-with, gathered-sound, parcels-numbers}
use Rattle.bm_closing.proofs.Closes.{closes-moved}
use Rattle.bm_closing.proofs.AtEnds.{alike-moved, at-end-called, same-moved}
use Rattle.bm_closing.proofs.Sweeping.{arrived-either, at-end-batched, batch-leaves, batched}
use Rattle.bm_closing.proofs.closing.gather_all.Goals as goal

pub returns-clause-fit : goal.returns-clause-fit
returns-clause-fit g c =
    let h = c.args.host.now in
    let v = c.world.result.now in
    let w = c.wait_period-waited.new.world in
    let h1 = g.H.Desk.with_shared h w in
    let z = c.gather.new.caches in
    let n = c.caches.result.now in
    let i = c.args.class in
    let us = flat_map (λ p. p.items) c.args.parcels.items in
    let R = g.H.W.Knows.rights in
    let s = shown (g.H.Host.held h) in
    let ns = swept i us (shown n) in
    let x = c.wait_period-waited.result.stamp in
    let are : g.H.Host.tests h ≡ tests_by (R v) = g.met.H.Desk.tests_are h ∙ ap (λ y. tests_by (R y)) (sym c.world.ensures.held) in
    let proper : Proper (tests_by (R v)) s = subst (λ (t : Tests). Proper t s) are c.requires.at_end.fine.proper in
    let e = c.wait_period-waited.ensures in
    let settled : All (IsSettled (R v)) us = subst (λ y. All (IsSettled (R y)) us) (sym c.world.ensures.held) c.requires.arrived.settled in
    let leaves : All (MayLeave (R w)) ((batched i ns us x s).rows i).deferred.second = batch-leaves (R v) (R w) i ns us x s e.ages e.ripe proper settled in
    let lists : shown z ≡ batched i ns us x s = c.gather.ensures.gathered.lists ∙ ap (λ (y : Caches g.row.R.Denot). batched i ns us x (shown y)) (c.caches.ensures.held ∙ g.met.H.Desk.held_apart h w) in
    let there : shown (g.H.Host.held (g.H.Host.with_held h1 z)) ≡ batched i ns us x s = ap (λ (y : Caches g.row.R.Denot). shown y) (g.met.H.Host.held_back h1 z) ∙ lists in
    let side : g.H.Desk.shared (g.H.Host.with_held h1 z) ≡ w = g.met.H.Desk.shared_apart h1 z ∙ g.met.H.Desk.shared_back h w in
    subst (λ y. All (MayLeave (R y)) ((shown (g.H.Host.held (g.H.Host.with_held h1 z))).rows i).deferred.second) (sym side)
    (subst (λ (t : State Token). All (MayLeave (R w)) (t.rows i).deferred.second) (sym there) leaves)

pub returns-clause-at_end : goal.returns-clause-at_end
returns-clause-at_end g c =
    let h = c.args.host.now in
    let v = c.world.result.now in
    let w = c.wait_period-waited.new.world in
    let h1 = g.H.Desk.with_shared h w in
    let z = c.gather.new.caches in
    let n = c.caches.result.now in
    let i = c.args.class in
    let us = flat_map (λ p. p.items) c.args.parcels.items in
    let R = g.H.W.Knows.rights in
    let ns = swept i us (shown n) in
    let x = c.wait_period-waited.result.stamp in
    let e = c.wait_period-waited.ensures in
    let a1 = at-end-called g.R.Recorder.log g.R.Recorder.counts Whatever g.H.Host.tests g.H.Host.face g.H.Host.held g.H.Desk.shared g.H.Desk.with_shared g.H.W.Knows.known R g.met.H.Desk.shared_back g.met.H.Desk.held_apart g.met.H.Desk.face_apart (λ x y a q. q) g.met.H.Desk.tests_are h v w c.world.ensures.held e.alike e.ages c.requires.at_end in
    let arrived : Arrived i (R v) us = subst (λ y. Arrived i (R y) us) (sym c.world.ensures.held) c.requires.arrived in
    let now : g.H.Host.tests h1 ≡ tests_by (R w) = g.met.H.Desk.tests_are h1 ∙ ap (λ y. tests_by (R y)) (g.met.H.Desk.shared_back h w) in
    let either : All (Either (g.H.Host.tests h1)) us = subst (λ (t : Tests). All (Either t) us) (sym now) (arrived-either i (R v) (R w) us e.ages arrived) in
    let lists : shown z ≡ batched i ns us x (shown (g.H.Host.held h1)) = c.gather.ensures.gathered.lists ∙ ap (λ (y : Caches g.row.R.Denot). batched i ns us x (shown y)) c.caches.ensures.held in
    let N = g.H.W.Knows.known in
    let ps = map (λ p. numbers p.items) c.args.parcels.items in
    let all = map number_of (seven_lists ((shown n).rows i)) in
    let waited = c.wait_period-waited.result in
    let named : swept i us (shown n) ≡ all ++ concat ps = map-append number_of (seven_lists ((shown n).rows i)) us ∙ ap (λ z. all ++ z) (sym (parcels-numbers (λ p. p.items) c.args.parcels.items)) in
    let rest : (k : ℕ) × (g.H.W.Knows.rest v Tracing k × (k % 2 ≡ 0)) = subst (λ y. (k : ℕ) × (g.H.W.Knows.rest y Tracing k × (k % 2 ≡ 0))) (sym c.world.ensures.held) c.requires.rest in
    let at = e.waited rest.0 rest.1.0 rest.1.1 in
    let b = at.begun in
    let stamp = at.stamp in
    let o = owes-called g.H.Desk.shared g.H.Desk.with_shared N g.H.W.Knows.does (λ (done : List Act). g.H.Desk.owes done []) (λ y z done more. g.met.H.Desk.owes_done y z done more []) h v w (N w) (waiting e.does.0 waited) c.world.ensures.held refl e.alike e.does.1 (receives_all i ps) c.requires.owes in
    let a2 = at-end-batched g.R.Recorder.log g.R.Recorder.counts Whatever g.H.Host.tests g.H.Host.face g.H.Host.held h1 (g.H.Host.with_held h1 z) z i ns us x (g.met.H.Host.held_back h1 z) (g.met.H.Host.face_back h1 z) (g.met.H.Host.tests_back h1 z) tt lists (c.gather.ensures.gathered.processor ∙ ap (λ (y : Caches g.row.R.Denot). y.processor) c.caches.ensures.held) c.gather.ensures.placed either a1 in
    let k = g.H.Host.with_held h1 z in
    let there : shown (g.H.Host.held k) ≡ batched i ns us x (shown (g.H.Host.held h1)) = ap (λ (y : Caches g.row.R.Denot). shown y) (g.met.H.Host.held_back h1 z) ∙ lists in
    let own : ((batched i ns us x (shown (g.H.Host.held h1))).rows i).deferred.tracing ≡ Some x = rw (eq-eqb i i refl) refl in
    let waits = has-stamp g.R.Recorder.log g.R.Recorder.counts (g.H.Host.tests k) (g.H.Host.face k).processors _ (g.H.Host.held k) a2.fine i Tracing x (ap (λ (t : State Token). (t.rows i).deferred.tracing) there ∙ own) in
    let sound = gathered-sound g.H.Host.face g.H.Host.held g.H.Host.with_held g.R.Recorder.log g.H.Desk.owes g.met.H.Ended.owes_noted g.H.Host.sound g.met.H.Ended.owes_told g.met.H.Ended.owes_passed h1 n c.gather.new.caches i all (swept i us (shown n)) ps e.does.0 waited c.caches.ensures.held c.gather.ensures.gathered.processor
    (ap (λ (f : Face). f.level) (g.met.H.Desk.face_apart h w (subst (λ y. Alike (N y) (N w)) c.world.ensures.held e.alike)) ∙ c.requires.at_end.ordinary) named at.domain (omega (arith, b, stamp)) waits c.gather.ensures.gathered.gained o in
    at-end-with g.R.Recorder.log g.R.Recorder.counts Whatever g.H.Host.sound g.H.Host.tests g.H.Host.face g.H.Host.held (g.H.Host.with_held h1 z) sound a2

pub returns-clause-alike : goal.returns-clause-alike
returns-clause-alike g c =
    let h = c.args.host.now in
    let w = c.wait_period-waited.new.world in
    let h1 = g.H.Desk.with_shared h w in
    let z = c.gather.new.caches in
    alike-moved g.H.W.Knows.known (g.H.Desk.shared h) c.world.result.now w (g.H.Desk.shared (g.H.Host.with_held h1 z)) c.world.ensures.held (g.met.H.Desk.shared_apart h1 z ∙ g.met.H.Desk.shared_back h w) c.wait_period-waited.ensures.alike

pub returns-clause-mine : goal.returns-clause-mine
returns-clause-mine g c =
    let h = c.args.host.now in
    let v = c.world.result.now in
    let w = c.wait_period-waited.new.world in
    let h1 = g.H.Desk.with_shared h w in
    let z = c.gather.new.caches in
    let R = g.H.W.Knows.rights in
    same-moved R (g.H.Desk.shared h) v w (g.H.Desk.shared (g.H.Host.with_held h1 z)) c.world.ensures.held (g.met.H.Desk.shared_apart h1 z ∙ g.met.H.Desk.shared_back h w) c.wait_period-waited.ensures.ages.mine

pub returns-clause-does : goal.returns-clause-does
returns-clause-does g c =
    let h = c.args.host.now in
    let w = c.wait_period-waited.new.world in
    let h1 = g.H.Desk.with_shared h w in
    let z = c.gather.new.caches in
    let did = c.wait_period-waited.ensures.does in
    closes-moved g.H.W.Knows.does (g.H.Desk.shared h) c.world.result.now w (g.H.Desk.shared (g.H.Host.with_held h1 z)) c.world.ensures.held (g.met.H.Desk.shared_apart h1 z ∙ g.met.H.Desk.shared_back h w) (waiting did.0 c.wait_period-waited.result, (tt, (tt, (tt, (tt, (tt, tt))))), did.1)
