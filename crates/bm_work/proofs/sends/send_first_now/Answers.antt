use Rattle.std.proofs.Common.{◌≡◌, ◌≤◌, ◌+◌, ◌∙◌, [], ◌∷◌, ℕ, List, map, length, refl, sym, subst, ap, arith, eq-eqb}
use Rattle.std.specs.List.{All}
use Rattle.bm_grace.specs.Known.{Sides}
use Rattle.bm_journal.specs.Recording.{Appends}
use Rattle.bm_journal.specs.declared.units.Units.TheVariants.{Whole}
use Rattle.bm_journal.specs.declared.entry.Entry.TheVariants as entry
use Rattle.bm_law.specs.Effect.{effect}
use Rattle.bm_law.specs.Stands.{Known, times}
use Rattle.bm_law.specs.State.{State}
use Rattle.bm_cache.specs.Lent.{SendIsLent}
use Rattle.bm_cache.specs.Shown.{shown}
use Rattle.bm_cache.specs.Span.{Face, Goes}
use Rattle.bm_cache.specs.Tests.{Tests}
use Rattle.bm_cache.specs.Tokens.{Token, number_of}
use Rattle.bm_cache.specs.declared.caches.Caches.{Caches}
use Rattle.bm_cache.proofs.Moments.{goes-join}
use Rattle.bm_cache.proofs.Outside.{lent-by-first}
use Rattle.bm_law_work.specs.Parts.{Say}
use Rattle.bm_law_work.specs.WorkPhrases.{IsOne, IsSend}
use Rattle.bm_post.specs.Rights.{Holds, numbers}
use Rattle.bm_work.specs.Dated.{Dated}
use Rattle.bm_work.proofs.sends.send_first_now.Given.{Over}
use Rattle.bm_work.specs.Onward.{Onward}
use Rattle.bm_work.proofs.Gone.{first-dated, sends-first, sent-active, sent-apart, sent-once, stands-sent}
use Rattle.bm_law.specs.State.{Side}
use Rattle.bm_cache.specs.Lent.{FirstIsLent, with_first}
use Rattle.bm_cache.specs.Placed.{PlacedAs}
use Rattle.bm_cache.specs.Tests.{Passes}
use Rattle.bm_journal.specs.declared.ids.Domain.TheVariants.{Plain}
use Rattle.bm_law.specs.Places.{First}
use Rattle.bm_post.specs.Calls.{IsOf}
use Rattle.bm_post.specs.Rights.{MayLeave, WaitedBy}
use Rattle.bm_work.specs.DeskTests.{ripe_test}
use Rattle.bm_work.specs.Periods.{sealed}
use Rattle.bm_work.proofs.Sealed.{placed-sealed, sealed-leave, sealed-length, sealed-mine, sealed-named, sealed-sit, sealed-waited, sits-class, twice-first}
use Rattle.bm_work.proofs.Sides.{works-map}
use Rattle.bm_work.proofs.Steps.{works-entry}
use Rattle.bm_law_order.specs.Act as act
use Rattle.bm_work.specs.Rested.{MayGo}
use Rattle.bm_work.proofs.Going.{may-go, may-go-as}
use Rattle.bm_work.proofs.sends.send_first_now.Goals as goal

pub give_parcel-requires-clause-class : goal.give_parcel-requires-clause-class
give_parcel-requires-clause-class g c =
    let i = c.args.class in
    let us = ((shown (g.H.Host.held c.args.host.now)).rows i).deferred.first in
    let G : List Token → Type 0 = λ z. All (IsOf i) z in
    subst G (sym (c.seal_all.ensures.items ∙ ap (map (sealed c.args.seal)) c.in_ok-units.ensures.units)) (sits-class i (map (sealed c.args.seal) us) (sealed-sit c.args.seal i us (c.requires.stands.fine.placed.classed.lists i First)))

pub give_parcel-requires-clause-mine : goal.give_parcel-requires-clause-mine
give_parcel-requires-clause-mine g c =
    let a = c.args.host.now in
    let i = c.args.class in
    let x = c.args.seal in
    let l = (g.H.Host.face a).level in
    let s = shown (g.H.Host.held a) in
    let us = (s.rows i).deferred.first in
    let r = g.H.W.Knows.rights (g.H.Desk.shared a) in
    let hand : (s.sides l).hand ≡ [] = ap (λ (z : Side Token). z.hand) c.requires.idle in
    let k : Known l (entry.Send i 0 (Whole (map number_of us))) = record { level = c.lend_first.ensures.known.level; class = c.lend_first.ensures.known.class } in
    let o : (n : ℕ) → times n (map number_of us) ≤ 1 = sent-once l i 0 (map number_of us) s k c.requires.stands.fine.placed.once (sends-first (s.sides l).hand us hand) in
    let N : List ℕ → Type 0 = λ ns. (n : ℕ) → times n ns ≤ 1 in
    let F : Tests → Type 0 = λ t. All (Passes t (ripe_test Plain x.stamp x.seen)) us in
    let h : Holds r (map (sealed x) us) = record { each = sealed-mine r x us (subst F (g.met.H.Desk.tests_are a) c.requires.ripe); once = subst N (sym (sealed-named x us)) o } in
    let G : List Token → Type 0 = λ z. Holds r z in
    let e = c.target_of-to.ensures.handled.shared_is ∙ c.lend_first.ensures.handled.shared_is in
    subst (λ w. Holds (g.H.W.Knows.rights w) c.seal_all.new.units.items) (sym e) (subst G (sym (c.seal_all.ensures.items ∙ ap (map (sealed c.args.seal)) c.in_ok-units.ensures.units)) h)

pub give_parcel-requires-clause-fit : goal.give_parcel-requires-clause-fit
give_parcel-requires-clause-fit g c =
    let a = c.args.host.now in
    let x = c.args.seal in
    let us = ((shown (g.H.Host.held a)).rows c.args.class).deferred.first in
    let r = g.H.W.Knows.rights (g.H.Desk.shared a) in
    let F : Tests → Type 0 = λ t. All (Passes t (ripe_test Plain x.stamp x.seen)) us in
    let G : List Token → Type 0 = λ z. All (MayLeave r) z in
    let e = c.target_of-to.ensures.handled.shared_is ∙ c.lend_first.ensures.handled.shared_is in
    subst (λ w. All (MayLeave (g.H.W.Knows.rights w)) c.seal_all.new.units.items) (sym e) (subst G (sym (c.seal_all.ensures.items ∙ ap (map (sealed c.args.seal)) c.in_ok-units.ensures.units)) (sealed-leave r x us (subst F (g.met.H.Desk.tests_are a) c.requires.ripe)))

pub take_back_first-requires : goal.take_back_first-requires
take_back_first-requires g c =
    let a = c.args.host.now in
    let b = c.lend_first.new.host in
    let i = c.args.class in
    let x = c.args.seal in
    let s = shown (g.H.Host.held a) in
    let us = (s.rows i).deferred.first in
    let vs = c.in-Err.units.items in
    let e : vs ≡ map (sealed x) us = c.in-Err.ensures.refused ∙ c.seal_all.ensures.items ∙ ap (map (sealed x)) c.in_ok-units.ensures.units in
    let d : g.H.Host.held c.give_parcel.new.host ≡ g.H.Host.held b = c.give_parcel.ensures.posted.held ∙ c.target_of-to.ensures.same in
    let p : PlacedAs g.R.Recorder.log g.R.Recorder.counts (g.H.Host.held b) (with_first i (map (sealed x) us) s) = placed-sealed g.R.Recorder.log g.R.Recorder.counts (g.H.Host.held b) i (map (sealed x) us) s (sealed-named x us) (sealed-length x us) (sealed-sit x i us (c.requires.stands.fine.placed.classed.lists i First)) c.in_ok-units.ensures.lent.placed in
    let F : Caches g.row.R.Denot → List Token → Type 0 = λ z ws. (t : State Token) × FirstIsLent g.R.Recorder.log g.R.Recorder.counts i ws t z in
    record {
      lent = subst (λ z. F z vs) (sym d) (subst (F (g.H.Host.held b)) (sym e) (
        with_first i (map (sealed x) us) s,
        record {
          placed = p;
          lists = c.in_ok-units.ensures.lent.lists ∙ sym (twice-first i (map (sealed x) us) s);
          units = rw (eq-eqb i i refl) refl;
        },
      ));
    }

-- what is lent, at the end of the loan, and the lists after it
sent-lent : (g : Over) (c : goal.After-end_send g) → SendIsLent g.R.Recorder.log g.R.Recorder.counts (g.H.Host.face c.args.host.now).level c.args.class c.write_numbers.new.numbers.items (shown (g.H.Host.held c.args.host.now)) (g.H.Host.held c.give_parcel.new.host)
sent-lent g c =
    let a = c.args.host.now in
    let l = (g.H.Host.face a).level in
    let s = shown (g.H.Host.held a) in
    let ns = c.write_numbers.new.numbers.items in
    let d : g.H.Host.held c.give_parcel.new.host ≡ g.H.Host.held c.lend_first.new.host = c.give_parcel.ensures.posted.held ∙ c.target_of-to.ensures.same in
    let named : map number_of (s.rows c.args.class).deferred.first ≡ ns = sym (c.write_numbers.ensures.items ∙ ap (map number_of) c.in_ok-units.ensures.units) in
    let F : Caches g.row.R.Denot → Type 0 = λ z. SendIsLent g.R.Recorder.log g.R.Recorder.counts l c.args.class ns s z in
    subst F (sym d) (lent-by-first g.R.Recorder.log g.R.Recorder.counts (g.H.Host.held a) (g.H.Host.held c.lend_first.new.host) l c.args.class ns c.in_ok-units.ensures.lent c.in_ok-units.ensures.from (ap (λ (z : Side Token). length z.hand) c.requires.idle) named)

lists-sent : (g : Over) (c : goal.After-end_send g) → shown (g.H.Host.held c.end_send.new.host) ≡ effect (g.H.Host.face c.args.host.now).level (entry.Send c.args.class c.target_of-to.result (Whole c.write_numbers.new.numbers.items)) [] (shown (g.H.Host.held c.args.host.now))
lists-sent g c =
    let a = c.args.host.now in
    let x = c.give_parcel.new.host in
    let l = (g.H.Host.face a).level in
    let s = shown (g.H.Host.held a) in
    let ns = c.write_numbers.new.numbers.items in
    let lx : (g.H.Host.face x).level ≡ l = ap (λ (z : Face). z.level) (c.give_parcel.ensures.posted.face ∙ c.target_of-to.ensures.handled.face ∙ c.lend_first.ensures.handled.face) in
    let F : ℕ → Type 0 = λ k. SendIsLent g.R.Recorder.log g.R.Recorder.counts k c.args.class ns s (g.H.Host.held x) → shown (g.H.Host.held c.end_send.new.host) ≡ effect k (entry.Send c.args.class c.target_of-to.result (Whole ns)) [] s in
    subst F lx (c.end_send.ensures.lists s) (sent-lent g c)

pub returns-in-Ok-clause-ok : goal.returns-in-Ok-clause-ok
returns-in-Ok-clause-ok g c =
    let a = c.args.host.now in
    let b = c.lend_first.new.host in
    let w = c.target_of-to.new.host in
    let x = c.give_parcel.new.host in
    let y = c.end_send.new.host in
    let i = c.args.class in
    let to = c.target_of-to.result in
    let ns = c.write_numbers.new.numbers.items in
    let log = g.R.Recorder.log in
    let l = (g.H.Host.face a).level in
    let s = shown (g.H.Host.held a) in
    let p = c.give_parcel.ensures.posted in
    let f : g.H.Host.face x ≡ g.H.Host.face a = p.face ∙ c.target_of-to.ensures.handled.face ∙ c.lend_first.ensures.handled.face in
    let lx : (g.H.Host.face x).level ≡ l = ap (λ (z : Face). z.level) f in
    let d : g.H.Host.held x ≡ g.H.Host.held b = p.held ∙ c.target_of-to.ensures.same in
    let t : SendIsLent log g.R.Recorder.counts l i ns s (g.H.Host.held x) = sent-lent g c in
    let e = entry.Send i to (Whole ns) in
    let st = c.end_send.ensures.step in
    let F : ℕ → Caches g.row.R.Denot → Type 0 = λ k z. Appends (log z.recorder) k e (log (g.H.Host.held y).recorder) in
    let q : Appends (log (g.H.Host.held b).recorder) l e (log (g.H.Host.held y).recorder) = subst (F l) d (subst (λ k. F k (g.H.Host.held x)) lx st.records) in
    let A : g.row.R.Denot → Type 0 = λ z. Appends (log z) l e (log (g.H.Host.held y).recorder) in
    let gl : Goes g.H.Host.face g.H.Host.pending g.H.Desk.stays a b = record { face = c.lend_first.ensures.handled.face; pending = omega (arith, c.lend_first.ensures.handled.pending); keeps = c.lend_first.ensures.handled.stays } in
    let gw : Goes g.H.Host.face g.H.Host.pending g.H.Desk.stays b w = record { face = c.target_of-to.ensures.handled.face; pending = omega (arith, c.target_of-to.ensures.handled.pending); keeps = c.target_of-to.ensures.handled.stays } in
    let gx : Goes g.H.Host.face g.H.Host.pending g.H.Desk.stays w x = record { face = p.face; pending = omega (arith, p.pending); keeps = p.stays } in
    let gy : Goes g.H.Host.face g.H.Host.pending g.H.Desk.stays x y = record { face = c.end_send.ensures.handled.face; pending = omega (arith, c.end_send.ensures.handled.pending); keeps = c.end_send.ensures.handled.stays } in
    let j = g.met.H.Desk.stays_join in
    let K : g.row.H-W.Denot → Sides = λ z. (g.H.W.Knows.known z).grace in
    let n : K (g.H.Desk.shared y) ≡ K (g.H.Desk.shared a) = ap K c.end_send.ensures.handled.shared_is ∙ p.known_is ∙ ap K (c.target_of-to.ensures.handled.shared_is ∙ c.lend_first.ensures.handled.shared_is) in
    let m = c.in_ok-units.ensures.lent in
    let o : shown (g.H.Host.held y) ≡ effect l e [] s = lists-sent g c in
    let r : Appends (log (g.H.Host.held a).recorder) l e (log (g.H.Host.held y).recorder) = subst A m.recorder q in
    let ms : List ℕ = numbers c.seal_all.new.units.items in
    let v = works-entry log g.H.Host.face g.H.Host.pending g.H.Desk.stays g.H.Host.held (λ h. g.H.W.Knows.known (g.H.Desk.shared h)) a y e [] (goes-join j gl (goes-join j gw (goes-join j gx gy))) n r (st.processor ∙ ap (λ (z : Caches g.row.R.Denot). z.processor) d ∙ m.processor) o (sent-active l i to ns s) refl in
    works-map g.R.Recorder.log g.H.Host.face g.H.Host.pending g.H.Desk.stays g.H.Host.held (λ h. g.H.W.Knows.known (g.H.Desk.shared h)) 0 0 (λ l. Say l (IsOne e)) (λ l. Say l (IsSend i)) a y (λ l s part h. (h.0, (to, ns, h.1), h.2)) v

pub returns-in-Ok-clause-back : goal.returns-in-Ok-clause-back
returns-in-Ok-clause-back g c =
    let a = c.args.host.now in
    let x = c.give_parcel.new.host in
    let y = c.end_send.new.host in
    let i = c.args.class in
    let to = c.target_of-to.result in
    let ns = c.write_numbers.new.numbers.items in
    let T = g.H.Host.tests in
    let l = (g.H.Host.face a).level in
    let s = shown (g.H.Host.held a) in
    let h = (s.sides l).hand in
    let p = c.give_parcel.ensures.posted in
    let f : g.H.Host.face y ≡ g.H.Host.face a = c.end_send.ensures.handled.face ∙ p.face ∙ c.target_of-to.ensures.handled.face ∙ c.lend_first.ensures.handled.face in
    let d : g.H.Host.held x ≡ g.H.Host.held c.lend_first.new.host = p.held ∙ c.target_of-to.ensures.same in
    let named : map number_of (s.rows i).deferred.first ≡ ns = sym (c.write_numbers.ensures.items ∙ ap (map number_of) c.in_ok-units.ensures.units) in
    let k : Known l (entry.Send i to (Whole ns)) = record { level = c.lend_first.ensures.known.level; class = c.lend_first.ensures.known.class } in
    let hand : h ≡ [] = ap (λ (z : Side Token). z.hand) c.requires.idle in
    let e = sends-first h (s.rows i).deferred.first hand ∙ named in
    let O : List ℕ → Type 0 = λ m. Onward m (T a) (T y) in
    let t0 : T c.target_of-to.new.host ≡ T a = c.target_of-to.ensures.handled.tests_are ∙ c.lend_first.ensures.handled.tests_are in
    let o1 : Onward (numbers c.seal_all.new.units.items) (T a) (T x) = subst (λ t. Onward (numbers c.seal_all.new.units.items) t (T x)) t0 p.onward in
    let o2 : Onward (numbers c.seal_all.new.units.items) (T a) (T y) = subst (λ t. Onward (numbers c.seal_all.new.units.items) (T a) t) (sym c.end_send.ensures.handled.tests_are) o1 in
    let n : numbers c.seal_all.new.units.items ≡ ns = ap (map number_of) c.seal_all.ensures.items ∙ sealed-named c.args.seal c.in_ok-units.units.items ∙ sym c.write_numbers.ensures.items in
    let q = c.args.seal in
    let log = g.R.Recorder.log in
    let r = g.H.W.Knows.rights (g.H.Desk.shared a) in
    let FF : Tests → Type 0 = λ t. All (Passes t (ripe_test Plain q.stamp q.seen)) (s.rows i).deferred.first in
    let GG : List Token → Type 0 = λ z. All (WaitedBy r q) z in
    let shared = c.target_of-to.ensures.handled.shared_is ∙ c.lend_first.ensures.handled.shared_is in
    let waited = subst (λ w. All (WaitedBy (g.H.W.Knows.rights w) q) c.seal_all.new.units.items) (sym shared) (subst GG (sym (c.seal_all.ensures.items ∙ ap (map (sealed q)) c.in_ok-units.ensures.units)) (sealed-waited r q (s.rows i).deferred.first (subst FF (g.met.H.Desk.tests_are a) c.requires.ripe))) in
    let owed = subst (λ (z : List ℕ). g.H.Desk.asked_owes (act.Releases i to z q.stamp q.seen ∷ []) x) n (c.in-Ok.ensures.releases q waited [] (g.met.H.Desk.asked_open c.target_of-to.new.host c.target_of-to.ensures.asked)) in
    let fx : g.H.Host.face x ≡ g.H.Host.face a = p.face ∙ c.target_of-to.ensures.handled.face ∙ c.lend_first.ensures.handled.face in
    let here = may-go log g.R.Recorder.counts (T a) (g.H.Host.face a).processors (l + 1) (g.H.Host.held a) c.requires.stands.fine l i q.stamp q.seen c.requires.idle c.requires.stamped c.requires.taken c.requires.passed in
    let there = may-go-as log (g.H.Host.face a).processors l i q.stamp q.seen (g.H.Host.held a) (g.H.Host.held x) (ap (λ (z : Caches g.row.R.Denot). z.processor) d ∙ c.in_ok-units.ensures.lent.processor) (ap (λ (z : Caches g.row.R.Denot). z.recorder) d ∙ c.in_ok-units.ensures.lent.recorder) here in
    let may = subst (λ (k : Face). MayGo log k.processors k.level i q.stamp q.seen (g.H.Host.held x)) (sym fx) there in
    let D : Dated (T a) (effect l (entry.Send i to (Whole ns)) [] s) = first-dated (T a) l i to ns s hand c.requires.stands.dated in
    stands-sent g.R.Recorder.log g.R.Recorder.counts g.H.Host.sound T g.H.Host.face g.H.Host.held a y i to ns f (c.end_send.ensures.released c.args.seal.stamp c.args.seal.seen may owed) c.end_send.ensures.placed (lists-sent g c) (c.end_send.ensures.step.processor ∙ ap (λ (z : Caches g.row.R.Denot). z.processor) d ∙ c.in_ok-units.ensures.lent.processor) (sent-apart l i to ns s k c.requires.stands.fine.placed.once e) (subst O n o2) D c.requires.stands
