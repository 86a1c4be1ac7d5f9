use Rattle.std.proofs.Common.{◌≡◌, ◌≤◌, ◌∙◌, [], ◌∷◌, ℕ, List, map, refl, sym, subst, ap, arith}
use Rattle.std.specs.List.{All}
use Rattle.bm_grace.specs.Known.{Sides}
use Rattle.bm_journal.specs.Recording.{Appends}
use Rattle.bm_journal.specs.declared.units.Units.TheVariants.{Whole}
use Rattle.bm_journal.specs.declared.entry.Entry.TheVariants as entry
use Rattle.bm_law.specs.Effect.{effect}
use Rattle.bm_law.specs.Stands.{Known, times}
use Rattle.bm_law.specs.State.{State}
use Rattle.bm_cache.specs.Lent.{SendIsLent}
use Rattle.bm_cache.specs.Shown.{shown}
use Rattle.bm_cache.specs.Span.{Face, Goes}
use Rattle.bm_cache.specs.Tests.{Tests}
use Rattle.bm_cache.specs.Tokens.{Token, number_of}
use Rattle.bm_cache.specs.declared.caches.Caches.{Caches}
use Rattle.bm_cache.proofs.Moments.{goes-join}
use Rattle.bm_cache.proofs.Outside.{lent-by-hand}
use Rattle.bm_law_work.specs.Parts.{Say}
use Rattle.bm_law_work.specs.WorkPhrases.{IsOne, IsSend}
use Rattle.bm_post.specs.Rights.{Holds, IsSettled, numbers}
use Rattle.bm_work_lists.specs.Fit.{Fit}
use Rattle.bm_work.specs.Dated.{DatedRow, Dated}
use Rattle.bm_work.proofs.sends.send_hand_now.Given.{Over}
use Rattle.bm_work.specs.Onward.{Onward}
use Rattle.bm_work.proofs.Gone.{hand-deferred, hand-side, holds-fit, sends-hand, sent-active, sent-apart, sent-once, settled-fit, stands-sent}
use Rattle.bm_work.proofs.Sides.{works-map}
use Rattle.bm_work.proofs.Steps.{works-entry}
use Rattle.bm_law_order.specs.Act as act
use Rattle.bm_work.proofs.sends.send_hand_now.Goals as goal

pub give_parcel-requires-clause-mine : goal.give_parcel-requires-clause-mine
give_parcel-requires-clause-mine g c =
    let a = c.args.host.now in
    let i = c.args.class in
    let l = (g.H.Host.face a).level in
    let s = shown (g.H.Host.held a) in
    let h = (s.sides l).hand in
    let r = g.H.W.Knows.rights (g.H.Desk.shared a) in
    let k : Known l (entry.Send i 0 (Whole (map number_of h))) = record { level = c.lend_hand.ensures.known.level; class = c.lend_hand.ensures.known.class } in
    let o : (n : ℕ) → times n (map number_of h) ≤ 1 = sent-once l i 0 (map number_of h) s k c.requires.stands.fine.placed.once (sends-hand h (s.rows i).deferred.first c.requires.some) in
    let F : Tests → Type 0 = λ t. All (Fit t i) h in
    let G : List Token → Type 0 = λ us. Holds r us in
    let e = c.target_of-to.ensures.handled.shared_is ∙ c.lend_hand.ensures.handled.shared_is in
    subst (λ w. Holds (g.H.W.Knows.rights w) c.in_ok-units.units.items) (sym e) (subst G (sym c.in_ok-units.ensures.units) (holds-fit r i h o (subst F (g.met.H.Desk.tests_are a) c.requires.fit)))

-- what is lent, at the end of the loan, and the lists after it
sent-lent : (g : Over) (c : goal.After-end_send g) → SendIsLent g.R.Recorder.log g.R.Recorder.counts (g.H.Host.face c.args.host.now).level c.args.class c.write_numbers.new.numbers.items (shown (g.H.Host.held c.args.host.now)) (g.H.Host.held c.give_parcel.new.host)
sent-lent g c =
    let a = c.args.host.now in
    let l = (g.H.Host.face a).level in
    let s = shown (g.H.Host.held a) in
    let ns = c.write_numbers.new.numbers.items in
    let d : g.H.Host.held c.give_parcel.new.host ≡ g.H.Host.held c.lend_hand.new.host = c.give_parcel.ensures.posted.held ∙ c.target_of-to.ensures.same in
    let named : map number_of (s.sides l).hand ≡ ns = sym (c.write_numbers.ensures.items ∙ ap (map number_of) c.in_ok-units.ensures.units) in
    let F : Caches g.row.R.Denot → Type 0 = λ z. SendIsLent g.R.Recorder.log g.R.Recorder.counts l c.args.class ns s z in
    subst F (sym d) (lent-by-hand g.R.Recorder.log g.R.Recorder.counts (g.H.Host.held a) (g.H.Host.held c.lend_hand.new.host) l c.args.class ns c.in_ok-units.ensures.lent c.in_ok-units.ensures.from c.requires.some named)

lists-sent : (g : Over) (c : goal.After-end_send g) → shown (g.H.Host.held c.end_send.new.host) ≡ effect (g.H.Host.face c.args.host.now).level (entry.Send c.args.class c.target_of-to.result (Whole c.write_numbers.new.numbers.items)) [] (shown (g.H.Host.held c.args.host.now))
lists-sent g c =
    let a = c.args.host.now in
    let x = c.give_parcel.new.host in
    let l = (g.H.Host.face a).level in
    let s = shown (g.H.Host.held a) in
    let ns = c.write_numbers.new.numbers.items in
    let lx : (g.H.Host.face x).level ≡ l = ap (λ (z : Face). z.level) (c.give_parcel.ensures.posted.face ∙ c.target_of-to.ensures.handled.face ∙ c.lend_hand.ensures.handled.face) in
    let F : ℕ → Type 0 = λ k. SendIsLent g.R.Recorder.log g.R.Recorder.counts k c.args.class ns s (g.H.Host.held x) → shown (g.H.Host.held c.end_send.new.host) ≡ effect k (entry.Send c.args.class c.target_of-to.result (Whole ns)) [] s in
    subst F lx (c.end_send.ensures.lists s) (sent-lent g c)

pub returns-in-Ok-clause-ok : goal.returns-in-Ok-clause-ok
returns-in-Ok-clause-ok g c =
    let a = c.args.host.now in
    let b = c.lend_hand.new.host in
    let w = c.target_of-to.new.host in
    let x = c.give_parcel.new.host in
    let y = c.end_send.new.host in
    let i = c.args.class in
    let to = c.target_of-to.result in
    let ns = c.write_numbers.new.numbers.items in
    let log = g.R.Recorder.log in
    let l = (g.H.Host.face a).level in
    let s = shown (g.H.Host.held a) in
    let p = c.give_parcel.ensures.posted in
    let f : g.H.Host.face x ≡ g.H.Host.face a = p.face ∙ c.target_of-to.ensures.handled.face ∙ c.lend_hand.ensures.handled.face in
    let lx : (g.H.Host.face x).level ≡ l = ap (λ (z : Face). z.level) f in
    let d : g.H.Host.held x ≡ g.H.Host.held b = p.held ∙ c.target_of-to.ensures.same in
    let t : SendIsLent log g.R.Recorder.counts l i ns s (g.H.Host.held x) = sent-lent g c in
    let e = entry.Send i to (Whole ns) in
    let st = c.end_send.ensures.step in
    let F : ℕ → Caches g.row.R.Denot → Type 0 = λ k z. Appends (log z.recorder) k e (log (g.H.Host.held y).recorder) in
    let q : Appends (log (g.H.Host.held b).recorder) l e (log (g.H.Host.held y).recorder) = subst (F l) d (subst (λ k. F k (g.H.Host.held x)) lx st.records) in
    let A : g.row.R.Denot → Type 0 = λ z. Appends (log z) l e (log (g.H.Host.held y).recorder) in
    let gl : Goes g.H.Host.face g.H.Host.pending g.H.Desk.stays a b = record { face = c.lend_hand.ensures.handled.face; pending = omega (arith, c.lend_hand.ensures.handled.pending); keeps = c.lend_hand.ensures.handled.stays } in
    let gw : Goes g.H.Host.face g.H.Host.pending g.H.Desk.stays b w = record { face = c.target_of-to.ensures.handled.face; pending = omega (arith, c.target_of-to.ensures.handled.pending); keeps = c.target_of-to.ensures.handled.stays } in
    let gx : Goes g.H.Host.face g.H.Host.pending g.H.Desk.stays w x = record { face = p.face; pending = omega (arith, p.pending); keeps = p.stays } in
    let gy : Goes g.H.Host.face g.H.Host.pending g.H.Desk.stays x y = record { face = c.end_send.ensures.handled.face; pending = omega (arith, c.end_send.ensures.handled.pending); keeps = c.end_send.ensures.handled.stays } in
    let j = g.met.H.Desk.stays_join in
    let K : g.row.H-W.Denot → Sides = λ z. (g.H.W.Knows.known z).grace in
    let n : K (g.H.Desk.shared y) ≡ K (g.H.Desk.shared a) = ap K c.end_send.ensures.handled.shared_is ∙ p.known_is ∙ ap K (c.target_of-to.ensures.handled.shared_is ∙ c.lend_hand.ensures.handled.shared_is) in
    let m = c.in_ok-units.ensures.lent in
    let o : shown (g.H.Host.held y) ≡ effect l e [] s = lists-sent g c in
    let r : Appends (log (g.H.Host.held a).recorder) l e (log (g.H.Host.held y).recorder) = subst A m.recorder q in
    let ms : List ℕ = numbers c.in_ok-units.units.items in
    let v = works-entry log g.H.Host.face g.H.Host.pending g.H.Desk.stays g.H.Host.held (λ h. g.H.W.Knows.known (g.H.Desk.shared h)) a y e [] (goes-join j gl (goes-join j gw (goes-join j gx gy))) n r (st.processor ∙ ap (λ (z : Caches g.row.R.Denot). z.processor) d ∙ m.processor) o (sent-active l i to ns s) refl in
    works-map g.R.Recorder.log g.H.Host.face g.H.Host.pending g.H.Desk.stays g.H.Host.held (λ h. g.H.W.Knows.known (g.H.Desk.shared h)) 0 0 (λ l. Say l (IsOne e)) (λ l. Say l (IsSend i)) a y (λ l s part h. (h.0, (to, ns, h.1), h.2)) v

pub returns-in-Ok-clause-back : goal.returns-in-Ok-clause-back
returns-in-Ok-clause-back g c =
    let a = c.args.host.now in
    let x = c.give_parcel.new.host in
    let y = c.end_send.new.host in
    let i = c.args.class in
    let to = c.target_of-to.result in
    let ns = c.write_numbers.new.numbers.items in
    let T = g.H.Host.tests in
    let l = (g.H.Host.face a).level in
    let s = shown (g.H.Host.held a) in
    let h = (s.sides l).hand in
    let p = c.give_parcel.ensures.posted in
    let f : g.H.Host.face y ≡ g.H.Host.face a = c.end_send.ensures.handled.face ∙ p.face ∙ c.target_of-to.ensures.handled.face ∙ c.lend_hand.ensures.handled.face in
    let d : g.H.Host.held x ≡ g.H.Host.held c.lend_hand.new.host = p.held ∙ c.target_of-to.ensures.same in
    let named : map number_of h ≡ ns = sym (c.write_numbers.ensures.items ∙ ap (map number_of) c.in_ok-units.ensures.units) in
    let k : Known l (entry.Send i to (Whole ns)) = record { level = c.lend_hand.ensures.known.level; class = c.lend_hand.ensures.known.class } in
    let e = sends-hand h (s.rows i).deferred.first c.requires.some ∙ named in
    let O : List ℕ → Type 0 = λ m. Onward m (T a) (T y) in
    let t0 : T c.target_of-to.new.host ≡ T a = c.target_of-to.ensures.handled.tests_are ∙ c.lend_hand.ensures.handled.tests_are in
    let o1 : Onward (numbers c.in_ok-units.units.items) (T a) (T x) = subst (λ t. Onward (numbers c.in_ok-units.units.items) t (T x)) t0 p.onward in
    let o2 : Onward (numbers c.in_ok-units.units.items) (T a) (T y) = subst (λ t. Onward (numbers c.in_ok-units.units.items) (T a) t) (sym c.end_send.ensures.handled.tests_are) o1 in
    let n : numbers c.in_ok-units.units.items ≡ ns = sym c.write_numbers.ensures.items in
    let q = hand-deferred l i to ns s c.requires.some in
    let D : Dated (T a) (effect l (entry.Send i to (Whole ns)) [] s) = (λ m. subst (DatedRow (T a)) (sym (q m)) (c.requires.stands.dated m)) in
    let r = g.H.W.Knows.rights (g.H.Desk.shared a) in
    let FF : Tests → Type 0 = λ t. All (Fit t i) (s.sides l).hand in
    let GG : List Token → Type 0 = λ us. All (IsSettled r) us in
    let shared = c.target_of-to.ensures.handled.shared_is ∙ c.lend_hand.ensures.handled.shared_is in
    let settled = subst (λ w. All (IsSettled (g.H.W.Knows.rights w)) c.in_ok-units.units.items) (sym shared) (subst GG (sym c.in_ok-units.ensures.units) (settled-fit r i (s.sides l).hand (subst FF (g.met.H.Desk.tests_are a) c.requires.fit))) in
    stands-sent g.R.Recorder.log g.R.Recorder.counts g.H.Host.sound T g.H.Host.face g.H.Host.held a y i to ns f (c.end_send.ensures.drained (subst (λ (z : List ℕ). g.H.Desk.asked_owes (act.Drains i to z ∷ []) x) n (c.in-Ok.ensures.drains settled [] (g.met.H.Desk.asked_open c.target_of-to.new.host c.target_of-to.ensures.asked)))) c.end_send.ensures.placed (lists-sent g c) (c.end_send.ensures.step.processor ∙ ap (λ (z : Caches g.row.R.Denot). z.processor) d ∙ c.in_ok-units.ensures.lent.processor) (sent-apart l i to ns s k c.requires.stands.fine.placed.once e) (subst O n o2) D c.requires.stands

pub returns-in-Ok-clause-deferred : goal.returns-in-Ok-clause-deferred
returns-in-Ok-clause-deferred g c k =
    let a = c.args.host.now in
    ap (λ (z : State Token). (z.rows k).deferred) (lists-sent g c) ∙ hand-deferred (g.H.Host.face a).level c.args.class c.target_of-to.result c.write_numbers.new.numbers.items (shown (g.H.Host.held a)) c.requires.some k

pub returns-in-Ok-clause-side : goal.returns-in-Ok-clause-side
returns-in-Ok-clause-side g c =
    let a = c.args.host.now in
    let l = (g.H.Host.face a).level in
    ap (λ (z : State Token). z.sides l) (lists-sent g c) ∙ hand-side l c.args.class c.target_of-to.result c.write_numbers.new.numbers.items (shown (g.H.Host.held a)) c.requires.some
