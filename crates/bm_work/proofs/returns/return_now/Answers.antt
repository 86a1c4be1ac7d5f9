use Rattle.std.proofs.Common.{◌≡◌, ◌≤◌, ◌∙◌, [], ◌∷◌, ℕ, List, map, refl, sym, subst, ap, arith}
use Rattle.std.specs.List.{All}
use Rattle.bm_journal.specs.declared.units.Units.TheVariants.{Whole}
use Rattle.bm_journal.specs.declared.entry.Entry.TheVariants as entry
use Rattle.bm_law.specs.Effect.{effect}
use Rattle.bm_law.specs.Stands.{Known, times}
use Rattle.bm_cache.specs.Shown.{shown}
use Rattle.bm_cache.specs.Span.{Face, Goes}
use Rattle.bm_cache.specs.Tests.{Tests, Reusable}
use Rattle.bm_cache.specs.Tokens.{Token, number_of}
use Rattle.bm_cache.specs.declared.caches.Caches.{Caches}
use Rattle.bm_cache.proofs.Lent.{return-lent}
use Rattle.bm_cache.proofs.Moments.{goes-join}
use Rattle.bm_grace.specs.Known.{Known as KnownValue}
use Rattle.bm_journal.specs.Recording.{Appends}
use Rattle.bm_law_work.specs.Parts.{Say}
use Rattle.bm_law_work.specs.WorkPhrases.{IsOne, IsReturn}
use Rattle.bm_post.specs.Rights.{Holds, IsSettled, MayLeave, numbers}
use Rattle.bm_work.specs.Onward.{Onward}
use Rattle.bm_work.proofs.Gone.{holds-reusable, leave-reusable, returned-apart, returned-once, settled-reusable, stands-returned}
use Rattle.bm_work.proofs.Sides.{works-map}
use Rattle.bm_work.proofs.Steps.{returned-active, works-entry}
use Rattle.bm_law_order.specs.Act as act
use Rattle.bm_work.proofs.returns.return_now.Goals as goal

pub give_back-requires-clause-mine : goal.give_back-requires-clause-mine
give_back-requires-clause-mine g c =
    let a = c.args.host.now in
    let i = c.args.class in
    let l = (g.H.Host.face a).level in
    let s = shown (g.H.Host.held a) in
    let us = (s.rows i).deferred.second in
    let r = g.H.W.Knows.rights (g.H.Desk.shared a) in
    let k : Known l (entry.Return i (Whole (map number_of us))) = record { level = c.lend_second.ensures.known.level; class = c.lend_second.ensures.known.class } in
    let o : (n : ℕ) → times n (map number_of us) ≤ 1 = returned-once l i (map number_of us) s k c.requires.stands.fine.placed.once refl in
    let F : Tests → Type 0 = λ t. All (Reusable t) us in
    let G : List Token → Type 0 = λ z. Holds r z in
    subst (λ w. Holds (g.H.W.Knows.rights w) c.in_ok-units.units.items) (sym c.lend_second.ensures.handled.shared_is) (subst G (sym c.in_ok-units.ensures.units) (holds-reusable r us o (subst F (g.met.H.Desk.tests_are a) (c.requires.stands.dated i).settled)))

pub give_back-requires-clause-fit : goal.give_back-requires-clause-fit
give_back-requires-clause-fit g c =
    let a = c.args.host.now in
    let i = c.args.class in
    let us = ((shown (g.H.Host.held a)).rows i).deferred.second in
    let r = g.H.W.Knows.rights (g.H.Desk.shared a) in
    let F : Tests → Type 0 = λ t. All (Reusable t) us in
    let G : List Token → Type 0 = λ z. All (MayLeave r) z in
    subst (λ w. All (MayLeave (g.H.W.Knows.rights w)) c.in_ok-units.units.items) (sym c.lend_second.ensures.handled.shared_is) (subst G (sym c.in_ok-units.ensures.units) (leave-reusable r us (subst F (g.met.H.Desk.tests_are a) (c.requires.stands.dated i).settled)))

pub give_back-requires-clause-settled : goal.give_back-requires-clause-settled
give_back-requires-clause-settled g c =
    let a = c.args.host.now in
    let i = c.args.class in
    let us = ((shown (g.H.Host.held a)).rows i).deferred.second in
    let r = g.H.W.Knows.rights (g.H.Desk.shared a) in
    let F : Tests → Type 0 = λ t. All (Reusable t) us in
    let G : List Token → Type 0 = λ z. All (IsSettled r) z in
    subst (λ w. All (IsSettled (g.H.W.Knows.rights w)) c.in_ok-units.units.items) (sym c.lend_second.ensures.handled.shared_is) (subst G (sym c.in_ok-units.ensures.units) (settled-reusable r us (subst F (g.met.H.Desk.tests_are a) (c.requires.stands.dated i).settled)))

pub returns-clause-back : goal.returns-clause-back
returns-clause-back g c =
    let a = c.args.host.now in
    let b = c.lend_second.new.host in
    let x = c.give_back.new.host in
    let y = c.end_return.new.host in
    let i = c.args.class in
    let ns = c.write_numbers.new.numbers.items in
    let T = g.H.Host.tests in
    let l = (g.H.Host.face a).level in
    let s = shown (g.H.Host.held a) in
    let us = (s.rows i).deferred.second in
    let p = c.give_back.ensures.posted in
    let fx : g.H.Host.face x ≡ g.H.Host.face a = p.face ∙ c.lend_second.ensures.handled.face in
    let lx : (g.H.Host.face x).level ≡ l = ap (λ (z : Face). z.level) fx in
    let d : g.H.Host.held x ≡ g.H.Host.held b = p.held in
    let named : map number_of us ≡ ns = sym (c.write_numbers.ensures.items ∙ ap (map number_of) c.in_ok-units.ensures.units) in
    let k : Known l (entry.Return i (Whole ns)) = record { level = c.lend_second.ensures.known.level; class = c.lend_second.ensures.known.class } in
    let E : ℕ → Type 0 = λ m. shown (g.H.Host.held y) ≡ effect m (entry.Return i (Whole ns)) [] (shown (g.H.Host.held x)) in
    let q : shown (g.H.Host.held x) ≡ shown (g.H.Host.held b) = ap (λ (z : Caches g.row.R.Denot). shown z) d in
    let lists : shown (g.H.Host.held y) ≡ effect l (entry.Return i (Whole ns)) [] s = subst E lx c.end_return.ensures.step.after ∙ return-lent i l s (shown (g.H.Host.held x)) (q ∙ c.in_ok-units.ensures.lent.lists) ns in
    let O : List ℕ → Type 0 = λ m. Onward m (T a) (T y) in
    let o1 : Onward (numbers c.in_ok-units.units.items) (T a) (T x) = subst (λ t. Onward (numbers c.in_ok-units.units.items) t (T x)) c.lend_second.ensures.handled.tests_are p.onward in
    let o2 : Onward (numbers c.in_ok-units.units.items) (T a) (T y) = subst (λ t. Onward (numbers c.in_ok-units.units.items) (T a) t) (sym c.end_return.ensures.handled.tests_are) o1 in
    stands-returned g.R.Recorder.log g.R.Recorder.counts g.H.Host.sound T g.H.Host.face g.H.Host.held a y i ns (c.end_return.ensures.handled.face ∙ fx) (c.end_return.ensures.sound (subst (λ (z : List ℕ). g.H.Desk.asked_owes (act.GivesBack z ∷ []) x) (sym c.write_numbers.ensures.items) (c.give_back.ensures.owes [] (g.met.H.Desk.asked_open b c.lend_second.ensures.asked)))) c.end_return.ensures.placed lists (c.end_return.ensures.step.processor ∙ ap (λ (z : Caches g.row.R.Denot). z.processor) d ∙ c.in_ok-units.ensures.lent.processor) (returned-apart l i ns s k c.requires.stands.fine.placed.once named) (subst O (sym c.write_numbers.ensures.items) o2) c.requires.stands

pub returns-clause-ok : goal.returns-clause-ok
returns-clause-ok g c =
    let a = c.args.host.now in
    let b = c.lend_second.new.host in
    let x = c.give_back.new.host in
    let y = c.end_return.new.host in
    let i = c.args.class in
    let ns = c.write_numbers.new.numbers.items in
    let log = g.R.Recorder.log in
    let l = (g.H.Host.face a).level in
    let s = shown (g.H.Host.held a) in
    let e = entry.Return i (Whole ns) in
    let p = c.give_back.ensures.posted in
    let m = c.in_ok-units.ensures.lent in
    let st = c.end_return.ensures.step in
    let f : g.H.Host.face x ≡ g.H.Host.face a = p.face ∙ c.lend_second.ensures.handled.face in
    let lx : (g.H.Host.face x).level ≡ l = ap (λ (z : Face). z.level) f in
    let d : g.H.Host.held x ≡ g.H.Host.held b = p.held in
    let F : ℕ → Caches g.row.R.Denot → Type 0 = λ k z. Appends (log z.recorder) k e (log (g.H.Host.held y).recorder) in
    let q : Appends (log (g.H.Host.held b).recorder) l e (log (g.H.Host.held y).recorder) = subst (F l) d (subst (λ k. F k (g.H.Host.held x)) lx st.records) in
    let A : g.row.R.Denot → Type 0 = λ z. Appends (log z) l e (log (g.H.Host.held y).recorder) in
    let r : Appends (log (g.H.Host.held a).recorder) l e (log (g.H.Host.held y).recorder) = subst A m.recorder q in
    let E : ℕ → Type 0 = λ k. shown (g.H.Host.held y) ≡ effect k e [] (shown (g.H.Host.held x)) in
    let lists : shown (g.H.Host.held y) ≡ effect l e [] s = subst E lx st.after ∙ return-lent i l s (shown (g.H.Host.held x)) (ap (λ (z : Caches g.row.R.Denot). shown z) d ∙ m.lists) ns in
    let gl : Goes g.H.Host.face g.H.Host.pending g.H.Desk.stays a b = record { face = c.lend_second.ensures.handled.face; pending = omega (arith, c.lend_second.ensures.handled.pending); keeps = c.lend_second.ensures.handled.stays } in
    let gx : Goes g.H.Host.face g.H.Host.pending g.H.Desk.stays b x = record { face = p.face; pending = omega (arith, p.pending); keeps = p.stays } in
    let gy : Goes g.H.Host.face g.H.Host.pending g.H.Desk.stays x y = record { face = c.end_return.ensures.handled.face; pending = omega (arith, c.end_return.ensures.handled.pending); keeps = c.end_return.ensures.handled.stays } in
    let j = g.met.H.Desk.stays_join in
    let N : g.row.H.Denot → KnownValue = λ z. g.H.W.Knows.known (g.H.Desk.shared z) in
    let ha : N b ≡ N a = ap g.H.W.Knows.known c.lend_second.ensures.handled.shared_is in
    let hy : N y ≡ N x = ap g.H.W.Knows.known c.end_return.ensures.handled.shared_is in
    let n : (N y).grace ≡ (N a).grace = ap (λ (k : KnownValue). k.grace) hy ∙ p.known_is ∙ ap (λ (k : KnownValue). k.grace) ha in
    let v = works-entry log g.H.Host.face g.H.Host.pending g.H.Desk.stays g.H.Host.held N a y e [] (goes-join j gl (goes-join j gx gy)) n r (st.processor ∙ ap (λ (z : Caches g.row.R.Denot). z.processor) d ∙ m.processor) lists (returned-active l i ns s) refl in
    works-map log g.H.Host.face g.H.Host.pending g.H.Desk.stays g.H.Host.held N 0 0 (λ l. Say l (IsOne e)) (λ l. Say l (IsReturn i)) a y (λ l s part h. (h.0, (ns, h.1), h.2)) v
