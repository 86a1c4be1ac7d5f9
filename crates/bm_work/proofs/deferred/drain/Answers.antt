use Rattle.std.proofs.Common.{◌≡◌, ◌∙◌, [], ℕ, Bool, refl, sym, subst, ap}
use Rattle.bm_law.specs.State.{seen}
use Rattle.bm_cache.specs.Shown.{shown}
use Rattle.bm_cache.specs.Span.{Face}
use Rattle.bm_cache.specs.Tokens.{number_of}
use Rattle.bm_cache.specs.declared.caches.Caches.{Caches}
use Rattle.bm_law_work.specs.Parts.{Part, Say, Then, When}
use Rattle.bm_law_work.specs.WorkPhrases.{Drain, IsSend, IsTakeExtra, Unloads, has_hand, middle_of_class}
use Rattle.bm_work.specs.Stops.{DrainStop, Missing}
use Rattle.bm_work.specs.Works.{Works}
use Rattle.bm_work.proofs.Sides.{on-err, on-ok, posted-stopped, posted-works, works-join, works-map-here, works-still-here, works-stopped}
use Rattle.bm_work.proofs.Thens.{then-of, then-right, when-false, when-true}
use Rattle.bm_work.proofs.deferred.drain.Goals as goal

pub returns-then-not-holds_some-clause-ok : goal.returns-then-not-holds_some-clause-ok
returns-then-not-holds_some-clause-ok g c =
    let j = g.met.H.Desk.stays_join in
    let i = c.args.class in
    let a = c.args.host.now in
    let b = c.unload_to_hand.new.host in
    let x = c.holds_some.new.host in
    let U : ℕ → Part = λ l. Say l (Unloads i (middle_of_class i)) in
    let T : ℕ → Part = λ l. Say l (IsTakeExtra i) in
    let S : ℕ → Part = λ l. Say l (IsSend i) in
    let D : ℕ → Part = λ l. When (has_hand l) (S l) in
    let UT : ℕ → Part = λ l. Then (U l) (T l) in
    let F : ℕ → Type 0 = λ m. Works g.R.Recorder.log g.H.Host.face g.H.Host.pending g.H.Desk.stays g.H.Host.held (λ h. g.H.W.Knows.known (g.H.Desk.shared h)) 0 0 (λ l. Then (Say l (Unloads i m)) (Say l (IsTakeExtra i))) a b in
    let u : Works g.R.Recorder.log g.H.Host.face g.H.Host.pending g.H.Desk.stays g.H.Host.held (λ h. g.H.W.Knows.known (g.H.Desk.shared h)) 0 0 UT a b = subst F c.requires.middle c.unload_to_hand.ensures.works in
    let fx : g.H.Host.face x ≡ g.H.Host.face b = c.holds_some.ensures.posted.face in
    let lx : (g.H.Host.face x).level ≡ (g.H.Host.face b).level = ap (λ (z : Face). z.level) fx in
    let G : ℕ → Caches g.row.R.Denot → Bool = λ k z. has_hand k (seen number_of (shown z)) in
    let e : G (g.H.Host.face x).level (g.H.Host.held x) ≡ c.holds_some.result = ap (λ k. G k (g.H.Host.held x)) lx ∙ ap (G (g.H.Host.face b).level) c.holds_some.ensures.same ∙ sym c.holds_some.ensures.answer in
    let d = works-still-here g.R.Recorder.log g.H.Host.face g.H.Host.pending g.H.Desk.stays g.H.Host.held (λ h. g.H.W.Knows.known (g.H.Desk.shared h)) D x (g.met.H.Desk.keeps_stays x x (g.met.H.Host.keeps_same x)) (when-false (has_hand (g.H.Host.face x).level) (S (g.H.Host.face x).level) (seen number_of (shown (g.H.Host.held x))) [] (e ∙ c.if-not-holds_some.true) refl) in
    works-join g.R.Recorder.log g.R.Recorder.counts g.H.Host.face g.H.Host.pending g.H.Desk.stays g.H.Host.held (λ h. g.H.W.Knows.known (g.H.Desk.shared h)) j 0 0 0 0 UT D (λ l. Drain l i) a b x (λ l s one two p q. then-right (U l) (T l) (D l) s _ (then-of (UT l) (D l) s one two p q)) c.requires.stands.fine.placed c.unload_to_hand.ensures.stands.fine.placed u (posted-works g.R.Recorder.log g.R.Recorder.counts g.H.Host.face g.H.Host.pending g.H.Desk.stays g.H.Host.held (λ h. g.H.W.Knows.known (g.H.Desk.shared h)) g.H.Host.tests j [] 0 0 D b x x c.unload_to_hand.ensures.stands.fine.placed c.holds_some.ensures.stands.fine.placed c.holds_some.ensures.posted d)

pub returns-clause-ok : goal.returns-clause-ok
returns-clause-ok g c =
    let j = g.met.H.Desk.stays_join in
    let i = c.args.class in
    let a = c.args.host.now in
    let b = c.unload_to_hand.new.host in
    let x = c.holds_some.new.host in
    let U : ℕ → Part = λ l. Say l (Unloads i (middle_of_class i)) in
    let T : ℕ → Part = λ l. Say l (IsTakeExtra i) in
    let S : ℕ → Part = λ l. Say l (IsSend i) in
    let D : ℕ → Part = λ l. When (has_hand l) (S l) in
    let UT : ℕ → Part = λ l. Then (U l) (T l) in
    let F : ℕ → Type 0 = λ m. Works g.R.Recorder.log g.H.Host.face g.H.Host.pending g.H.Desk.stays g.H.Host.held (λ h. g.H.W.Knows.known (g.H.Desk.shared h)) 0 0 (λ l. Then (Say l (Unloads i m)) (Say l (IsTakeExtra i))) a b in
    let u : Works g.R.Recorder.log g.H.Host.face g.H.Host.pending g.H.Desk.stays g.H.Host.held (λ h. g.H.W.Knows.known (g.H.Desk.shared h)) 0 0 UT a b = subst F c.requires.middle c.unload_to_hand.ensures.works in
    let fx : g.H.Host.face x ≡ g.H.Host.face b = c.holds_some.ensures.posted.face in
    let lx : (g.H.Host.face x).level ≡ (g.H.Host.face b).level = ap (λ (z : Face). z.level) fx in
    let G : ℕ → Caches g.row.R.Denot → Bool = λ k z. has_hand k (seen number_of (shown z)) in
    let e : G (g.H.Host.face x).level (g.H.Host.held x) ≡ c.holds_some.result = ap (λ k. G k (g.H.Host.held x)) lx ∙ ap (G (g.H.Host.face b).level) c.holds_some.ensures.same ∙ sym c.holds_some.ensures.answer in
    let y = c.send_hand.new.host in
    on-ok c.send_hand.result (λ w.
    (let d = works-map-here g.R.Recorder.log g.H.Host.face g.H.Host.pending g.H.Desk.stays g.H.Host.held (λ h. g.H.W.Knows.known (g.H.Desk.shared h)) 0 0 S D x y (λ part p. when-true (has_hand (g.H.Host.face x).level) (S (g.H.Host.face x).level) (seen number_of (shown (g.H.Host.held x))) part (e ∙ c.if-not-holds_some.false) p) w in
    works-join g.R.Recorder.log g.R.Recorder.counts g.H.Host.face g.H.Host.pending g.H.Desk.stays g.H.Host.held (λ h. g.H.W.Knows.known (g.H.Desk.shared h)) j 0 0 0 0 UT D (λ l. Drain l i) a b y (λ l s one two p q. then-right (U l) (T l) (D l) s _ (then-of (UT l) (D l) s one two p q)) c.requires.stands.fine.placed c.unload_to_hand.ensures.stands.fine.placed u (posted-works g.R.Recorder.log g.R.Recorder.counts g.H.Host.face g.H.Host.pending g.H.Desk.stays g.H.Host.held (λ h. g.H.W.Knows.known (g.H.Desk.shared h)) g.H.Host.tests j [] 0 0 D b x y c.unload_to_hand.ensures.stands.fine.placed c.holds_some.ensures.stands.fine.placed c.holds_some.ensures.posted d))) c.send_hand.ensures.ok

pub returns-clause-err : goal.returns-clause-err
returns-clause-err g c =
    let j = g.met.H.Desk.stays_join in
    let i = c.args.class in
    let a = c.args.host.now in
    let b = c.unload_to_hand.new.host in
    let x = c.holds_some.new.host in
    let U : ℕ → Part = λ l. Say l (Unloads i (middle_of_class i)) in
    let T : ℕ → Part = λ l. Say l (IsTakeExtra i) in
    let S : ℕ → Part = λ l. Say l (IsSend i) in
    let D : ℕ → Part = λ l. When (has_hand l) (S l) in
    let UT : ℕ → Part = λ l. Then (U l) (T l) in
    let F : ℕ → Type 0 = λ m. Works g.R.Recorder.log g.H.Host.face g.H.Host.pending g.H.Desk.stays g.H.Host.held (λ h. g.H.W.Knows.known (g.H.Desk.shared h)) 0 0 (λ l. Then (Say l (Unloads i m)) (Say l (IsTakeExtra i))) a b in
    let u : Works g.R.Recorder.log g.H.Host.face g.H.Host.pending g.H.Desk.stays g.H.Host.held (λ h. g.H.W.Knows.known (g.H.Desk.shared h)) 0 0 UT a b = subst F c.requires.middle c.unload_to_hand.ensures.works in
    let fx : g.H.Host.face x ≡ g.H.Host.face b = c.holds_some.ensures.posted.face in
    let lx : (g.H.Host.face x).level ≡ (g.H.Host.face b).level = ap (λ (z : Face). z.level) fx in
    let G : ℕ → Caches g.row.R.Denot → Bool = λ k z. has_hand k (seen number_of (shown z)) in
    let e : G (g.H.Host.face x).level (g.H.Host.held x) ≡ c.holds_some.result = ap (λ k. G k (g.H.Host.held x)) lx ∙ ap (G (g.H.Host.face b).level) c.holds_some.ensures.same ∙ sym c.holds_some.ensures.answer in
    let y = c.send_hand.new.host in
    on-err c.send_hand.result (λ w. works-stopped g.R.Recorder.log g.R.Recorder.counts g.H.Host.face g.H.Host.pending g.H.Desk.stays g.H.Host.held (λ h. g.H.W.Knows.known (g.H.Desk.shared h)) 0 0 UT (λ l. Missing l) (λ l. DrainStop l i) a b y (λ l s one two p q. then-of (UT l) (Missing l) s one two p q) c.requires.stands.fine.placed c.unload_to_hand.ensures.stands.fine.placed u (posted-stopped g.R.Recorder.log g.R.Recorder.counts g.H.Host.face g.H.Host.pending g.H.Desk.stays g.H.Host.held (λ h. g.H.W.Knows.known (g.H.Desk.shared h)) g.H.Host.tests j [] (λ l. Missing l) b x y c.unload_to_hand.ensures.stands.fine.placed c.holds_some.ensures.stands.fine.placed c.holds_some.ensures.posted w)) c.send_hand.ensures.err
