-- Stretches of deferred work: of plain steps alone, of one that moves a unit, and how they join.
use Rattle.std.proofs.Common.{◌≡◌, ◌<◌, ℕ, ◌+◌, ◌-◌, ◌++◌, true, List, [], ◌∷◌, drop, length, Option, refl, sym, ◌∙◌, ap, subst, arith, inl, inr, eq-eqb}
use Rattle.std.specs.List.{All}
use Rattle.std.proofs.lemmas.List.Elements.{All-drop}
use Rattle.std.proofs.lemmas.Bool.Decides.{eqb_tells}
use Rattle.bm_journal.specs.declared.entry.Entry.{Entry}
use Rattle.bm_journal.specs.declared.entry.Entry.TheVariants as entry
use Rattle.bm_law.specs.declared.mark.Mark.TheVariants as mark
use Rattle.bm_law.specs.State.{Row, Side, State, Deferred}
use Rattle.bm_law.specs.Effect.{effect}
use Rattle.bm_law.specs.Lists.{Log}
use Rattle.bm_law.specs.Kept.{Between, Kept, Inside}
use Rattle.bm_law.specs.Plain.{all_plain}
use Rattle.bm_law.proofs.Between as between
use Rattle.bm_law.proofs.Spans as spans
use Rattle.bm_cache.specs.Tokens.{Token}
use Rattle.bm_cache.specs.Tests.{Tests, Same, Reusable, Lasting}
use Rattle.bm_cache.specs.Shown.{shown, Took}
use Rattle.bm_cache.specs.Span.{Came, Span}
use Rattle.bm_cache.specs.declared.caches.Caches.{Caches}
use Rattle.bm_cache.proofs.Moments.{took-at}
use Rattle.bm_cache.proofs.Stretch.{walk-still, walk-join, lasting-below, lasting-join}
use Rattle.bm_work_lists.specs.Fit.{More}
use Rattle.bm_work_lists.specs.FromLists.{less}
use Rattle.bm_work_lists.specs.WorkSpan.{WorkSpan}
use Rattle.bm_work_lists.proofs.Fits.{all-back}

-- active numbers over a whole stretch
pub between-active : (l c : ℕ) (s t : State Token) → Between l c 0 0 s t → (k : ℕ) → (t.rows k).active ≡ (s.rows k).active
between-active l c s t b k =
    elim (eqb_tells k c) [
      | inl y ↦ rw y.1 (omega (arith, b.active))
      | inr y ↦ (b.others k y.1).active
    ]

pub span-active : {R : Type 0} (log : R → Option Log) (l c : ℕ) (own : List Entry) (a b : Tests) (x z : Caches R) → Span log l c 0 0 own a b x z → (k : ℕ) → ((shown z).rows k).active ≡ ((shown x).rows k).active
span-active log l c own a b x z s = between-active l c (shown x) (shown z) s.between

-- plain steps leave what deferred work alone writes
pub span-still : {R : Type 0} (log : R → Option Log) (l c : ℕ) (own : List Entry) (a b : Tests) (x z : Caches R) → Span log l c 0 0 own a b x z → all_plain own ≡ true → (k : ℕ) → ((shown z).rows k).deferred ≡ ((shown x).rows k).deferred
span-still log l c own a b x z s p = walk-still l own (shown x) (shown z) s.walk p

-- Units leave Ready and Second from the top, and nothing else changes.
pub record Less (d e : Deferred Token) : Type 0 where
  pub first : e.first ≡ d.first
  pub gone : ℕ
  pub ready : e.ready ≡ drop gone d.ready
  pub gone_second : ℕ
  pub second : e.second ≡ drop gone_second d.second

pub less-same : (d e : Deferred Token) → e ≡ d → Less d e
less-same d e q = record { first = ap (λ x. x.first) q; gone = 0; ready = ap (λ x. x.ready) q; gone_second = 0; second = ap (λ x. x.second) q }

-- tests of what stands in a list now, by what stood there
same-less : (a b : Tests) (us vs : List Token) (n : ℕ) → vs ≡ drop n us → All (Same a b) us → All (Same a b) vs
same-less a b us vs n e h = let F : List Token → Type 0 = λ z. All (Same a b) z in subst F (sym e) (All-drop (Same a b) n us h)

same-at : (a b : Tests) (us vs : List Token) → vs ≡ us → All (Same a b) us → All (Same a b) vs
same-at a b us vs e h = let F : List Token → Type 0 = λ z. All (Same a b) z in subst F (sym e) h

same-join : (a b d : Tests) (us : List Token) → All (Same a b) us → All (Same b d) us → All (Same a d) us
same-join a b d us h k i e n j = k i e n j ∙ h i e n j

pub lasting-less : (l : ℕ) (s t : State Token) (a b : Tests) → ((k : ℕ) → k < l → t.sides k ≡ s.sides k) → ((k : ℕ) → Less (s.rows k).deferred (t.rows k).deferred) → Lasting l s a b → Lasting l t a b
lasting-less l s t a b h d m = record {
  hands = λ k n. same-at a b (s.sides k).hand (t.sides k).hand (ap (λ (x : Side Token). x.hand) (h k n)) (m.hands k n);
  first = λ k. same-at a b (s.rows k).deferred.first (t.rows k).deferred.first (d k).first (m.first k);
  ready = λ k. same-less a b (s.rows k).deferred.ready (t.rows k).deferred.ready (d k).gone (d k).ready (m.ready k);
  second = λ k. same-less a b (s.rows k).deferred.second (t.rows k).deferred.second (d k).gone_second (d k).second (m.second k);
}

-- tests over two stretches, of what stands in the lists at the end
pub lasting-ends : (l : ℕ) (s : State Token) (a b d : Tests) → Lasting l s a b → Lasting l s b d → Lasting l s a d
lasting-ends l s a b d x y = record {
  hands = λ k n. same-join a b d (s.sides k).hand (x.hands k n) (y.hands k n);
  first = λ k. same-join a b d (s.rows k).deferred.first (x.first k) (y.first k);
  ready = λ k. same-join a b d (s.rows k).deferred.ready (x.ready k) (y.ready k);
  second = λ k. same-join a b d (s.rows k).deferred.second (x.second k) (y.second k);
}

-- what is left may be used again as it might before
pub settled-less : (a b : Tests) (us vs : List Token) (n : ℕ) → vs ≡ drop n us → All (Same a b) vs → All (Reusable a) us → All (Reusable b) vs
settled-less a b us vs n e h r =
    let F : List Token → Type 0 = λ z. All (Reusable a) z in
    let q : All (Reusable a) vs = subst F (sym e) (All-drop (Reusable a) n us r) in
    λ i u k. h i u k 0 ∙ q i u k

-- the class of the work as well as the others
less-each : (l c : ℕ) (s t : State Token) → Between l c 0 0 s t → Less (s.rows c).deferred (t.rows c).deferred → (k : ℕ) → Less (s.rows k).deferred (t.rows k).deferred
less-each l c s t b d k =
    elim (eqb_tells k c) [
      | inl y ↦ rw y.1 d
      | inr y ↦ less-same (s.rows k).deferred (t.rows k).deferred (b.others k y.1).deferred
    ]

module _ {R : Type 0} (log : R → Option Log) (l c : ℕ) where
  -- plain steps
  pub work-plain : (own : List Entry) (a b : Tests) (x z : Caches R) → all_plain own ≡ true → Span log l c 0 0 own a b x z → WorkSpan log l c own a b x z
  work-plain own a b x z p s = record {
    between = s.between;
    walk = s.walk;
    records = s.records;
    lasting = lasting-less l (shown x) (shown z) a b s.between.sides (λ k. less-same ((shown x).rows k).deferred ((shown z).rows k).deferred (span-still log l c own a b x z s p k)) s.lasting;
    processor = s.processor;
  }

  -- handlers alone
  pub work-none : (a b : Tests) (x z : Caches R) → Came log (l + 1) a b x z → WorkSpan log l c [] a b x z
  work-none a b x z h = record {
    between = between.Between-point l c 0 (shown x) (shown z) h.kept;
    walk = h.kept;
    records = spans.Records-points l (log x.recorder) (log z.recorder) h.above;
    lasting = lasting-less l (shown x) (shown z) a b (λ k n. h.kept.sides k (omega (arith, n))) (λ k. less-same ((shown x).rows k).deferred ((shown z).rows k).deferred (h.kept.rows k).deferred) (lasting-below l (shown x) a b h.lasting);
    processor = h.processor;
  }

  -- two stretches, of which the second one takes units from Ready and Second
  pub work-join : (v w : List Entry) (a b d : Tests) (x y z : Caches R) → Less ((shown y).rows c).deferred ((shown z).rows c).deferred → WorkSpan log l c v a b x y → WorkSpan log l c w b d y z → WorkSpan log l c (v ++ w) a d x z
  work-join v w a b d x y z e s t = record {
    between = between.Between-join l c 0 0 0 (shown x) (shown y) (shown z) s.between t.between;
    walk = walk-join l v w (shown x) (shown y) (shown z) s.walk t.walk;
    records = spans.Records-join l v w (log x.recorder) (log y.recorder) (log z.recorder) s.records t.records;
    lasting = lasting-ends l (shown z) a b d (lasting-less l (shown y) (shown z) a b t.between.sides (less-each l c (shown y) (shown z) t.between e) s.lasting) t.lasting;
    processor = t.processor ∙ s.processor;
  }

  -- one step, right after it
  pub work-one : (e : Entry) (a : Tests) (y z : Caches R) → Took log l e [] y z → Between l c 0 0 (shown y) (effect l e [] (shown y)) → Less ((shown y).rows c).deferred ((effect l e [] (shown y)).rows c).deferred → Lasting l (shown y) a a → WorkSpan log l c (e ∷ []) a a y z
  work-one e a y z u i d m =
      let B : State Token → Type 0 = λ t. Between l c 0 0 (shown y) t in
      let K : State Token → Type 0 = λ t. Kept (l + 1) (effect l e [] (shown y)) t in
      let D : State Token → Type 0 = λ t. Less ((shown y).rows c).deferred (t.rows c).deferred in
      let b : Between l c 0 0 (shown y) (shown z) = subst B (sym u.after) i in
      record {
        between = b;
        walk = (shown y, between.Kept-refl (l + 1) (shown y), u.names, u.brings, subst K (sym u.after) (between.Kept-refl (l + 1) (effect l e [] (shown y))));
        records = spans.Records-one l e (log y.recorder) (log z.recorder) u.records;
        lasting = lasting-less l (shown y) (shown z) a a b.sides (less-each l c (shown y) (shown z) b (subst D (sym u.after) d)) m;
        processor = u.processor;
      }

  -- a point, and then a step
  pub work-step : (j : ℕ) (e : Entry) (a b b' : Tests) (x y w z z' : Caches R) → j ≡ l → w ≡ y → z' ≡ z → b' ≡ b → Came log (l + 1) a b x y → Took log j e [] w z → Between l c 0 0 (shown y) (effect l e [] (shown y)) → Less ((shown y).rows c).deferred ((effect l e [] (shown y)).rows c).deferred → WorkSpan log l c (e ∷ []) a b' x z'
  work-step j e a b b' x y w z z' p q o r h t i d =
      let u : Took log l e [] y z = took-at log l j e [] y w z p q t in
      let none : Lasting l (shown y) b b = record { hands = λ k n i e m j. refl; first = λ k i e m j. refl; ready = λ k i e m j. refl; second = λ k i e m j. refl } in
      let D : State Token → Type 0 = λ t. Less ((shown y).rows c).deferred (t.rows c).deferred in
      let s : WorkSpan log l c (e ∷ []) a b x z = work-join [] (e ∷ []) a b b x y z (subst D (sym u.after) d) (work-none a b x y h) (work-one e b y z u i d none) in
      let G : Tests → Caches R → Type 0 = λ f c'. WorkSpan log l c (e ∷ []) a f x c' in
      subst (λ f. G f z') (sym r) (subst (G b) (sym o) s)

  -- by other names of its level
  pub work-at : (j : ℕ) (own : List Entry) (a b : Tests) (x z : Caches R) → j ≡ l → WorkSpan log j c own a b x z → WorkSpan log l c own a b x z
  work-at j own a b x z p s = let F : ℕ → Type 0 = λ k. WorkSpan log k c own a b x z in subst F p s

module _ (l c : ℕ) (s : State Token) where
  inside-same : (r : Row Token) → r.free ≡ (s.rows c).free → r.count ≡ (s.rows c).count → r.delayed ≡ (s.rows c).delayed → r.extra ≡ (s.rows c).extra → r.extra_delayed ≡ (s.rows c).extra_delayed → Inside (s.rows c) r
  inside-same r a b d e f = record { free = a; count = b; delayed = d; more = []; extra = e; more_delayed = []; extra_delayed = f }

  pub between-ready : (u : ℕ) → Between l c 0 0 s (effect l (entry.Ready c u) [] s)
  between-ready u = between.Between-step l c 0 0 _ _ s refl (λ _. inside-same _ refl refl refl refl refl)

  pub between-second : (u : ℕ) → Between l c 0 0 s (effect l (entry.Second c u) [] s)
  between-second u = between.Between-step l c 0 0 _ _ s refl (λ _. inside-same _ refl refl refl refl refl)

  pub less-ready : (u : ℕ) → Less (s.rows c).deferred ((effect l (entry.Ready c u) [] s).rows c).deferred
  less-ready u = rw (eq-eqb c c refl) (let d : Less (s.rows c).deferred (record (s.rows c).deferred { ready = drop 1 (s.rows c).deferred.ready }) = record { first = refl; gone = 1; ready = refl; gone_second = 0; second = refl } in d)

  pub less-second : (u : ℕ) → Less (s.rows c).deferred ((effect l (entry.Second c u) [] s).rows c).deferred
  less-second u = rw (eq-eqb c c refl) (let d : Less (s.rows c).deferred (record (s.rows c).deferred { second = drop 1 (s.rows c).deferred.second }) = record { first = refl; gone = 0; ready = refl; gone_second = 1; second = refl } in d)

  -- what is left of the lists, and the hand
  pub deferred-ready : (n : ℕ) (u : Token) (rest : List Token) → (s.rows c).deferred.ready ≡ u ∷ rest → ((effect l (entry.Ready c n) [] s).rows c).deferred ≡ record (s.rows c).deferred { ready = rest }
  deferred-ready n u rest h = rw (eq-eqb c c refl, h) refl

  pub deferred-second : (n : ℕ) (u : Token) (rest : List Token) → (s.rows c).deferred.second ≡ u ∷ rest → ((effect l (entry.Second c n) [] s).rows c).deferred ≡ record (s.rows c).deferred { second = rest }
  deferred-second n u rest h = rw (eq-eqb c c refl, h) refl

  pub side-ready : (n : ℕ) (u : Token) (rest : List Token) → (s.sides l).hand ≡ [] → (s.rows c).deferred.ready ≡ u ∷ rest → (effect l (entry.Ready c n) [] s).sides l ≡ record { hand = u ∷ []; mark = mark.Quiet }
  side-ready n u rest e h = rw (eq-eqb l l refl, e, h) refl

  pub side-second : (n : ℕ) (u : Token) (rest : List Token) → (s.sides l).hand ≡ [] → (s.rows c).deferred.second ≡ u ∷ rest → (effect l (entry.Second c n) [] s).sides l ≡ record { hand = u ∷ []; mark = mark.Quiet }
  side-second n u rest e h = rw (eq-eqb l l refl, e, h) refl

-- handlers came twice
pub came-join : {R : Type 0} (log : R → Option Log) (l : ℕ) (a b d : Tests) (x y z : Caches R) → Came log l a b x y → Came log l b d y z → Came log l a d x z
came-join log l a b d x y z s t = record {
  kept = between.Kept-join l (shown x) (shown y) (shown z) s.kept t.kept;
  above = spans.Above-join l (log x.recorder) (log y.recorder) (log z.recorder) s.above t.above;
  lasting = lasting-join l (shown x) (shown y) a b d s.kept.sides (λ c. (s.kept.rows c).deferred) s.lasting t.lasting;
  processor = t.processor ∙ s.processor;
}

-- the top of one of the two lists is gone
pub less-of-second : (d e : Deferred Token) (u : Token) (rest : List Token) → d.second ≡ u ∷ rest → e ≡ record d { second = rest } → Less d e
less-of-second d e u rest h q = record { first = ap (λ x. x.first) q; gone = 0; ready = ap (λ x. x.ready) q; gone_second = 1; second = ap (λ x. x.second) q ∙ ap (λ (us : List Token). drop 1 us) (sym h) }

pub less-of : (n : ℕ) (d e : Deferred Token) → e ≡ less n d → Less d e
less-of n d e q = record { first = ap (λ x. x.first) q; gone = n; ready = ap (λ x. x.ready) q; gone_second = n - length d.ready; second = ap (λ x. x.second) q }

-- tests of what stood in the lists, by what stands there
pub lasting-more : (l : ℕ) (s t : State Token) (a b : Tests) → ((k : ℕ) → k < l → t.sides k ≡ s.sides k) → ((k : ℕ) → More (s.rows k).deferred (t.rows k).deferred) → Lasting l t a b → Lasting l s a b
lasting-more l s t a b h d m = record {
  hands = λ k n. same-at a b (t.sides k).hand (s.sides k).hand (sym (ap (λ (x : Side Token). x.hand) (h k n))) (m.hands k n);
  first = λ k. all-back (Same a b) (d k).more (s.rows k).deferred.first (let F : List Token → Type 0 = λ z. All (Same a b) z in subst F (d k).first (m.first k));
  ready = λ k. same-at a b (t.rows k).deferred.ready (s.rows k).deferred.ready (sym (d k).ready) (m.ready k);
  second = λ k. same-at a b (t.rows k).deferred.second (s.rows k).deferred.second (sym (d k).second) (m.second k);
}
