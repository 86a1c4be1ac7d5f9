-- A desk after a step of its caches.
use Rattle.std.proofs.Common.{◌≡◌, ◌<◌, ◌+◌, ℕ, suc, true, false, List, [], ◌∷◌, Option, refl, sym, ◌∙◌, ap, subst, arith, inl, inr}
use Rattle.std.specs.List.{All}
use Rattle.std.proofs.lemmas.Bool.Decides.{eqb_tells}
use Rattle.bm_journal.specs.declared.counts.Counts.{Counts}
use Rattle.bm_journal.specs.declared.units.Units.{Units}
use Rattle.bm_journal.specs.declared.units.Units.TheVariants.{Whole}
use Rattle.bm_journal.specs.declared.entry.Entry.{Entry}
use Rattle.bm_journal.specs.declared.entry.Entry.TheVariants as entry
use Rattle.bm_journal.specs.Recording.{Appends}
use Rattle.bm_journal.specs.declared.ids.Domain.{Domain}
use Rattle.bm_grace.specs.Known.{Known, Sides}
use Rattle.bm_law.specs.State.{Row, State, Deferred, seen, with_row}
use Rattle.bm_law.specs.Effect.{effect}
use Rattle.bm_law.specs.Kept.{Ready}
use Rattle.bm_law.specs.Lists.{Log}
use Rattle.bm_law.proofs.Spans.{Records-one}
use Rattle.bm_law.proofs.Alone.{Alone-one}
use Rattle.bm_cache.specs.Allowed.{Lifts, Aims}
use Rattle.bm_cache.specs.Each.{Arrives}
use Rattle.bm_cache.specs.Listed.{TookUnits}
use Rattle.bm_cache.specs.Tokens.{Token, number_of}
use Rattle.bm_cache.specs.Tests.{Tests, Passes, Reusable, Suits, Either, Proper}
use Rattle.bm_cache.specs.Shown.{shown}
use Rattle.bm_cache.specs.Placed.{Placed}
use Rattle.bm_cache.specs.Span.{Face, Fine, Goes, RaisesNone}
use Rattle.bm_cache.specs.declared.caches.Caches.{Caches}
use Rattle.bm_cache.proofs.Each.{each-effect}
use Rattle.bm_cache.proofs.Flags.{raised-effect, raises}
use Rattle.bm_cache.proofs.Stretch.{ready-effect, targets-effect}
use Rattle.bm_law_work.specs.Parts.{Say}
use Rattle.bm_law_work.specs.WorkPhrases.{IsOne}
use Rattle.bm_work_lists.proofs.Grown.{grew-say}
use Rattle.bm_work_lists.proofs.Lists.{whole-appends}
use Rattle.bm_journal.specs.declared.ids.Domain.TheVariants.{Plain, Tracing}
use Rattle.bm_work.specs.Dated.{DatedRow, Dated}
use Rattle.bm_work.specs.DeskTests.{since_test}
use Rattle.bm_work.specs.Works.{Stands, Works}

-- batches while one cache, or one level, changes
pub dated-with-row : (a : Tests) (c : ℕ) (r : Row Token) (s : State Token) → DatedRow a r.deferred → Dated a s → Dated a (with_row c r s)
dated-with-row a c r s h d k =
    elim (eqb_tells k c) [
      | inl y ↦ rw y.0 h
      | inr y ↦ rw y.0 (d k)
    ]

-- a row whose batches are the same
pub dated-alike : (a : Tests) (d e : Deferred Token) → e.first ≡ d.first → e.second ≡ d.second → e.plain ≡ d.plain → e.tracing ≡ d.tracing → DatedRow a d → DatedRow a e
dated-alike a d e p q u v h = record {
  plain = λ x y. let F : List Token → Type 0 = λ z. All (Passes a (since_test Plain (suc x))) z in subst F (sym p) (h.plain x (sym u ∙ y));
  tracing = λ x y. let F : List Token → Type 0 = λ z. All (Passes a (since_test Tracing (suc x))) z in subst F (sym q) (h.tracing x (sym v ∙ y));
  some = λ x y. rw p (h.some x (sym u ∙ y));
  settled = let F : List Token → Type 0 = λ z. All (Reusable a) z in subst F (sym q) h.settled;
}

module _ {H R : Type 0} (log : R → Option Log) (counts : R → Counts) (sound : H → Type 0) (tests : H → Tests) (faces : H → Face) (holds : H → Caches R) where
  -- what a call needs, by what the lists are now
  pub stands-to : (h k : H) (z : Caches R) (t : State Token) → holds k ≡ z → tests k ≡ tests h → faces k ≡ faces h → sound k → shown z ≡ t → z.processor ≡ (holds h).processor → Placed log counts z → Ready ((faces h).level + 1) t → Proper (tests h) t → ((c : ℕ) → (t.rows c).target < (faces h).processors) → Dated (tests h) t → {was : H → Type 0} → Stands log counts was tests faces holds h → Stands log counts sound tests faces holds k
  stands-to h k z t p q f s e n d r o a b w =
      let A : State Token → Type 0 = λ x. Ready ((faces h).level + 1) x in
      let P : State Token → Type 0 = λ x. Proper (tests h) x in
      let T : State Token → Type 0 = λ x. (c : ℕ) → (x.rows c).target < (faces h).processors in
      let D : State Token → Type 0 = λ x. Dated (tests h) x in
      let N : ℕ → Type 0 = λ x. x < (faces h).processors in
      let G : Tests → Face → Caches R → Type 0 = λ x g c. Fine log counts x g.processors (g.level + 1) c in
      let S : G (tests h) (faces h) z = record {
        placed = d;
        ready = subst A (sym e) r;
        proper = subst P (sym e) o;
        aimed = record { few = w.fine.aimed.few; processor = subst N (sym n) w.fine.aimed.processor; targets = subst T (sym e) a };
      } in
      let C : Tests → Caches R → Type 0 = λ x c. Dated x (shown c) in
      record {
        sound = s;
        fine = subst (λ x. G x (faces k) (holds k)) (sym q) (subst (λ g. G (tests h) g (holds k)) (sym f) (subst (G (tests h) (faces h)) (sym p) S));
        dated = subst (λ x. C x (holds k)) (sym q) (subst (C (tests h)) (sym p) (subst D (sym e) b));
      }

  -- the same of an entry of the desk's level
  pub stands-entry : (h k : H) (z : Caches R) (e : Entry) (us : List Token) → holds k ≡ z → tests k ≡ tests h → faces k ≡ faces h → sound k → shown z ≡ effect (faces h).level e us (shown (holds h)) → z.processor ≡ (holds h).processor → Placed log counts z → Lifts (faces h).level e (shown (holds h)) → Arrives (λ c k u. Suits (tests h) k u) (Either (tests h)) (faces h).level e us (shown (holds h)) → Aims (faces h).processors (faces h).level e (shown (holds h)) → Dated (tests h) (effect (faces h).level e us (shown (holds h))) → {was : H → Type 0} → Stands log counts was tests faces holds h → Stands log counts sound tests faces holds k
  stands-entry h k z e us p q f s o n d x v a b w =
      let l = (faces h).level in
      let y = shown (holds h) in
      stands-to h k z (effect l e us y) p q f s o n d (ready-effect l e us y x w.fine.ready) (each-effect (λ c k u. Suits (tests h) k u) (Either (tests h)) l e us y v w.fine.proper) (targets-effect (faces h).processors l e us y a w.fine.aimed.targets) b w

-- an entry that raises no flag was recorded
raises-none-effect : {H R : Type 0} (waits : H → ℕ) (holds : H → Caches R) (h k : H) (l : ℕ) (e : Entry) (us : List Token) → raises e ≡ false → shown (holds k) ≡ effect l e us (shown (holds h)) → RaisesNone waits holds h k
raises-none-effect waits holds h k l e us r q = record {
  flags = λ _ i p.
      let U : State Token → Type 0 = λ s. (s.rows i).raised ≡ true in
      raised-effect l e us (shown (holds h)) r i (subst U q p);
}

module _ {H R : Type 0} (log : R → Option Log) (faces : H → Face) (waits : H → ℕ) (stays : H → H → Type 0) (holds : H → Caches R) (known : H → Known) where
  -- an entry of the desk's level was recorded
  pub works-entry : (h k : H) (e : Entry) (us : List Token) → Goes faces waits stays h k → (known k).grace ≡ (known h).grace → Appends (log (holds h).recorder) (faces h).level e (log (holds k).recorder) → (holds k).processor ≡ (holds h).processor → shown (holds k) ≡ effect (faces h).level e us (shown (holds h)) → ((c : ℕ) → ((effect (faces h).level e us (shown (holds h))).rows c).active ≡ ((shown (holds h)).rows c).active) → raises e ≡ false → Works log faces waits stays holds known 0 0 (λ l. Say l (IsOne e)) h k
  works-entry h k e us g n r q t a f =
      let l = (faces h).level in
      let x = log (holds h).recorder in
      let y = log (holds k).recorder in
      record {
        phrase = grew-say l (IsOne e) (e ∷ []) (seen number_of (shown (holds h))) x y (Records-one l e x y r) refl;
        goes = g;
        alone = record { alone = λ _. Alone-one l e x y r };
        flags = raises-none-effect waits holds h k l e us f t;
        processor = q;
        active = λ c. ap (λ (s : State Token). (s.rows c).active) t ∙ a c;
        plain_begins = omega (arith, ap (λ (s : Sides). s.plain.begins) n);
        tracing_begins = omega (arith, ap (λ (s : Sides). s.tracing.begins) n);
        same_side = ap (λ (s : Sides). s.processor) n;
      }

-- where a log is told, a step that names a list names it whole
pub appends-whole : {R : Type 0} (log : R → Option Log) (l : ℕ) (e : Units → Entry) (xs : List ℕ) (us : List Token) (y z : Caches R) → TookUnits log l e xs us y z → Appends (log y.recorder) l (e (Whole xs)) (log z.recorder)
appends-whole log l e xs us y z t = whole-appends l e t.units xs (log y.recorder) (log z.recorder) t.told t.whole t.records

pub units-at : {R : Type 0} (log : R → Option Log) (l j : ℕ) (e : Units → Entry) (xs : List ℕ) (us : List Token) (y w z : Caches R) → j ≡ l → w ≡ y → TookUnits log j e xs us w z → TookUnits log l e xs us y z
units-at {R} log l j e xs us y w z p q t = let F : ℕ → Caches R → Type 0 = λ k d. TookUnits log k e xs us d z in subst (λ k. F k y) p (subst (F j) q t)

module _ {H R : Type 0} (log : R → Option Log) (counts : R → Counts) (sound : H → Type 0) (tests : H → Tests) (faces : H → Face) (holds : H → Caches R) where
  -- an entry that moves nothing was recorded
  pub stands-noted : (h k : H) (w z : Caches R) → w ≡ holds h → holds k ≡ z → tests k ≡ tests h → faces k ≡ faces h → sound k → shown z ≡ shown w → z.processor ≡ w.processor → Placed log counts z → {was : H → Type 0} → Stands log counts was tests faces holds h → Stands log counts sound tests faces holds k
  stands-noted h k w z v p q f s e n d x = stands-to log counts sound tests faces holds h k z (shown (holds h)) p q f s (e ∙ ap (λ (c : Caches R). shown c) v) (n ∙ ap (λ (c : Caches R). c.processor) v) d x.fine.ready x.fine.proper x.fine.aimed.targets x.dated x

-- a stamp, and units that go back, change no active number
pub stamped-active : (l c : ℕ) (d : Domain) (x : ℕ) (s : State Token) (k : ℕ) → ((effect l (entry.Stamp c d x) [] s).rows k).active ≡ (s.rows k).active
stamped-active l c d x s k =
    elim (eqb_tells k c) [
      | inl y ↦ rw (y.0, y.1) refl
      | inr y ↦ rw y.0 refl
    ]

pub returned-active : (l c : ℕ) (ns : List ℕ) (s : State Token) (k : ℕ) → ((effect l (entry.Return c (Whole ns)) [] s).rows k).active ≡ (s.rows k).active
returned-active l c ns s k =
    elim (eqb_tells k c) [
      | inl y ↦ rw (y.0, y.1) refl
      | inr y ↦ rw y.0 refl
    ]
