-- Batches while deferred work moves units.
use Rattle.std.proofs.Common.{◌≡◌, ◌≢◌, ◌<◌, ◌-◌, ◌++◌, ℕ, suc, List, [], Some, length, drop, sym, ◌∙◌, ap, subst, arith, inl, inr}
use Rattle.std.specs.List.{All}
use Rattle.std.proofs.lemmas.List.{length-append}
use Rattle.std.proofs.lemmas.List.Elements.{All-append, All-drop}
use Rattle.std.proofs.lemmas.Bool.Decides.{eqb_tells}
use Rattle.bm_journal.specs.declared.ids.Domain.TheVariants.{Plain, Tracing}
use Rattle.bm_law.specs.State.{State, Deferred}
use Rattle.bm_law.specs.Places.{Ready as ready_list}
use Rattle.bm_cache.specs.Tokens.{Token}
use Rattle.bm_cache.specs.Tests.{Tests, Passes, Reusable, Same, Lasting, Proper}
use Rattle.bm_work_lists.specs.FromLists.{less}
use Rattle.bm_work.specs.DeskTests.{since_test}
use Rattle.bm_work.specs.Dated.{DatedRow, Dated}
use Rattle.bm_work.proofs.Points.{all-same, dated-same}

-- one class changed, and the others are as they were
pub dated-class : (l c : ℕ) (a b : Tests) (s t : State Token) → ((k : ℕ) → k ≢ c → (t.rows k).deferred ≡ (s.rows k).deferred) → ((k : ℕ) → All (Same a b) (s.rows k).deferred.first) → ((k : ℕ) → All (Same a b) (s.rows k).deferred.second) → DatedRow b (t.rows c).deferred → Dated a s → Dated b t
dated-class l c a b s t o f g h d k =
    elim (eqb_tells k c) [
      | inl y ↦ rw y.1 h
      | inr y ↦ dated-same a b (s.rows k).deferred (t.rows k).deferred (o k y.1) (f k) (g k) (d k)
    ]

at : (P : Token → Type 0) (us vs : List Token) → vs ≡ us → All P us → All P vs
at P us vs e h = let F : List Token → Type 0 = λ z. All P z in subst F (sym e) h

-- units leave Ready and Second from the top
less-row : (a b : Tests) (n : ℕ) (d e : Deferred Token) → e ≡ less n d → All (Same a b) e.first → All (Same a b) e.second → DatedRow a d → DatedRow b e
less-row a b n d e q f s h =
    let one : e.first ≡ d.first = ap (λ (x : Deferred Token). x.first) q in
    let two : e.second ≡ drop (n - length d.ready) d.second = ap (λ (x : Deferred Token). x.second) q in
    let p : e.plain ≡ d.plain = ap (λ (x : Deferred Token). x.plain) q in
    let t : e.tracing ≡ d.tracing = ap (λ (x : Deferred Token). x.tracing) q in
    record {
      plain = λ x y. all-same a b (since_test Plain (suc x)) e.first f (at (Passes a (since_test Plain (suc x))) d.first e.first one (h.plain x (sym p ∙ y)));
      tracing = λ x y. all-same a b (since_test Tracing (suc x)) e.second s (at (Passes a (since_test Tracing (suc x))) (drop (n - length d.ready) d.second) e.second two (All-drop (Passes a (since_test Tracing (suc x))) (n - length d.ready) d.second (h.tracing x (sym t ∙ y))));
      some = λ x y. rw one (h.some x (sym p ∙ y));
      settled = all-same a b 0 e.second s (at (Reusable a) (drop (n - length d.ready) d.second) e.second two (All-drop (Reusable a) (n - length d.ready) d.second h.settled));
    }

pub dated-less : (l c n : ℕ) (a b : Tests) (s t : State Token) → ((k : ℕ) → k ≢ c → (t.rows k).deferred ≡ (s.rows k).deferred) → (t.rows c).deferred ≡ less n (s.rows c).deferred → Lasting l t a b → Dated a s → Dated b t
dated-less l c n a b s t o q m d k =
    elim (eqb_tells k c) [
      | inl y ↦ rw y.1 (less-row a b n (s.rows c).deferred (t.rows c).deferred q (m.first c) (m.second c) (d c))
      | inr y ↦ (let e = o k y.1 in dated-same a b (s.rows k).deferred (t.rows k).deferred e (at (Same a b) (t.rows k).deferred.first (s.rows k).deferred.first (sym (ap (λ (x : Deferred Token). x.first) e)) (m.first k)) (at (Same a b) (t.rows k).deferred.second (s.rows k).deferred.second (sym (ap (λ (x : Deferred Token). x.second) e)) (m.second k)) (d k))
    ]

no-stamp : (x : ℕ) → Some 0 ≡ Some (suc x) → ⊥
no-stamp x e = absurd (let q : 0 ≡ suc x = some-same 0 (suc x) e in omega (arith, q))
  where
    some-same : (x y : ℕ) → Some x ≡ Some y → x ≡ y
    some-same x y e = cc

-- a plain batch begins, which has no stamp yet
gathered-row : (a b : Tests) (us : List Token) (d e : Deferred Token) → e ≡ record d { first = us ++ d.first; plain = Some 0 } → 0 < length us → All (Same a b) d.second → DatedRow a d → DatedRow b e
gathered-row a b us d e q n s h = subst (DatedRow b) (sym q) (record {
  plain = λ x y. absurd (no-stamp x y);
  tracing = λ x y. all-same a b (since_test Tracing (suc x)) d.second s (h.tracing x y);
  some = λ x y. omega (arith, n, length-append us d.first);
  settled = all-same a b 0 d.second s h.settled;
})

pub dated-gathered : (l c : ℕ) (a b : Tests) (us : List Token) (s t : State Token) → ((k : ℕ) → k ≢ c → (t.rows k).deferred ≡ (s.rows k).deferred) → (t.rows c).deferred ≡ record (s.rows c).deferred { first = us ++ (s.rows c).deferred.first; plain = Some 0 } → 0 < length us → Lasting l s a b → Dated a s → Dated b t
dated-gathered l c a b us s t o q n m d = dated-class l c a b s t o m.first m.second (gathered-row a b us (s.rows c).deferred (t.rows c).deferred q n (m.second c) (d c)) d

-- a tracing batch begins, which has no stamp yet
begun-row : (a b : Tests) (d e : Deferred Token) → e ≡ record d { ready = []; second = d.ready ++ d.second; tracing = Some 0 } → All (Same a b) d.first → All (Same a b) d.ready → All (Same a b) d.second → All (Reusable a) d.ready → DatedRow a d → DatedRow b e
begun-row a b d e q f r s u h = subst (DatedRow b) (sym q) (record {
  plain = λ x y. all-same a b (since_test Plain (suc x)) d.first f (h.plain x y);
  tracing = λ x y. absurd (no-stamp x y);
  some = h.some;
  settled = All-append (Reusable b) d.ready d.second (all-same a b 0 d.ready r u) (all-same a b 0 d.second s h.settled);
})

pub dated-begun : (l c : ℕ) (a b : Tests) (s t : State Token) → ((k : ℕ) → k ≢ c → (t.rows k).deferred ≡ (s.rows k).deferred) → (t.rows c).deferred ≡ record (s.rows c).deferred { ready = []; second = (s.rows c).deferred.ready ++ (s.rows c).deferred.second; tracing = Some 0 } → Lasting l s a b → Proper a s → Dated a s → Dated b t
dated-begun l c a b s t o q m p d = dated-class l c a b s t o m.first m.second (begun-row a b (s.rows c).deferred (t.rows c).deferred q (m.first c) (m.ready c) (m.second c) (p.lists c ready_list) (d c)) d
