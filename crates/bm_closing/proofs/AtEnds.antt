-- A desk whose processor has ended, while its side is called and its caches note entries.
use Rattle.std.proofs.Common.{◌≡◌, ◌+◌, ◌%◌, ◌<◌, ◌≤◌, ◌≢◌, ◌⊎◌, ℕ, zero, suc, true, false, List, [], Option, Result, Ok, Err, OnOk, refl, sym, ◌∙◌, ap, subst, arith, inl, inr}
use Rattle.std.specs.Result.{is_err}
use Rattle.bm_journal.specs.declared.counts.Counts.{Counts}
use Rattle.bm_journal.specs.declared.ids.Domain.{Domain}
use Rattle.bm_journal.specs.declared.ids.Domain.TheVariants.{Plain, Tracing}
use Rattle.bm_page.specs.declared.units.Seal.{Seal}
use Rattle.bm_grace.specs.Known.{Known, Sides, side}
use Rattle.bm_grace.specs.Rights.{Rights, Ages}
use Rattle.bm_law.specs.Kept.{Ready}
use Rattle.bm_law.specs.Lists.{Log}
use Rattle.bm_law.specs.Stands.{Once, stands, times}
use Rattle.bm_law.specs.State.{State, seen}
use Rattle.bm_post.specs.Rights.{AreSame}
use Rattle.bm_post.proofs.Counts.{zero-or-more}
use Rattle.bm_cache.specs.Tokens.{Token, number_of}
use Rattle.bm_cache.proofs.Absent.{failing, nowhere}
use Rattle.bm_cache.specs.Placed.{Placed}
use Rattle.bm_cache.specs.Shown.{shown}
use Rattle.bm_cache.specs.Span.{Face, Fine}
use Rattle.bm_cache.specs.Tests.{Tests, Proper}
use Rattle.bm_cache.specs.declared.caches.Caches.{Caches}
use Rattle.bm_work.specs.DeskTests.{tests_by}
use Rattle.bm_work.specs.Goes.{Alike}
use Rattle.bm_work.specs.Onward.{Onward}
use Rattle.bm_work.proofs.Onward.{fine-on}
use Rattle.bm_work.proofs.Sides.{onward-same}
use Rattle.bm_work.proofs.Tests.{ages-onward}
use Rattle.bm_closing.specs.AtEnd.{AtEnd, ended_at}

-- a period that the side had in progress has ended
pub odd-ended : (k n : ℕ) → k % 2 ≡ 1 → ended_at k n ≡ n + 1
odd-ended zero n e = absurd (omega (arith, e))
odd-ended (suc k) n e = refl

-- the number is even then if it was before, or if the period was the side's, which has none in progress where the number is even
pub even-ended : (k n : ℕ) → (n % 2 ≡ 0 → k ≡ 0) → (n % 2 ≡ 0) ⊎ (k ≢ 0) → ended_at k n % 2 ≡ 0
even-ended zero n idle (inl even) = even
even-ended zero n idle (inr some) = absurd (some refl)
even-ended (suc k) n idle h = elim (zero-or-more (n % 2)) [
  | inl even ↦ absurd (let none = idle even in omega (arith, none))
  | inr odd ↦ omega (arith, odd)
]

module _ {H R : Type 0} (log : R → Option Log) (counts : R → Counts) (sound : H → Type 0) (tests : H → Tests) (faces : H → Face) (holds : H → Caches R) where
  -- the caches are as they were, and tests go on
  pub at-end-on : (h k : H) → holds k ≡ holds h → faces k ≡ faces h → sound k → Onward [] (tests h) (tests k) → AtEnd log counts sound tests faces holds h → AtEnd log counts sound tests faces holds k
  at-end-on h k p q f o s =
      let F : ℕ → Caches R → Type 0 = λ n c. Fine log counts (tests k) n 0 c in
      let a : F (faces h).processors (holds h) = fine-on log counts (tests h) (tests k) (faces h).processors 0 (holds h) o s.fine in
      let b : F (faces h).processors (holds k) = subst (F (faces h).processors) (sym p) a in
      record {
        sound = f;
        ordinary = ap (λ (z : Face). z.level) q ∙ s.ordinary;
        fine = subst (λ n. F n (holds k)) (sym (ap (λ (z : Face). z.processors) q)) b;
      }

  -- the caches were asked, and nothing has changed
  pub at-end-still : (h k : H) → holds k ≡ holds h → faces k ≡ faces h → tests k ≡ tests h → sound k → AtEnd log counts sound tests faces holds h → AtEnd log counts sound tests faces holds k
  at-end-still h k p q t f s = at-end-on h k p q f (onward-same (tests h) (tests k) t) s

  -- an entry that moves nothing was noted
  pub at-end-noted : (h k : H) (z : Caches R) → holds k ≡ z → faces k ≡ faces h → tests k ≡ tests h → sound k → shown z ≡ shown (holds h) → z.processor ≡ (holds h).processor → Placed log counts z → AtEnd log counts sound tests faces holds h → AtEnd log counts sound tests faces holds k
  at-end-noted h k z p q t f e n d s =
      let F : Tests → ℕ → Caches R → Type 0 = λ x m c. Fine log counts x m 0 c in
      let P : ℕ → Type 0 = λ x. x < (faces h).processors in
      let a : F (tests h) (faces h).processors z = record {
        placed = d;
        ready = subst (Ready 0) (sym e) s.fine.ready;
        proper = subst (Proper (tests h)) (sym e) s.fine.proper;
        aimed = record { few = s.fine.aimed.few; processor = subst P (sym n) s.fine.aimed.processor; targets = λ c. rw e (s.fine.aimed.targets c) };
      } in
      record {
        sound = f;
        ordinary = ap (λ (y : Face). y.level) q ∙ s.ordinary;
        fine = subst (λ x. F x (faces k).processors (holds k)) (sym t) (subst (λ m. F (tests h) m (holds k)) (sym (ap (λ (y : Face). y.processors) q)) (subst (F (tests h) (faces h).processors) (sym p) a));
      }

  -- a call on grace periods was made
  pub at-end-called : {W : Type 0} (shared : H → W) (with_shared : H → W → H) (known : W → Known) (rights : W → Rights) →
      ((h : H) (w : W) → shared (with_shared h w) ≡ w) → ((h : H) (w : W) → holds (with_shared h w) ≡ holds h) → ((h : H) (w : W) → Alike (known (shared h)) (known w) → faces (with_shared h w) ≡ faces h) → ((h : H) (w : W) → Alike (known (shared h)) (known w) → sound h → sound (with_shared h w)) → ((h : H) → tests h ≡ tests_by (rights (shared h))) →
      (h : H) (v w : W) → v ≡ shared h → Alike (known v) (known w) → Ages (rights v) (rights w) → AtEnd log counts sound tests faces holds h → AtEnd log counts sound tests faces holds (with_shared h w)
  at-end-called {W} shared with_shared known rights back apart face_apart sound_apart are h v w e a g s =
      let k = with_shared h w in
      let A : W → Type 0 = λ x. Alike (known x) (known w) in
      let y : Alike (known (shared h)) (known w) = subst A e a in
      let B : W → W → Type 0 = λ x z. Ages (rights x) (rights z) in
      let r : Ages (rights (shared h)) (rights (shared k)) = subst (B (shared h)) (sym (back h w)) (subst (λ x. B x w) e g) in
      let o : Onward [] (tests h) (tests k) = subst (λ t. Onward [] t (tests k)) (sym (are h)) (subst (λ t. Onward [] (tests_by (rights (shared h))) t) (sym (are k)) (ages-onward (rights (shared h)) (rights (shared k)) [] r)) in
      at-end-on h k (apart h w) (face_apart h w y) (sound_apart h w y s.sound) o s

-- a side is alike where what it knows is told by an equation, and where its side of a desk is
pub alike-told : (a b k : Known) → b ≡ k → Alike a k → Alike a b
alike-told a b k e h = let F : Known → Type 0 = λ x. Alike a x in subst F (sym e) h

pub alike-moved : {W : Type 0} (known : W → Known) (a v w x : W) → v ≡ a → x ≡ w → Alike (known v) (known w) → Alike (known a) (known x)
alike-moved {W} known a v w x p q h =
    let F : W → W → Type 0 = λ y z. Alike (known y) (known z) in
    subst (F a) (sym q) (subst (λ y. F y w) p h)

-- the same of which units are mine
pub same-moved : {W : Type 0} (rights : W → Rights) (a v w x : W) → v ≡ a → x ≡ w → AreSame (rights v) (rights w) → AreSame (rights a) (rights x)
same-moved {W} rights a v w x p q h =
    let F : W → W → Type 0 = λ y z. AreSame (rights y) (rights z) in
    subst (F a) (sym q) (subst (λ y. F y w) p h)

-- what is known of grace periods and of objects is as it was
pub alike-graces : (a b : Known) → b.grace ≡ a.grace → b.objects ≡ a.objects → Alike a b
alike-graces a b e o = record {
  processors = ap (λ (s : Sides). s.processors) e;
  processor = ap (λ (s : Sides). s.processor) e;
  words = λ d. words d;
  objects = o;
}
  where
    words : (d : Domain) → (side d b).word ≡ (side d a).word
    words Plain = ap (λ (s : Sides). s.plain.word) e
    words Tracing = ap (λ (s : Sides). s.tracing.word) e

-- what isn't mine passes no test
no-test : (r : Rights) (n : ℕ) → r.mine n ≡ false → (k life : ℕ) (seal : Option Seal) → tests_by r k n life seal ≡ false
no-test r n h zero life seal = rw h refl
no-test r n h (suc zero) life seal = rw h refl
no-test r n h (suc (suc k)) life seal = rw h refl

-- units that weren't mine stand nowhere in the caches
pub came-apart : (r : Rights) (come : List ℕ) (s : State Token) → Once (seen number_of s) → Proper (tests_by r) s → ((n : ℕ) → times n come ≤ 1) → ((n : ℕ) → 0 < times n come → r.mine n ≡ false) → (n : ℕ) → stands n (seen number_of s) + times n come ≤ 1
came-apart r come s o p once fresh n = pick (times n come) refl
  where
    pick : (k : ℕ) → times n come ≡ k → stands n (seen number_of s) + times n come ≤ 1
    pick zero e = let a = o n in omega (arith, e, a)
    pick (suc k) e =
        let z : stands n (seen number_of s) ≡ 0 = nowhere n s (failing n (tests_by r) s (no-test r n (fresh n (omega (arith, e)))) p) in
        let a = once n in
        omega (arith, z, a)

-- what an answer tells where it is no error
pub when-ok : {X E : Type 0} (r : Result X E) (A : Type 0) → false ≡ is_err r → OnOk r A → A
when-ok (Ok x) A e a = a
when-ok (Err x) A e a = absurd (clash e)
  where
    clash : false ≡ true → ⊥
    clash q = cc

pub with-ok : {X E : Type 0} (r : Result X E) (A : Type 0) → (false ≡ is_err r → A) → OnOk r A
with-ok (Ok x) A f = f refl
with-ok (Err e) A f = tt
