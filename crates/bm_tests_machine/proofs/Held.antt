-- A host that holds units beside its caches, and lets one go or takes one in.
use Rattle.std.proofs.Common.{◌≡◌, ◌≢◌, ◌≤◌, ◌<◌, ℕ, ◌+◌, ◌++◌, Bool, true, false, not, ◌||◌, List, [], ◌∷◌, map, Option, refl, sym, ◌∙◌, ap, subst, arith, inl, inr, eqb, cond, ne_eqb, eq-eqb}
use Rattle.std.specs.List.{All}
use Rattle.std.proofs.lemmas.List.{map-append}
use Rattle.std.proofs.lemmas.Bool.Decides.{eqb_tells}
use Rattle.std.proofs.lemmas.List.Elements.{All-head, All-tail, All-cons, All-nil, All-append}
use Rattle.bm_page.specs.declared.units.Seal.{Seal}
use Rattle.bm_journal.specs.declared.counts.Counts.{Counts}
use Rattle.bm_law.specs.Lists.{Log}
use Rattle.bm_law.specs.Stands.{times}
use Rattle.bm_law.proofs.Stands.{times-append}
use Rattle.bm_cache.specs.Tokens.{Token, number_of}
use Rattle.bm_cache.specs.Each.{Numbered}
use Rattle.bm_cache.specs.Tests.{Tests, Reusable, Proper, Lasting}
use Rattle.bm_cache.specs.Span.{Came, Fine}
use Rattle.bm_cache.specs.Shown.{shown}
use Rattle.bm_cache.specs.declared.caches.Caches.{Caches}
use Rattle.bm_cache.proofs.Stretch.{lasting-join}
use Rattle.bm_tests_machine.specs.Holding.{holds, tests_beside, Holding}

all-front : (P : Token → Type 0) (xs ys : List Token) → All P (xs ++ ys) → All P xs
all-front P [] ys h = All-nil P
all-front P (x ∷ xs) ys h = All-cons P x xs (All-head P x (xs ++ ys) h) (all-front P xs ys (All-tail P x (xs ++ ys) h))

both-none : (b : Bool) (m : ℕ) → cond b 1 0 + m ≡ 0 → (b ≡ false) × (m ≡ 0)
both-none true m h = absurd (omega (arith, h))
both-none false m h = (refl, omega (arith, h))

-- what is held more, or less
holds-none : (n : ℕ) (us : List Token) → times n (map number_of us) ≡ 0 → holds us n ≡ false
holds-none n [] h = refl
holds-none n (u ∷ us) h =
    let p = both-none (eqb n u.number) (times n (map number_of us)) h in
    rw p.0 (holds-none n us p.1)

holds-append : (n : ℕ) (us : List Token) (u : Token) → holds (us ++ u ∷ []) n ≡ (eqb n u.number || holds us n)
holds-append n [] u = refl
holds-append n (v ∷ us) u = rw (holds-append n us u) (swap (eqb n v.number) (eqb n u.number) (holds us n))
  where
    swap : (a b c : Bool) → (a || (b || c)) ≡ (b || (a || c))
    swap true true c = refl
    swap true false c = refl
    swap false true c = refl
    swap false false c = refl

-- the last unit is held
pub tests-held : (us vs : List Token) (u : Token) → us ≡ vs ++ u ∷ [] → (k life : ℕ) (seal : Option Seal) → tests_beside us k u.number life seal ≡ false
tests-held us vs u e k life seal = rw (e, holds-append u.number vs u, eq-eqb u.number u.number refl) refl

-- units of other numbers are as they were
pub tests-other : (us vs : List Token) (u : Token) → us ≡ vs ++ u ∷ [] → (k m life : ℕ) (seal : Option Seal) → m ≢ u.number → tests_beside vs k m life seal ≡ tests_beside us k m life seal
tests-other us vs u e k m life seal d = rw (e, holds-append m vs u, ne_eqb m u.number d) refl

one-more : (a b c : ℕ) → a + b ≤ 1 → b ≡ c + 1 → a ≡ 0
one-more a b c h k = omega (arith, h, k)

-- a unit that isn't held any more passes the tests
pub tests-free : (p : ℕ) (us vs : List Token) (u : Token) → us ≡ vs ++ u ∷ [] → Holding p us → (k life : ℕ) (seal : Option Seal) → tests_beside vs k u.number life seal ≡ true
tests-free p us vs u e h k life seal =
    let t : times u.number (map number_of us) ≤ 1 = h.once u.number in
    let q : map number_of us ≡ map number_of vs ++ u.number ∷ [] = ap (map number_of) e ∙ map-append number_of vs (u ∷ []) in
    let s : times u.number (map number_of vs ++ u.number ∷ []) ≡ times u.number (map number_of vs) + times u.number (u.number ∷ []) = times-append u.number (map number_of vs) (u.number ∷ []) in
    let o : times u.number (u.number ∷ []) ≡ 0 + 1 = rw (eq-eqb u.number u.number refl) refl in
    let z : times u.number (map number_of vs) ≡ 0 = one-more _ _ 0 (let w : times u.number (map number_of vs) + times u.number (u.number ∷ []) ≤ 1 = omega (arith, ap (times u.number) q, s, t) in w) o in
    rw (holds-none u.number vs z) refl

-- the rest is held as before
pub holding-rest : (p : ℕ) (us vs : List Token) (u : Token) → us ≡ vs ++ u ∷ [] → Holding p us → Holding p vs
holding-rest p us vs u e h = record {
  numbered = front Numbered h.numbered;
  homes = front (λ u. u.home < p) h.homes;
  once = λ k. (let q : map number_of us ≡ map number_of vs ++ u.number ∷ [] = ap (map number_of) e ∙ map-append number_of vs (u ∷ []) in omega (arith, h.once k, ap (times k) q, times-append k (map number_of vs) (u.number ∷ [])));
}
  where
    front : (P : Token → Type 0) → All P us → All P vs
    front P f = all-front P vs (u ∷ []) (let F : List Token → Type 0 = λ z. All P z in subst F e f)

-- calls after which the tests of one unit, which stands nowhere, had changed before they began
pub came-other : {R : Type 0} (log : R → Option Log) (l j : ℕ) (a b d : Tests) (x y : Caches R) → l ≡ j → Lasting j (shown x) a b → Came log l b d x y → Came log j a d x y
came-other {R} log l j a b d x y q h s =
    let F : ℕ → Type 0 = λ n. Came log n b d x y in
    let t : Came log j b d x y = subst F q s in
    record { kept = t.kept; above = t.above; lasting = lasting-join j (shown x) (shown x) a b d (λ k n. refl) (λ c. refl) h t.lasting; processor = t.processor }

-- the tests change for one unit that stands nowhere
pub fine-other : {R : Type 0} (log : R → Option Log) (counts : R → Counts) (p l j : ℕ) (a b : Tests) (x : Caches R) → l ≡ j → (Proper a (shown x) → Proper b (shown x)) → Fine log counts a p j x → Fine log counts b p l x
fine-other {R} log counts p l j a b x q f h =
    let F : ℕ → Type 0 = λ n. Fine log counts b p n x in
    subst F (sym q) (let t : Fine log counts b p j x = record { placed = h.placed; ready = h.ready; proper = f h.proper; aimed = h.aimed } in t)

-- one unit more is held
not-held : (n : ℕ) (us : List Token) → holds us n ≡ false → times n (map number_of us) ≡ 0
not-held n [] h = refl
not-held n (u ∷ us) h =
    let p = neither (eqb n u.number) (holds us n) h in
    rw p.0 (omega (arith, not-held n us p.1))
  where
    neither : (a b : Bool) → (a || b) ≡ false → (a ≡ false) × (b ≡ false)
    neither true b h = absurd (cc)
    neither false b h = (refl, h)

pub tests-more : (us vs : List Token) (u : Token) → vs ≡ us ++ u ∷ [] → (k m life : ℕ) (seal : Option Seal) → m ≢ u.number → tests_beside vs k m life seal ≡ tests_beside us k m life seal
tests-more us vs u e k m life seal d = sym (tests-other vs us u e k m life seal d)

pub holding-more : (p : ℕ) (us vs : List Token) (u : Token) → vs ≡ us ++ u ∷ [] → Holding p us → Numbered u → u.home < p → Reusable (tests_beside us) u → Holding p vs
holding-more p us vs u e h n o r =
    let f : holds us u.number ≡ false = off (holds us u.number) r in
    let z : times u.number (map number_of us) ≡ 0 = not-held u.number us f in
    let q : map number_of vs ≡ map number_of us ++ u.number ∷ [] = ap (map number_of) e ∙ map-append number_of us (u ∷ []) in
    record {
      numbered = (let F : List Token → Type 0 = λ x. All Numbered x in subst F (sym e) (All-append Numbered us (u ∷ []) h.numbered (All-cons Numbered u [] n (All-nil Numbered))));
      homes = (let F : List Token → Type 0 = λ x. All (λ v. v.home < p) x in subst F (sym e) (All-append (λ v. v.home < p) us (u ∷ []) h.homes (All-cons (λ v. v.home < p) u [] o (All-nil (λ v. v.home < p)))));
      once = λ k. omega (arith, ap (times k) q, times-append k (map number_of us) (u.number ∷ []), single k z (h.once k));
    }
  where
    off : (b : Bool) → not b ≡ true → b ≡ false
    off true h = absurd (cc)
    off false h = refl

    single : (k : ℕ) → times u.number (map number_of us) ≡ 0 → times k (map number_of us) ≤ 1 → times k (map number_of us) + times k (u.number ∷ []) ≤ 1
    single k z m =
        elim (eqb_tells k u.number) [
          | inl y ↦ rw (y.0, y.1, z) (omega arith)
          | inr y ↦ rw y.0 (omega (arith, m))
        ]
