-- Units that pass no test of a host stand nowhere in its caches, and units that stand nowhere are none of theirs.
use Rattle.std.proofs.Common.{◌≡◌, ◌≢◌, ◌<◌, ◌≤◌, ℕ, zero, suc, ◌+◌, Bool, true, false, List, [], ◌∷◌, length, map, slice_index_or, Option, refl, sym, ◌∙◌, subst, arith, inl, inr, eqb, cond, ne_eqb, eq-eqb}
use Rattle.std.specs.List.{All}
use Rattle.std.proofs.lemmas.List.Elements.{All-head, All-tail, All-cons, All-nil}
use Rattle.std.proofs.lemmas.Bool.Decides.{eqb_tells, leb_tells}
use Rattle.std.proofs.Math.ListN.{get_or-eq_default}
use Rattle.bm_page.specs.declared.units.Seal.{Seal}
use Rattle.bm_law.specs.State.{Row, Side, State, seen, seen_row, empty_row, idle_side}
use Rattle.bm_law.specs.Stands.{stands, times, in_row, sum_to}
use Rattle.bm_law.specs.Places.{Stack, list_at, Free, Extra, Extra_delayed, Delayed, First, Ready, Second}
use Rattle.bm_cache.specs.Tokens.{Token, number_of}
use Rattle.bm_cache.specs.Each.{Each}
use Rattle.bm_cache.specs.Tests.{Tests, Passes, Either, Same, Suits, Proper, Lasting}
use Rattle.bm_cache.specs.Shown.{shown}
use Rattle.bm_cache.specs.declared.caches.Caches.{Caches}

none-times : (n : ℕ) (us : List Token) → All (λ u. u.number ≢ n) us → times n (map number_of us) ≡ 0
none-times n [] h = refl
none-times n (u ∷ us) h =
    rw (ne_eqb n u.number (λ q. All-head (λ v. v.number ≢ n) u us h (sym q))) (omega (arith, none-times n us (All-tail (λ v. v.number ≢ n) u us h)))

both-none : (b : Bool) (m : ℕ) → cond b 1 0 + m ≡ 0 → (b ≡ false) × (m ≡ 0)
both-none true m h = absurd (omega (arith, h))
both-none false m h = (refl, omega (arith, h))

not-same : (n m : ℕ) → eqb n m ≡ false → m ≢ n
not-same n m h q = absurd (let t : eqb n m ≡ true = eq-eqb n m (sym q) in cc)

times-none : (n : ℕ) (us : List Token) → times n (map number_of us) ≡ 0 → All (λ u. u.number ≢ n) us
times-none n [] h = All-nil (λ v. v.number ≢ n)
times-none n (u ∷ us) h =
    let p = both-none (eqb n u.number) (times n (map number_of us)) h in
    All-cons (λ v. v.number ≢ n) u us (not-same n u.number p.0) (times-none n us p.1)

sum-none : (k : ℕ) (f : ℕ → ℕ) → ((c : ℕ) → f c ≡ 0) → sum_to k f ≡ 0
sum-none zero f h = refl
sum-none (suc k) f h = omega (arith, h k, sum-none k f h)

sum-each : (k : ℕ) (f : ℕ → ℕ) → sum_to k f ≡ 0 → (c : ℕ) → c < k → f c ≡ 0
sum-each zero f h c n = absurd (omega (arith, n))
sum-each (suc k) f h c n =
    elim (eqb_tells c k) [
      | inl y ↦ rw y.1 (omega (arith, h))
      | inr y ↦ sum-each k f (omega (arith, h)) c (let d : c ≢ k = y.1 in omega (arith, n, d))
    ]

-- where no unit of a state has this number, it stands nowhere
pub nowhere : (n : ℕ) (s : State Token) → Each (λ c k u. u.number ≢ n) (λ u. u.number ≢ n) s → stands n (seen number_of s) ≡ 0
unfolding stands
nowhere n s h =
    let row : (c : ℕ) → in_row n ((seen number_of s).rows c) ≡ 0 =
    λ c. omega (arith, none-times n (s.rows c).free (h.lists c Free), none-times n (s.rows c).extra (h.lists c Extra), none-times n (s.rows c).delayed (h.lists c Delayed), none-times n (s.rows c).extra_delayed (h.lists c Extra_delayed), none-times n (s.rows c).deferred.first (h.lists c First), none-times n (s.rows c).deferred.ready (h.lists c Ready), none-times n (s.rows c).deferred.second (h.lists c Second)) in
    omega (arith, sum-none 11 (λ c. in_row n ((seen number_of s).rows c)) row, sum-none 4 (λ l. times n ((seen number_of s).sides l).hand) (λ l. none-times n (s.sides l).hand (h.hands l)))

no_row : {R : Type 0} (c : Caches R) (k : ℕ) → 11 ≤ k → (shown c).rows k ≡ empty_row c.processor
unfolding shown
no_row c k h = get_or-eq_default c.rows (empty_row c.processor) (let n : length c.rows ≤ k = omega (arith, h, c.rows_whole) in n)

no_side : {R : Type 0} (c : Caches R) (l : ℕ) → 4 ≤ l → (shown c).sides l ≡ idle_side
unfolding shown
no_side c l h = get_or-eq_default c.sides.items idle_side (let n : length c.sides.items ≤ l = omega (arith, h, c.sides_whole, c.sides.ok.0) in n)

row-lists : (n : ℕ) (r : Row Token) → in_row n (seen_row number_of r) ≡ 0 → (k : Stack) → All (λ u. u.number ≢ n) (list_at k r)
row-lists n r h Free = times-none n r.free (omega (arith, h))
row-lists n r h Extra = times-none n r.extra (omega (arith, h))
row-lists n r h Extra_delayed = times-none n r.extra_delayed (omega (arith, h))
row-lists n r h Delayed = times-none n r.delayed (omega (arith, h))
row-lists n r h First = times-none n r.deferred.first (omega (arith, h))
row-lists n r h Ready = times-none n r.deferred.ready (omega (arith, h))
row-lists n r h Second = times-none n r.deferred.second (omega (arith, h))

empty-lists : (n p : ℕ) (k : Stack) → All (λ u. u.number ≢ n) (list_at k (let r : Row Token = empty_row p in r))
empty-lists n p Free = All-nil (λ u. u.number ≢ n)
empty-lists n p Extra = All-nil (λ u. u.number ≢ n)
empty-lists n p Extra_delayed = All-nil (λ u. u.number ≢ n)
empty-lists n p Delayed = All-nil (λ u. u.number ≢ n)
empty-lists n p First = All-nil (λ u. u.number ≢ n)
empty-lists n p Ready = All-nil (λ u. u.number ≢ n)
empty-lists n p Second = All-nil (λ u. u.number ≢ n)

stands-rows : (n : ℕ) (s : State ℕ) → stands n s ≡ 0 → (c : ℕ) → c < 11 → in_row n (s.rows c) ≡ 0
unfolding stands
stands-rows n s h c k = sum-each 11 (λ c. in_row n (s.rows c)) (omega (arith, h)) c k

stands-sides : (n : ℕ) (s : State ℕ) → stands n s ≡ 0 → (l : ℕ) → l < 4 → times n (s.sides l).hand ≡ 0
unfolding stands
stands-sides n s h l k = sum-each 4 (λ l. times n (s.sides l).hand) (omega (arith, h)) l k

-- and the other way round
pub none-there : {R : Type 0} (n : ℕ) (c : Caches R) → stands n (seen number_of (shown c)) ≡ 0 → Each (λ i k u. u.number ≢ n) (λ u. u.number ≢ n) (shown c)
none-there n c h = record {
  lists = λ i k. elim (leb_tells 11 i) [
    | inl y ↦ (let F : Row Token → Type 0 = λ r. All (λ u. u.number ≢ n) (list_at k r) in subst F (sym (no_row c i y.1)) (empty-lists n c.processor k))
    | inr y ↦ row-lists n ((shown c).rows i) (stands-rows n (seen number_of (shown c)) h i y.1) k
  ];
  hands = λ l. elim (leb_tells 4 l) [
    | inl y ↦ (let F : Side Token → Type 0 = λ s. All (λ u. u.number ≢ n) s.hand in subst F (sym (no_side c l y.1)) (All-nil (λ u. u.number ≢ n)))
    | inr y ↦ times-none n ((shown c).sides l).hand (stands-sides n (seen number_of (shown c)) h l y.1)
  ];
}

-- Units whose tests all fail stand nowhere.
pub failing : (n : ℕ) (t : Tests) (s : State Token) → ((k life : ℕ) (seal : Option Seal) → t k n life seal ≡ false) → Proper t s → Each (λ c k u. u.number ≢ n) (λ u. u.number ≢ n) s
failing n t s h p = record { lists = λ c k i d m. one k (slice_index_or (list_at k (s.rows c)) i d) (p.lists c k i d m); hands = λ l i d m. either (slice_index_or (s.sides l).hand i d) (p.hands l i d m) }
  where
    fails : (j : ℕ) (u : Token) → Passes t j u → u.number ≢ n
    fails j u q e = absurd (let z : t j n u.life u.seal ≡ true = rw (← e) q in let w = h j u.life u.seal in cc)

    either : (u : Token) → Either t u → u.number ≢ n
    either u (inl q) = fails 0 u q
    either u (inr q) = fails 1 u q

    one : (k : Stack) (u : Token) → Suits t k u → u.number ≢ n
    one Free u q = fails 0 u q
    one Extra u q = fails 0 u q
    one Ready u q = fails 0 u q
    one Delayed u q = fails 1 u q
    one Extra_delayed u q = fails 1 u q
    one First u q = fails 1 u q
    one Second u q = either u q

-- Tests that agree on units of other numbers: each unit stands where it suits, by both.
module _ (n : ℕ) (a b : Tests) (h : (k m life : ℕ) (seal : Option Seal) → m ≢ n → b k m life seal ≡ a k m life seal) (s : State Token) (e : Each (λ c k u. u.number ≢ n) (λ u. u.number ≢ n) s) where
  pub proper-other : Proper a s → Proper b s
  proper-other p = record { lists = λ c k i d m. one k (slice_index_or (list_at k (s.rows c)) i d) (e.lists c k i d m) (p.lists c k i d m); hands = λ l i d m. either (slice_index_or (s.sides l).hand i d) (e.hands l i d m) (p.hands l i d m) }
    where
      same : (j : ℕ) (u : Token) → u.number ≢ n → Passes a j u → Passes b j u
      same j u d q = h j u.number u.life u.seal d ∙ q

      either : (u : Token) → u.number ≢ n → Either a u → Either b u
      either u d (inl q) = inl (same 0 u d q)
      either u d (inr q) = inr (same 1 u d q)

      one : (k : Stack) (u : Token) → u.number ≢ n → Suits a k u → Suits b k u
      one Free u d q = same 0 u d q
      one Extra u d q = same 0 u d q
      one Ready u d q = same 0 u d q
      one Delayed u d q = same 1 u d q
      one Extra_delayed u d q = same 1 u d q
      one First u d q = same 1 u d q
      one Second u d q = either u d q

  pub lasting-other : (l : ℕ) → Lasting l s a b
  lasting-other l = record {
    hands = λ k m i d j. all (s.sides k).hand (e.hands k) i d j;
    first = λ c i d j. all (s.rows c).deferred.first (e.lists c First) i d j;
    ready = λ c i d j. all (s.rows c).deferred.ready (e.lists c Ready) i d j;
    second = λ c i d j. all (s.rows c).deferred.second (e.lists c Second) i d j;
  }
    where
      all : (us : List Token) → All (λ u. u.number ≢ n) us → All (Same a b) us
      all us f i d j k = h k _ _ _ (f i d j)
