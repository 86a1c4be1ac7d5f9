-- The pool once units are back.
use Rattle.std.proofs.Common.{◌≡◌, ◌≢◌, ℕ, zero, suc, ◌<◌, ◌≤◌, true, false, List, [], ◌∷◌, ◌++◌, length, get_or, set, length-set, reverse, refl, ◌∙◌, ap, subst, inl, inr, arith, eqb, eq-eqb, ne_eqb}
use Rattle.std.specs.List.{All}
use Rattle.std.proofs.lemmas.Bool.{cases_eq, cases_lt}
use Rattle.std.proofs.lemmas.List.{reverse-append, get_or_past}
use Rattle.bm_law.specs.Stands.{times}
use Rattle.bm_page.specs.UnitState.{UnitState, stocked_of}
use Rattle.bm_page.specs.declared.units.Stocked.{Stocked}
use Rattle.bm_page.specs.Stock.{Stock, stocked_at, unborn, returned}
use Rattle.bm_page.proofs.StockLemmas.{stocked_at-same, stocked_at-other}
use Rattle.bm_post.specs.Rights.{numbers}
use Rattle.bm_post.specs.PostState.{all_returned}
use Rattle.bm_post.proofs.Counts.{times-last, here-times}

returned-other : (u : UnitState) (pool : Stock) (n : ℕ) → n ≢ u.number → stocked_at (returned u pool).units n ≡ stocked_at pool.units n
unfolding returned
returned-other u pool n ne = stocked_at-other pool.units u.number n _ ne

returned-here : (u : UnitState) (pool : Stock) → (stocked_at (returned u pool).units u.number).out ≡ false
unfolding returned
returned-here u pool =
    elim (cases_lt u.number (length pool.units)) [
      | inl less ↦ ap (λ (s : Stocked). s.out) (stocked_at-same pool.units u.number (stocked_of u) less)
      | inr past ↦ ap (λ (s : Stocked). s.out) (get_or_past (set pool.units u.number (stocked_of u)) u.number unborn (rw length-set past))
    ]

absent-head : (n : ℕ) (u : UnitState) (us : List UnitState) → times n (numbers (u ∷ us)) ≡ 0 → n ≢ u.number
absent-head n u us e q = let f = rw (eq-eqb n u.number q) at e in absurd (omega (arith, f))

-- a unit that isn't among them stays as it is
pub others-stay : (us : List UnitState) (pool : Stock) (n : ℕ) → times n (numbers us) ≡ 0 → stocked_at (all_returned us pool).units n ≡ stocked_at pool.units n
others-stay [] pool n e = refl
others-stay (u ∷ us) pool n e =
    others-stay us (returned u pool) n (omega (arith, e)) ∙ returned-other u pool n (absent-head n u us e)

-- what is in stock stays there
stays-in : (us : List UnitState) (pool : Stock) (n : ℕ) → (stocked_at pool.units n).out ≡ false → (stocked_at (all_returned us pool).units n).out ≡ false
stays-in [] pool n h = h
stays-in (u ∷ us) pool n h =
    elim (cases_eq n u.number) [
      | inl same ↦ stays-in us (returned u pool) n (ap (λ m. (stocked_at (returned u pool).units m).out) same ∙ returned-here u pool)
      | inr other ↦ stays-in us (returned u pool) n (ap (λ (s : Stocked). s.out) (returned-other u pool n other) ∙ h)
    ]

-- each of them is in stock
pub all-in : (us : List UnitState) (pool : Stock) (n : ℕ) → 0 < times n (numbers us) → (stocked_at (all_returned us pool).units n).out ≡ false
all-in [] pool n h = absurd (omega arith)
all-in (u ∷ us) pool n h =
    elim (cases_eq n u.number) [
      | inl same ↦ stays-in us (returned u pool) n (ap (λ m. (stocked_at (returned u pool).units m).out) same ∙ returned-here u pool)
      | inr other ↦
          let e : eqb n u.number ≡ false = ne_eqb n u.number other in
          let g = rw e at h in
          all-in us (returned u pool) n (omega (arith, g))
    ]

pub times-reversed : (n : ℕ) (us : List UnitState) → times n (numbers (reverse us)) ≡ times n (numbers us)
times-reversed n [] = refl
times-reversed n (u ∷ us) =
    let a : times n (numbers (reverse (u ∷ us))) ≡ times n (numbers (reverse us ++ u ∷ [])) = ap (λ l. times n (numbers l)) (reverse-append (u ∷ []) us) in
    let b = times-last n (reverse us) u in
    let r = times-reversed n us in
    omega (arith, a, b, r)

-- the last unit of a list goes back
pub back-step : (us vs : List UnitState) (u : UnitState) (pool : Stock) → us ≡ vs ++ u ∷ [] → all_returned (reverse us) pool ≡ all_returned (reverse vs) (returned u pool)
back-step us vs u pool e = ap (λ l. all_returned (reverse l) pool) e ∙ ap (λ l. all_returned l pool) (reverse-append vs (u ∷ []))

pub once-front : (us vs : List UnitState) (u : UnitState) → us ≡ vs ++ u ∷ [] → ((n : ℕ) → times n (numbers us) ≤ 1) → (n : ℕ) → times n (numbers vs) ≤ 1
once-front us vs u e h n =
    let k = subst (λ (l : List UnitState). times n (numbers l) ≤ 1) e (h n) in
    let t = times-last n vs u in
    omega (arith, k, t)

other-number : (vs : List UnitState) (u : UnitState) (i : ℕ) (d : UnitState) → i < length vs → ((n : ℕ) → times n (numbers (vs ++ u ∷ [])) ≤ 1) → (get_or vs i d).number ≢ u.number
other-number vs u i d lt once q =
    let n = (get_or vs i d).number in
    let a = here-times vs i d lt in
    let t = times-last n vs u in
    let k = once n in
    let one : times n (u.number ∷ []) ≡ 1 = rw (eq-eqb n u.number q) refl in
    absurd (omega (arith, a, t, k, one))

-- each is out
abbrev pub AreOut : Stock → List UnitState → Type 0
AreOut pool us = All (λ (u : UnitState). (stocked_at pool.units u.number).out ≡ true) us

pub out-front : (us vs : List UnitState) (u : UnitState) (pool : Stock) → us ≡ vs ++ u ∷ [] → ((n : ℕ) → times n (numbers us) ≤ 1) → AreOut pool us → AreOut (returned u pool) vs
out-front us vs u pool e once out i d lt =
    let n = (get_or vs i d).number in
    let w = subst (λ (l : List UnitState). (n : ℕ) → times n (numbers l) ≤ 1) e once in
    ap (λ (s : Stocked). s.out) (returned-other u pool n (other-number vs u i d lt w)) ∙ front vs u i d lt (subst (AreOut pool) e out)
  where
    front : (vs : List UnitState) (u : UnitState) (i : ℕ) (d : UnitState) → i < length vs → AreOut pool (vs ++ u ∷ []) → (stocked_at pool.units (get_or vs i d).number).out ≡ true
    front [] u i d lt h = absurd (omega arith)
    front (v ∷ vs) u zero d lt h = h 0 d (omega arith)
    front (v ∷ vs) u (suc i) d lt h = front vs u i d (omega arith) (λ k x l. h (suc k) x (omega arith))
