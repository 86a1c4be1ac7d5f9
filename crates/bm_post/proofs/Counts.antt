-- How often a number stands among units.
use Rattle.std.proofs.Common.{◌≡◌, ◌≢◌, ◌⊎◌, ℕ, zero, suc, ◌+◌, ◌<◌, ◌≤◌, true, false, List, [], ◌∷◌, ◌++◌, length, get_or, refl, sym, subst, inl, inr, arith, eqb, eq-eqb, ne_eqb}
use Rattle.std.specs.List.{All, AllPairs}
use Rattle.std.proofs.lemmas.Bool.{cases_eq}
use Rattle.bm_law.specs.Stands.{times}
use Rattle.bm_page.specs.UnitState.{UnitState}
use Rattle.bm_post.specs.Rights.{numbers}

-- what holds of each unit holds of each number that stands among them
pub at-number : (Q : ℕ → Type 0) (us : List UnitState) (n : ℕ) → All (λ (u : UnitState). Q u.number) us → 0 < times n (numbers us) → Q n
at-number Q [] n all h = absurd (omega arith)
at-number Q (u ∷ us) n all h =
    elim (cases_eq n u.number) [
      | inl same ↦ subst Q (sym same) (all 0 u (omega arith))
      | inr other ↦
          let e : eqb n u.number ≡ false = ne_eqb n u.number other in
          let g = rw e at h in
          at-number Q us n (λ k d lt. all (suc k) d (omega arith)) (omega (arith, g))
    ]

pub zero-or-more : (k : ℕ) → (k ≡ 0) ⊎ (0 < k)
zero-or-more zero = inl refl
zero-or-more (suc k) = inr (omega arith)

-- units of which no two have one number
pub once-pairs : (us : List UnitState) → AllPairs (λ (a b : UnitState). a.number ≢ b.number) us → (n : ℕ) → times n (numbers us) ≤ 1
once-pairs [] pairs n = omega arith
once-pairs (u ∷ us) pairs n =
    elim (cases_eq n u.number) [
      | inl same ↦
          let one : eqb n u.number ≡ true = eq-eqb n u.number same in
          elim (zero-or-more (times n (numbers us))) [
            | inl none ↦ rw one (omega (arith, none))
            | inr some ↦ absurd (at-number (λ m. u.number ≢ m) us n (λ k d lt. pairs 0 (suc k) d (omega arith) (omega arith)) some (sym same))
          ]
      | inr other ↦
          let none : eqb n u.number ≡ false = ne_eqb n u.number other in
          let rest = once-pairs us (λ i j d lt less. pairs (suc i) (suc j) d (omega arith) (omega arith)) n in
          rw none (omega (arith, rest))
    ]

pub times-last : (n : ℕ) (vs : List UnitState) (u : UnitState) → times n (numbers (vs ++ u ∷ [])) ≡ times n (numbers vs) + times n (u.number ∷ [])
times-last n [] u = omega arith
times-last n (v ∷ vs) u = let h = times-last n vs u in omega (arith, h)

-- each unit's number stands among them
pub here-times : (vs : List UnitState) (i : ℕ) (d : UnitState) → i < length vs → 0 < times (get_or vs i d).number (numbers vs)
here-times [] i d lt = absurd (omega arith)
here-times (v ∷ vs) zero d lt = rw (eq-eqb v.number v.number refl) (omega arith)
here-times (v ∷ vs) (suc i) d lt = let h = here-times vs i d (omega arith) in omega (arith, h)
