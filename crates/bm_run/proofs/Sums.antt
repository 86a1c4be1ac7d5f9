-- Sums of as many numbers as there are processors.
use Rattle.std.proofs.Common.{◌≡◌, ◌≢◌, ◌<◌, ◌≤◌, ◌+◌, ℕ, zero, suc, refl, sym, ap, arith, inl, inr}
use Rattle.std.proofs.lemmas.Bool.{cases_eq}
use Rattle.bm_run.specs.Between.{sum_below}

pub sum-none : (n : ℕ) (f : ℕ → ℕ) → ((r : ℕ) → r < n → f r ≡ 0) → sum_below n f ≡ 0
sum-none zero f h = refl
sum-none (suc n) f h =
    let rest = sum-none n f (λ r lt. h r (omega (arith, lt))) in
    let last = h n (omega arith) in
    omega (arith, rest, last)

sum-same : (n : ℕ) (f g : ℕ → ℕ) → ((r : ℕ) → r < n → g r ≡ f r) → sum_below n g ≡ sum_below n f
sum-same zero f g h = refl
sum-same (suc n) f g h =
    let rest = sum-same n f g (λ r lt. h r (omega (arith, lt))) in
    let last = h n (omega arith) in
    omega (arith, rest, last)

-- one of them is another number
pub sum-changed : (n p : ℕ) (f g : ℕ → ℕ) → p < n → ((r : ℕ) → r < n → r ≢ p → g r ≡ f r) → sum_below n g + f p ≡ sum_below n f + g p
sum-changed zero p f g lt h = absurd (omega (arith, lt))
sum-changed (suc n) p f g lt h = elim (cases_eq n p) [
  | inl same ↦
      let rest = sum-same n f g (λ r below. h r (omega (arith, below)) (λ q. omega (arith, below, q, same))) in
      let mine : f n ≡ f p = ap f same in
      let its : g n ≡ g p = ap g same in
      omega (arith, rest, mine, its)
  | inr other ↦
      let below : p < n = (let ne : p ≢ n = λ q. other (sym q) in omega (arith, lt, ne)) in
      let rest = sum-changed n p f g below (λ r lr. h r (omega (arith, lr))) in
      let last = h n (omega arith) other in
      omega (arith, rest, last)
]

one-below : (n p : ℕ) (f : ℕ → ℕ) → p < n → f p ≤ sum_below n f
one-below zero p f lt = absurd (omega (arith, lt))
one-below (suc n) p f lt = elim (cases_eq n p) [
  | inl same ↦ (let mine : f n ≡ f p = ap f same in omega (arith, mine))
  | inr other ↦ (let rest = one-below n p f (let ne : p ≢ n = λ q. other (sym q) in omega (arith, lt, ne)) in omega (arith, rest))
]

-- two of them are at most all
pub two-below : (n p q : ℕ) (f : ℕ → ℕ) → p < n → q < n → q ≢ p → f p + f q ≤ sum_below n f
two-below zero p q f lp lq ne = absurd (omega (arith, lp))
two-below (suc n) p q f lp lq ne = elim (cases_eq n p) [
  | inl same ↦
      let mine : f n ≡ f p = ap f same in
      let rest = one-below n q f (omega (arith, lq, ne, same)) in
      omega (arith, mine, rest)
  | inr other ↦
      let below : p < n = (let differs : p ≢ n = λ e. other (sym e) in omega (arith, lp, differs)) in
      elim (cases_eq n q) [
        | inl same ↦
            let its : f n ≡ f q = ap f same in
            let rest = one-below n p f below in
            omega (arith, its, rest)
        | inr third ↦
            let rest = two-below n p q f below (let differs : q ≢ n = λ e. third (sym e) in omega (arith, lq, differs)) ne in
            omega (arith, rest)
      ]
]
