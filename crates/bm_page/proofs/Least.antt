-- Lemmas on the least number below a bound that passes a test.
use Rattle.std.proofs.Common.{◌≡◌, ℕ, zero, suc, ◌<◌, ◌⊎◌, inl, inr, Bool, true, false, None, Some, refl, sym, ◌∙◌, ap, arith}
use Rattle.std.proofs.lemmas.Bool.{cases_lt, cases_Bool}
use Rattle.bm_page.specs.Stock.{least_below}

-- none is found where none passes
pub least_below-none : (test : ℕ → Bool) (n : ℕ) → ((k : ℕ) → k < n → test k ≡ false) → least_below test n ≡ None
unfolding least_below
least_below-none test zero fails = refl
least_below-none test (suc n) fails =
    let before = least_below-none test n (λ k lt. fails k (omega arith)) in
    let here : test n ≡ false = fails n (omega arith) in
    rw (before, here)

-- the first that passes is found
pub least_below-is : (test : ℕ → Bool) (n k : ℕ) → k < n → test k ≡ true → ((j : ℕ) → j < k → test j ≡ false) → least_below test n ≡ Some k
unfolding least_below
least_below-is test zero k lt holds fails = absurd (omega arith)
least_below-is test (suc n) k lt holds fails =
    elim (cases_lt k n) [
      | inl below ↦ rw (least_below-is test n k below holds fails)
      | inr above ↦
          let same : n ≡ k = omega arith in
          let before = least_below-none test n (λ j j_below. fails j (omega arith)) in
          let here : test n ≡ true = ap test same ∙ holds in
          rw (before, here) (ap (λ j. Some j) same)
    ]

-- the first below a bound that passes, or the fact that none does
least_cases : (test : ℕ → Bool) (n : ℕ) → ((k : ℕ) × (k < n) × (test k ≡ true) × ((j : ℕ) → j < k → test j ≡ false)) ⊎ ((k : ℕ) → k < n → test k ≡ false)
least_cases test zero = inr (λ k lt. absurd (omega arith))
least_cases test (suc n) =
    elim (least_cases test n) [
      | inl found ↦ inl (found.0, omega (arith, found.1), found.2, found.3)
      | inr fails ↦ elim (cases_Bool (test n)) [
        | inl holds ↦ inl (n, omega arith, holds, fails)
        | inr here ↦ inr (λ k lt. elim (cases_lt k n) [
          | inl below ↦ fails k below
          | inr above ↦ let same : k ≡ n = omega arith in ap test same ∙ here
        ])
      ]
    ]

-- what is found is below the bound and passes, and none before it does
pub least_below-Some : (test : ℕ → Bool) (n k : ℕ) → least_below test n ≡ Some k → (k < n) × (test k ≡ true) × ((j : ℕ) → j < k → test j ≡ false)
least_below-Some test n k e =
    elim (least_cases test n) [
      | inl found ↦
          let is = least_below-is test n found.0 found.1 found.2 found.3 in
          let same : found.0 ≡ k = cc in
          (omega (arith, found.1), ap test (sym same) ∙ found.2, λ j lt. found.3 j (omega arith))
      | inr fails ↦ let is = least_below-none test n fails in absurd (cc)
    ]

-- where none is found none passes
pub least_below-None : (test : ℕ → Bool) (n : ℕ) → least_below test n ≡ None → (k : ℕ) → k < n → test k ≡ false
least_below-None test n e =
    elim (least_cases test n) [
      | inl found ↦ let is = least_below-is test n found.0 found.1 found.2 found.3 in absurd (cc)
      | inr fails ↦ fails
    ]
