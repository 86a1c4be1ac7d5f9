-- What holds of each of some numbers, and of each log.
use Rattle.std.proofs.Common.{◌≡◌, ℕ, zero, suc, ◌+◌, ◌<◌, List, [], ◌∷◌, ◌++◌, length, get_or, subst, arith}
use Rattle.bm_law.specs.Lists.{Log}
use Rattle.bm_law_lives.specs.Together.{Each, EachBelow, EachLog, LogsFrom}

module _ (P : ℕ → Type 0) where
  pub each-both : (xs ys : List ℕ) → Each P xs → Each P ys → Each P (xs ++ ys)
  each-both [] ys h k = k
  each-both (x ∷ xs) ys h k = (h.0, each-both xs ys h.1 k)

  pub each-front : (xs ys : List ℕ) → Each P (xs ++ ys) → Each P xs
  each-front [] ys h = tt
  each-front (x ∷ xs) ys h = (h.0, each-front xs ys h.1)

  pub each-rest : (xs ys : List ℕ) → Each P (xs ++ ys) → Each P ys
  each-rest [] ys h = h
  each-rest (x ∷ xs) ys h = each-rest xs ys h.1

  pub each-weaker : (Q : ℕ → Type 0) → ((x : ℕ) → P x → Q x) → (xs : List ℕ) → Each P xs → Each Q xs
  each-weaker Q f [] h = tt
  each-weaker Q f (x ∷ xs) h = (f x h.0, each-weaker Q f xs h.1)

  pub each-below : (n : ℕ) → ((k : ℕ) → k < n → P k) → EachBelow n P
  each-below zero h = tt
  each-below (suc n) h = (each-below n (λ k lt. h k (omega (arith, lt))), h n (omega arith))

-- the logs, where the first one is that of processor q
logs-from : (P : ℕ → Log → Type 0) (q : ℕ) (logs : List Log) → ((i p : ℕ) → i < length logs → p ≡ q + i → P p (get_or logs i [])) → LogsFrom q P logs
logs-from P q [] h = tt
logs-from P q (log ∷ logs) h = (h 0 q (omega arith) (omega arith), logs-from P (q + 1) logs (λ i p lt e. h (suc i) p (omega (arith, lt)) (omega (arith, e))))

pub each-log : (P : ℕ → Log → Type 0) (logs : List Log) → ((p : ℕ) → p < length logs → P p (get_or logs p [])) → EachLog P logs
each-log P logs h = logs-from P 0 logs (λ i p lt e. let same : i ≡ p = omega (arith, e) in subst (λ k. P k (get_or logs i [])) same (h i lt))
