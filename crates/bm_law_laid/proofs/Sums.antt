-- What logs add up to.
use Rattle.std.proofs.Common.{◌≡◌, ℕ, zero, suc, ◌+◌, List, [], ◌∷◌, length, get_or, arith, sym}
use Rattle.bm_law.specs.Lists.{Log}
use Rattle.bm_law.specs.Stands.{sum_to}

-- the first one, and those after it
sum-front : (n : ℕ) (f : ℕ → ℕ) → sum_to (suc n) f ≡ f 0 + sum_to n (λ k. f (suc k))
sum-front zero f = omega arith
sum-front (suc n) f = let x = sum-front n f in omega (arith, x)

-- a number of all logs that adds up, log by log
pub sum-logs : (f : Log → ℕ) (all : List Log → ℕ) → all [] ≡ 0 → ((log : Log) (logs : List Log) → all (log ∷ logs) ≡ f log + all logs) → (logs : List Log) → sum_to (length logs) (λ p. f (get_or logs p [])) ≡ all logs
sum-logs f all none more [] = sym none
sum-logs f all none more (log ∷ logs) =
    let a = sum-front (length logs) (λ p. f (get_or (log ∷ logs) p [])) in
    let b = sum-logs f all none more logs in
    let c = more log logs in
    omega (arith, a, b, c)
