-- How many works are left at most, by the flags that are up and the handlers that haven't run.
use Rattle.std.proofs.Common.{◌≡◌, ◌≤◌, ◌+◌, ◌-◌, ◌*◌, ◌⊎◌, ℕ, Bool, true, false, cond, List, [], ◌∷◌, length, Some, refl, ◌∙◌, ap, add-one, arith, inl, inr}
use Rattle.std.specs.Prelude.{find}
use Rattle.std.proofs.Math.Nat.{eq-or-lt_of_le, mul_comm, suc-mul}
use Rattle.std.proofs.lemmas.Nat.{mul-le}

-- one, where it passes
abbrev pub one_if : Bool → ℕ
one_if true = 1
one_if false = 0

-- how many of these pass a test
abbrev pub passing : (ℕ → Bool) → List ℕ → ℕ
passing p [] = 0
passing p (x ∷ xs) = one_if (p x) + passing p xs

-- the works that are left at most: one for each flag that is up, and for each handler one more than there are classes
abbrev pub works_left : ℕ → List ℕ → (ℕ → Bool) → ℕ
works_left pending classes raised = pending * (length classes + 1) + passing raised classes

one-at-most : (b : Bool) → one_if b ≤ 1
one-at-most true = omega arith
one-at-most false = omega arith

-- at most all pass
pub passing-length : (p : ℕ → Bool) (xs : List ℕ) → passing p xs ≤ length xs
passing-length p [] = omega arith
passing-length p (x ∷ xs) = omega (arith, one-at-most (p x), passing-length p xs)

one-more : (a b : Bool) → (b ≡ true → a ≡ true) → one_if b ≤ one_if a
one-more true true f = omega arith
one-more true false f = omega arith
one-more false false f = omega arith
one-more false true f = let e : false ≡ true = f refl in absurd (cc)

-- no more pass, where what passes now passed before
pub passing-more : (p q : ℕ → Bool) (xs : List ℕ) → ((k : ℕ) → q k ≡ true → p k ≡ true) → passing q xs ≤ passing p xs
passing-more p q [] f = omega arith
passing-more p q (x ∷ xs) f = omega (arith, one-more (p x) (q x) (f x), passing-more p q xs f)

-- and the first one of the list, or one behind it
first-or-behind : (b : Bool) (p : ℕ → Bool) (x c : ℕ) (xs : List ℕ) → cond b (Some x) (find p xs) ≡ Some c → ((b ≡ true) × (x ≡ c)) ⊎ (find p xs ≡ Some c)
first-or-behind true p x c xs h = inl (refl, cc)
first-or-behind false p x c xs h = inr h

-- fewer pass, where the first that passed doesn't pass now
pub passing-less : (p q : ℕ → Bool) (c : ℕ) (xs : List ℕ) → find p xs ≡ Some c → q c ≡ false → ((k : ℕ) → q k ≡ true → p k ≡ true) → passing q xs + 1 ≤ passing p xs
passing-less p q c [] h d f = absurd (cc)
passing-less p q c (x ∷ xs) h d f =
    elim (first-or-behind (p x) p x c xs h) [
      | inl y ↦ (let e : q x ≡ false = ap q y.1 ∙ d in omega (arith, ap one_if y.0, ap one_if e, passing-more p q xs f))
      | inr y ↦ omega (arith, one-more (p x) (q x) (f x), passing-less p q c xs y d f)
    ]

one-times : (n k : ℕ) → (n + 1) * k ≡ n * k + k
one-times n k = rw add-one (suc-mul n k)

-- A work leaves fewer works: where no handler ran, its class's flag is down and none was raised, and else a handler is fewer.
pub works-left-less : (m n c : ℕ) (xs : List ℕ) (p q : ℕ → Bool) → find p xs ≡ Some c → n ≤ m → (n ≡ m → q c ≡ false) → (n ≡ m → (k : ℕ) → q k ≡ true → p k ≡ true) → works_left n xs q + 1 ≤ works_left m xs p
works-left-less m n c xs p q h le d f =
    let k = length xs + 1 in
    elim (eq-or-lt_of_le le) [
      | inl e ↦ (let a : n * k ≡ m * k = ap (λ (z : ℕ). z * k) e in omega (arith, a, passing-less p q c xs h (d e) (f e)))
      | inr less ↦ (let r : n + 1 ≤ m = omega (arith, less) in
          let a : (n + 1) * k ≤ m * k = mul-le (n + 1) k m k r (omega arith) in
          omega (arith, a, one-times n k, passing-length q xs))
    ]

-- at most one less than there are classes and handlers, each with one more
pub works-left-most : (m : ℕ) (xs : List ℕ) (p : ℕ → Bool) → works_left m xs p + 1 ≤ (length xs + 1) * (m + 1)
works-left-most m xs p =
    let k = length xs + 1 in
    let a : k * (m + 1) ≡ (m + 1) * k = mul_comm k (m + 1) in
    omega (arith, a, one-times m k, passing-length p xs)

-- So many works were left, and where fewer handlers wait now these are for those that ran and the flags that were up, and for
-- those that wait.
pub works-left-ran : (m n : ℕ) (xs : List ℕ) (p : ℕ → Bool) → n ≤ m → works_left m xs p ≤ (length xs + 1) * (m - n + 1) + n * (length xs + 1)
works-left-ran m n xs p le =
    let k = length xs + 1 in
    let d = m - n in
    let whole : m ≡ d + n = omega (arith, le) in
    let a : m * k ≡ (d + n) * k = ap (λ (z : ℕ). z * k) whole in
    let b : (d + n) * k ≡ d * k + n * k = omega arith in
    let c : k * (d + 1) ≡ (d + 1) * k = mul_comm k (d + 1) in
    omega (arith, a, b, c, one-times d k, passing-length p xs)
