-- Two lists whose items go together, one by one.
use Rattle.std.proofs.Common.{◌≡◌, ℕ, zero, suc, ◌+◌, ◌||◌, Bool, List, [], ◌∷◌, length, refl, sym, ap, ap₂, ◌∙◌, subst, Option, Some}
use Rattle.std.specs.Prelude.{map, slice_get, sum_by}
use Rattle.std.specs.List.{list_any}
use Rattle.std.proofs.lemmas.List.Sums.{sum_by-cons}

abbrev pub Each : {A : Type 0} → (A → Type 0) → List A → Type 0
Each P [] = Unit {0}
Each P (x ∷ xs) = P x × Each P xs

abbrev pub Pairs : {A : Type 0} → (A → A → Type 0) → List A → List A → Type 0
Pairs R [] [] = Unit {0}
Pairs R [] (y ∷ ys) = ⊥
Pairs R (x ∷ xs) [] = ⊥
Pairs R (x ∷ xs) (y ∷ ys) = R x y × Pairs R xs ys

-- what goes together has the same forms
pub pairs-map : {A B : Type 0} (R : A → A → Type 0) (v : A → B) → ((x y : A) → R x y → v x ≡ v y) → (xs ys : List A) → Pairs R xs ys → map v xs ≡ map v ys
pairs-map R v same [] [] h = refl
pairs-map R v same [] (y ∷ ys) h = absurd h
pairs-map R v same (x ∷ xs) [] h = absurd h
pairs-map R v same (x ∷ xs) (y ∷ ys) h = ap₂ (λ b bs. b ∷ bs) (same x y h.0) (pairs-map R v same xs ys h.1)

pub pairs-length : {A : Type 0} (R : A → A → Type 0) (xs ys : List A) → Pairs R xs ys → length xs ≡ length ys
pairs-length R [] [] h = refl
pairs-length R [] (y ∷ ys) h = absurd h
pairs-length R (x ∷ xs) [] h = absurd h
pairs-length R (x ∷ xs) (y ∷ ys) h = ap suc (pairs-length R xs ys h.1)

-- what is made of an item at a place, or of none
pub pairs-at : {A B : Type 0} (R : A → A → Type 0) (v : Option A → B) → ((x y : A) → R x y → v (Some x) ≡ v (Some y)) → (xs ys : List A) (i : ℕ) → Pairs R xs ys → v (slice_get xs i) ≡ v (slice_get ys i)
pairs-at R v same [] [] i h = refl
pairs-at R v same [] (y ∷ ys) i h = absurd h
pairs-at R v same (x ∷ xs) [] i h = absurd h
pairs-at R v same (x ∷ xs) (y ∷ ys) zero h = same x y h.0
pairs-at R v same (x ∷ xs) (y ∷ ys) (suc i) h = pairs-at R v same xs ys i h.1

pub pairs-any : {A : Type 0} (R : A → A → Type 0) (test : A → Bool) → ((x y : A) → R x y → test x ≡ test y) → (xs ys : List A) → Pairs R xs ys → list_any test xs ≡ list_any test ys
pairs-any R test same [] [] h = refl
pairs-any R test same [] (y ∷ ys) h = absurd h
pairs-any R test same (x ∷ xs) [] h = absurd h
pairs-any R test same (x ∷ xs) (y ∷ ys) h = ap₂ (λ (a b : Bool). a || b) (same x y h.0) (pairs-any R test same xs ys h.1)

pub pairs-sum : {A : Type 0} (R : A → A → Type 0) (u v : A → ℕ) → ((x y : A) → R x y → u x ≡ v y) → (xs ys : List A) → Pairs R xs ys → sum_by u xs ≡ sum_by v ys
pairs-sum R u v same [] [] h = refl
pairs-sum R u v same [] (y ∷ ys) h = absurd h
pairs-sum R u v same (x ∷ xs) [] h = absurd h
pairs-sum R u v same (x ∷ xs) (y ∷ ys) h = sum_by-cons u x xs ∙ ap₂ (λ (a b : ℕ). a + b) (same x y h.0) (pairs-sum R u v same xs ys h.1) ∙ sym (sum_by-cons v y ys)

-- an item at a place of the first list goes with one there of the second
pub pairs-found : {A : Type 0} (R : A → A → Type 0) (xs ys : List A) (i : ℕ) (x : A) → Pairs R xs ys → slice_get xs i ≡ Some x → (y : A) × (slice_get ys i ≡ Some y) × R x y
pairs-found R [] ys i x h e = cc
pairs-found R (z ∷ xs) [] i x h e = absurd h
pairs-found R (z ∷ xs) (y ∷ ys) zero x h e = let same : z ≡ x = cc in (y, refl, subst (λ v. R v y) same h.0)
pairs-found R (z ∷ xs) (y ∷ ys) (suc i) x h e = pairs-found R xs ys i x h.1 e
