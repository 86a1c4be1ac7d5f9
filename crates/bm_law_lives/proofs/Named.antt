-- What holds of each unit that a list names, and where a list names none, holds of all units.
use Rattle.std.proofs.Common.{◌≡◌, ℕ, ◌⊎◌, ◌∙◌, inl, inr, List, [], ◌∷◌, refl, sym, subst}
use Rattle.std.proofs.lemmas.Bool.Decides.{eqb_tells}
use Rattle.bm_law_lives.specs.Together.{times, beside, Each}

-- a pair that begins with this number, or none
pub pair-found : (P : ℕ → Type 0) (xs : List (ℕ × ℕ)) (u : ℕ) → Each (λ x. P x.0) xs → (beside u xs ≡ []) ⊎ P u
pair-found P [] u h = inl refl
pair-found P (x ∷ xs) u h =
    elim (eqb_tells u x.0) [
      | inl y ↦ inr (subst P (sym y.1) h.0)
      | inr y ↦ elim (pair-found P xs u h.1) [ inl e ↦ inl (rw y.0 e) | inr p ↦ inr p ]
    ]

-- a number of a list, or none
pub number-found : (P : ℕ → Type 0) (xs : List ℕ) (u : ℕ) → Each P xs → (times u xs ≡ 0) ⊎ P u
number-found P [] u h = inl refl
number-found P (x ∷ xs) u h =
    elim (eqb_tells u x) [
      | inl y ↦ inr (subst P (sym y.1) h.0)
      | inr y ↦ elim (number-found P xs u h.1) [ inl e ↦ inl (rw y.0 e) | inr p ↦ inr p ]
    ]

pub by-pairs : (P : ℕ → Type 0) (xs : List (ℕ × ℕ)) → ((u : ℕ) → beside u xs ≡ [] → P u) → Each (λ x. P x.0) xs → (u : ℕ) → P u
by-pairs P xs none each u = elim (pair-found P xs u each) [ inl e ↦ none u e | inr p ↦ p ]

pub by-both : (P : ℕ → Type 0) (xs ys : List (ℕ × ℕ)) → ((u : ℕ) → beside u xs ≡ [] → beside u ys ≡ [] → P u) → Each (λ x. P x.0) xs → Each (λ x. P x.0) ys → (u : ℕ) → P u
by-both P xs ys none first second u =
    elim (pair-found P xs u first) [
      | inl e ↦ elim (pair-found P ys u second) [ inl f ↦ none u e f | inr p ↦ p ]
      | inr p ↦ p
    ]

-- two lists that name their own numbers equally often
pub same-times : (xs ys : List ℕ) → Each (λ u. times u xs ≡ times u ys) xs → Each (λ u. times u xs ≡ times u ys) ys → (u : ℕ) → times u xs ≡ times u ys
same-times xs ys first second u =
    elim (number-found (λ u. times u xs ≡ times u ys) xs u first) [
      | inl e ↦ elim (number-found (λ u. times u xs ≡ times u ys) ys u second) [ inl f ↦ e ∙ sym f | inr p ↦ p ]
      | inr p ↦ p
    ]
