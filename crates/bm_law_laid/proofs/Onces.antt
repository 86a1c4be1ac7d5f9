-- Numbers that stand in a list once.
use Rattle.std.proofs.Common.{◌≡◌, ◌≢◌, ℕ, ◌+◌, ◌≤◌, List, [], ◌∷◌, ◌++◌, reverse, refl, sym, ◌∙◌, ap, subst, arith, inl, inr, eq-eqb, ne_eqb}
use Rattle.std.proofs.lemmas.Bool.{cases_eq}
use Rattle.std.proofs.lemmas.Bool.Decides.{eqb_tells}
use Rattle.std.proofs.lemmas.List.{reverse-append}
use Rattle.bm_law_lives.specs.Together.{beside, times}
use Rattle.bm_law_laid.specs.Once.{Once}

pub times-here : (x : ℕ) (xs : List ℕ) → times x (x ∷ xs) ≡ times x xs + 1
times-here x xs = rw (eq-eqb x x refl) refl

pub times-there : (x y : ℕ) (xs : List ℕ) → x ≢ y → times x (y ∷ xs) ≡ times x xs
times-there x y xs ne = rw (ne_eqb x y ne) refl

pub times-append : (x : ℕ) (xs ys : List ℕ) → times x (xs ++ ys) ≡ times x xs + times x ys
times-append x [] ys = omega arith
times-append x (y ∷ xs) ys =
    let more = times-append x xs ys in
    elim (eqb_tells x y) [ inl z ↦ rw z.0 (omega (arith, more)) | inr z ↦ rw z.0 more ]

pub beside-append : (u : ℕ) (xs ys : List (ℕ × ℕ)) → beside u (xs ++ ys) ≡ beside u xs ++ beside u ys
beside-append u [] ys = refl
beside-append u (x ∷ xs) ys = elim (eqb_tells u x.0) [ inl y ↦ rw y.0 (ap (λ z. x.1 ∷ z) (beside-append u xs ys)) | inr y ↦ rw y.0 (beside-append u xs ys) ]

pub times-reverse : (x : ℕ) (xs : List ℕ) → times x (reverse xs) ≡ times x xs
times-reverse x [] = refl
times-reverse x (y ∷ xs) =
    let a : times x (reverse (y ∷ xs)) ≡ times x (reverse xs ++ y ∷ []) = ap (times x) (reverse-append (y ∷ []) xs) in
    let b = times-append x (reverse xs) (y ∷ []) in
    let c = times-append x (y ∷ []) xs in
    let d = times-reverse x xs in
    omega (arith, a, b, c, d)

pub once-none : (P : ℕ → Type 0) (n : ℕ) → Once P n n []
once-none P n = record { once = λ x p lt le. absurd (omega (arith, lt, le)); none = λ x h. refl }

-- the next number stands in front
pub once-more : (P : ℕ → Type 0) (n m to : ℕ) (xs : List ℕ) → m ≡ n + 1 → P m → m ≤ to → Once P m to xs → Once P n to (m ∷ xs)
once-more P n m to xs e p le h = record {
  once = λ x q lt k. elim (cases_eq x m) [
    | inl same ↦ ap (λ y. times y (m ∷ xs)) same ∙ (times-here m xs ∙ (let z = h.none m (inr (inl (omega arith))) in omega (arith, z)))
    | inr other ↦ times-there x m xs other ∙ h.once x q (omega (arith, lt, e, other)) k
  ];
  none = λ x g. elim (cases_eq x m) [
    | inl same ↦ absurd (elim g [ inl out ↦ out (subst P (sym same) p) | inr (inl low) ↦ omega (arith, low, same, e) | inr (inr high) ↦ omega (arith, high, same, le) ])
    | inr other ↦ times-there x m xs other ∙ h.none x (elim g [ inl out ↦ inl out | inr (inl low) ↦ inr (inl (omega (arith, low, e))) | inr (inr high) ↦ inr (inr high) ])
  ];
}

-- the next number isn't of the kind
pub once-skip : (P : ℕ → Type 0) (n m to : ℕ) (xs : List ℕ) → m ≡ n + 1 → (P m → ⊥) → Once P m to xs → Once P n to xs
once-skip P n m to xs e out h = record {
  once = λ x q lt k. elim (cases_eq x m) [
    | inl same ↦ absurd (out (subst P same q))
    | inr other ↦ h.once x q (omega (arith, lt, e, other)) k
  ];
  none = λ x g. elim g [ inl k ↦ h.none x (inl k) | inr (inl low) ↦ h.none x (inr (inl (omega (arith, low, e)))) | inr (inr high) ↦ h.none x (inr (inr high)) ];
}
