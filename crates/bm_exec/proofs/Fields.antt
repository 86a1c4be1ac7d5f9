-- Fields of types, as the law of accepted scripts has them, and their places.
use Rattle.std.proofs.Common.{◌≡◌, ◌+◌, ◌<◌, ◌≤◌, ◌∙◌, ℕ, zero, suc, true, false, List, [], ◌∷◌, Option, None, Some, ap, arith, inl, inr, is_some, length, refl, slice_get, subst, sym}
use Rattle.std.specs.Prelude.{Bool, position}
use Rattle.std.specs.List.{list_any, position_or_len}
use Rattle.std.proofs.lemmas.Bool.{cases_lt, le-ltb, lt-ltb}
use Rattle.std.specs.Option.{option_map_or}
use Rattle.std.specs.Str.{bytes_eq}
use Rattle.bm_check.specs.Statements.{Setting, has_field}
use Rattle.bm_lang.specs.declared.scenario.TypeDeclaration.{TypeDeclaration}
use Rattle.bm_lang.specs.declared.scenario.TypeId.{TypeId}
use Rattle.bm_exec.specs.Fields.{HasField}

-- a field that the setting says the type has is declared so
pub field-in : (e : Setting) (types : List TypeDeclaration) (field : List ℕ) (t u : TypeId) → e.types ≡ types → t ≡ u → has_field e field t ≡ true → HasField types u.0 field
field-in e types field t u same one h = subst (λ (k : TypeId). HasField types k.0 field) one (declared (slice_get types t.0) refl (ap (λ (ts : List TypeDeclaration). option_map_or (λ d. list_any (bytes_eq field) d.fields) (slice_get ts t.0) false) (sym same) ∙ h))
  where
    declared : (o : Option TypeDeclaration) → slice_get types t.0 ≡ o → option_map_or (λ d. list_any (bytes_eq field) d.fields) o false ≡ true → HasField types t.0 field
    declared None f g = cc
    declared (Some d) f g = record { declared = d; found = f; named = g }

-- what stands at a place is there in a list as long
pub there-too : (xs : List ℕ) (ys : List (List ℕ)) (i : ℕ) (y : List ℕ) → length xs ≡ length ys → slice_get ys i ≡ Some y → is_some (slice_get xs i) ≡ true
there-too [] [] i y e f = cc
there-too [] (z ∷ ys) i y e f = absurd (omega (arith, e))
there-too (x ∷ xs) [] i y e f = absurd (omega (arith, e))
there-too (x ∷ xs) (z ∷ ys) zero y e f = refl
there-too (x ∷ xs) (z ∷ ys) (suc i) y e f = there-too xs ys i y (omega (arith, e)) f

-- where a test finds a name first, it holds of it; where it finds none, it holds of none
abbrev Found : (List ℕ → Bool) → List (List ℕ) → ℕ → Type 0
Found f xs i = (x : List ℕ) × (slice_get xs i ≡ Some x) × (f x ≡ true)

one-more : (n : ℕ) → 1 + n ≡ suc n
one-more n = omega arith

first-at : (f : List ℕ → Bool) (xs : List (List ℕ)) → (position_or_len f xs < length xs → Found f xs (position_or_len f xs)) × (length xs ≤ position_or_len f xs → list_any f xs ≡ false)
first-at f [] = ((λ lt. absurd (omega (arith, lt))), (λ le. refl))
first-at f (x ∷ xs) = either (first-at f xs) (f x) refl
  where
    either : ((position_or_len f xs < length xs → Found f xs (position_or_len f xs)) × (length xs ≤ position_or_len f xs → list_any f xs ≡ false)) → (b : Bool) → f x ≡ b → (position_or_len f (x ∷ xs) < length (x ∷ xs) → Found f (x ∷ xs) (position_or_len f (x ∷ xs))) × (length (x ∷ xs) ≤ position_or_len f (x ∷ xs) → list_any f (x ∷ xs) ≡ false)
    either rest true h = (
      (λ lt. let here : position_or_len f (x ∷ xs) ≡ 0 = rw h refl in subst (Found f (x ∷ xs)) (sym here) (x, refl, h)),
      (λ le. let here : position_or_len f (x ∷ xs) ≡ 0 = rw h refl in absurd (omega (arith, le, here))),
    )
    either rest false h = (
      (λ lt. let later : position_or_len f (x ∷ xs) ≡ suc (position_or_len f xs) = rw h (one-more (position_or_len f xs)) in
          let r = rest.0 (omega (arith, lt, later)) in
          subst (Found f (x ∷ xs)) (sym later) (r.0, r.1, r.2)),
      (λ le. let later : position_or_len f (x ∷ xs) ≡ suc (position_or_len f xs) = rw h (one-more (position_or_len f xs)) in
          let none = rest.1 (omega (arith, le, later)) in
          rw h none),
    )

pub found-at : (f : List ℕ → Bool) (xs : List (List ℕ)) (i : ℕ) → position f xs ≡ Some i → Found f xs i
found-at f xs i e = elim (cases_lt (position_or_len f xs) (length xs)) [
  | inl lt ↦ (let same : position_or_len f xs ≡ i = some-one (position_or_len f xs) i (sym (position-some lt) ∙ e) in subst (Found f xs) same ((first-at f xs).0 lt))
  | inr le ↦ absurd (none-some i (sym (position-none le) ∙ e))
]
  where
    position-some : position_or_len f xs < length xs → position f xs ≡ Some (position_or_len f xs)
    position-some lt = rw (lt-ltb (position_or_len f xs) (length xs) lt) refl

    position-none : length xs ≤ position_or_len f xs → position f xs ≡ None
    position-none le = rw (le-ltb (position_or_len f xs) (length xs) le) refl

    some-one : (a b : ℕ) → Some a ≡ Some b → a ≡ b
    some-one a b q = cc

    none-some : (a : ℕ) → None ≡ Some a → ⊥
    none-some a q = cc

pub found-none : (f : List ℕ → Bool) (xs : List (List ℕ)) → position f xs ≡ None → list_any f xs ≡ false
found-none f xs e = elim (cases_lt (position_or_len f xs) (length xs)) [
  | inl lt ↦ absurd (some-none (position_or_len f xs) (sym (position-some lt) ∙ e))
  | inr le ↦ (first-at f xs).1 le
]
  where
    position-some : position_or_len f xs < length xs → position f xs ≡ Some (position_or_len f xs)
    position-some lt = rw (lt-ltb (position_or_len f xs) (length xs) lt) refl

    some-none : (a : ℕ) → Some a ≡ None → ⊥
    some-none a q = cc

-- the type that stands at a place is one
pub declared-is : (types : List TypeDeclaration) (t : ℕ) (d e : TypeDeclaration) → slice_get types t ≡ Some d → slice_get types t ≡ Some e → d ≡ e
declared-is types t d e f g = (let q : Some d ≡ Some e = sym f ∙ g in cc)

-- a type that is declared stands within the list
pub not-there : (types : List TypeDeclaration) (t : ℕ) (d : TypeDeclaration) → length types ≤ t → slice_get types t ≡ Some d → ⊥
not-there [] t d le f = cc
not-there (x ∷ xs) zero d le f = absurd (omega (arith, le))
not-there (x ∷ xs) (suc t) d le f = not-there xs t d (omega (arith, le)) f
