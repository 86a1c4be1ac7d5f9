-- The classes of types.
use Rattle.std.proofs.Common.{◌≡◌, ◌<◌, ◌+◌, inl, inr, ne_eqb, ℕ, Bool, true, false, ◌||◌, nat_eq, List, [], ◌∷◌, ◌++◌, map, take, refl, sym, ap, ◌∙◌, Some, if◌then◌else◌, cond, length, get_or, append-nil}
use Rattle.std.specs.List.{list_any, filter}
use Rattle.std.proofs.lemmas.List.{take_more}
use Rattle.bm_class.specs.Sizes.{class_of_size}
use Rattle.bm_lang.specs.declared.scenario.TypeDeclaration.{TypeDeclaration}
use Rattle.std.proofs.lemmas.Bool.{cases_eq}
use Rattle.bm_law_scenario.specs.Opened.{object_size, is_class, uses_class}

turned : (c x : ℕ) → nat_eq c x ≡ nat_eq x c
turned c x = elim (cases_eq c x) [
  | inl same ↦ ap (λ k. nat_eq k x) same ∙ ap (λ k. nat_eq x k) (sym same)
  | inr other ↦ ne_eqb c x other ∙ sym (ne_eqb x c (λ e. other (sym e)))
]

-- a class is that of some type exactly where it stands among the types' classes
pub any-class : (types : List TypeDeclaration) (classes : List ℕ) (c : ℕ) → map Some classes ≡ map (λ (t : TypeDeclaration). class_of_size (object_size t)) types → list_any (nat_eq c) classes ≡ list_any (uses_class c) types
any-class [] [] c e = refl
any-class [] (x ∷ xs) c e = cc
any-class (t ∷ ts) [] c e = cc
any-class (t ∷ ts) (x ∷ xs) c e =
    let head : Some x ≡ class_of_size (object_size t) = cc in
    let tail : map Some xs ≡ map (λ (t : TypeDeclaration). class_of_size (object_size t)) ts = cc in
    ap (λ b. b || list_any (nat_eq c) xs) (turned c x) ∙ (ap (λ o. is_class c o || list_any (nat_eq c) xs) head ∙ ap (λ b. is_class c (class_of_size (object_size t)) || b) (any-class ts xs c tail))

pub kept-step : (P : ℕ → Bool) (xs : List ℕ) (x : ℕ) → filter P (xs ++ x ∷ []) ≡ filter P xs ++ (if P x then x ∷ [] else [])
kept-step P [] x = refl
kept-step P (y ∷ ys) x =
    elim (P y) as (λ b. cond b (y ∷ filter P (ys ++ x ∷ [])) (filter P (ys ++ x ∷ [])) ≡ cond b (y ∷ filter P ys) (filter P ys) ++ (if P x then x ∷ [] else [])) [
      | true ↦ ap (λ zs. y ∷ zs) (kept-step P ys x)
      | false ↦ kept-step P ys x
    ]

-- the next class is kept where a type has it, and left out where none has
module _ (types : List TypeDeclaration) (classes : List ℕ) (same : map Some classes ≡ map (λ (t : TypeDeclaration). class_of_size (object_size t)) types) where
  abbrev pub P : ℕ → Bool
  P c = list_any (uses_class c) types

  taken : (xs : List ℕ) (i d : ℕ) → i < length xs → (b : Bool) → b ≡ list_any (nat_eq (get_or xs i d)) classes → filter P (take (i + 1) xs) ≡ filter P (take i xs) ++ (if b then get_or xs i d ∷ [] else [])
  taken xs i d lt b t =
      let c = get_or xs i d in
      ap (filter P) (take_more xs i d lt) ∙ (kept-step P (take i xs) c ∙ ap (λ e. filter P (take i xs) ++ (if e then c ∷ [] else [])) (sym (any-class types classes c same) ∙ sym t))

  pub kept-class : (xs : List ℕ) (i d : ℕ) → i < length xs → true ≡ list_any (nat_eq (get_or xs i d)) classes → filter P (take (i + 1) xs) ≡ filter P (take i xs) ++ get_or xs i d ∷ []
  kept-class xs i d lt t = taken xs i d lt true t

  pub left-class : (xs : List ℕ) (i d : ℕ) → i < length xs → false ≡ list_any (nat_eq (get_or xs i d)) classes → filter P (take (i + 1) xs) ≡ filter P (take i xs)
  left-class xs i d lt t = taken xs i d lt false t ∙ append-nil (filter P (take i xs))
