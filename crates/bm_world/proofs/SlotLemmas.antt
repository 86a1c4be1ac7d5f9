-- Slots of objects.
use Rattle.std.proofs.Common.{◌≡◌, ◌≢◌, ℕ, suc, zero, ◌<◌, true, not, List, [], ◌∷◌, length, refl, ap, Option, Some, None, arith, replicate, set, slice_get, is_some, ◌∙◌, sym, subst, inl, inr}
use Rattle.std.proofs.lemmas.Bool.{cases_eq}
use Rattle.bm_page.specs.UnitState.{UnitState}
use Rattle.bm_world.specs.Slots.{AllEmpty, joined, object_at, unit_at, unit_of, values_of, with_count}
use Rattle.bm_world.specs.declared.slots.Object.{Object}

abbrev pub Slotted : Type 0
Slotted = List (Option Object)

none-in : (k n : ℕ) → unit_at (replicate k None) n ≡ None
none-in zero n = refl
none-in (suc k) zero = refl
none-in (suc k) (suc n) = none-in k n

pub all-empty : (k : ℕ) (slots : Slotted) → slots ≡ replicate k None → AllEmpty slots
all-empty k slots e n = ap (λ s. unit_at s n) e ∙ none-in k n

pub none-of : (x : Option UnitState) → not (is_some x) ≡ true → x ≡ None
none-of None e = refl
none-of (Some u) e = cc

pub none-not : (x : Option UnitState) → x ≡ None → not (is_some x) ≡ true
none-not x e = ap (λ o. not (is_some o)) e

pub some-one : (v u : UnitState) → Some v ≡ Some u → v ≡ u
some-one v u e = cc

pub not-both : (x : Option UnitState) (u : UnitState) → x ≡ None → x ≡ Some u → ⊥
not-both x u f g = cc

-- one slot is written
slot-same : {A : Type 0} (xs : List A) (i : ℕ) (x : A) → i < length xs → slice_get (set xs i x) i ≡ Some x
slot-same [] i x lt = absurd (omega arith)
slot-same (y ∷ ys) zero x lt = refl
slot-same (y ∷ ys) (suc i) x lt = slot-same ys i x (omega arith)

slot-other : {A : Type 0} (xs : List A) (i j : ℕ) (x : A) → j ≢ i → slice_get (set xs i x) j ≡ slice_get xs j
slot-other [] i j x ne = refl
slot-other (y ∷ ys) zero zero x ne = absurd (ne refl)
slot-other (y ∷ ys) zero (suc j) x ne = refl
slot-other (y ∷ ys) (suc i) zero x ne = refl
slot-other (y ∷ ys) (suc i) (suc j) x ne = slot-other ys i j x (λ e. ne (ap suc e))

-- a unit that lives is an object's
pub record ObjectOf (x : Option Object) (u : UnitState) : Type 0 where
  pub object : Object
  pub is : x ≡ Some object
  pub unit : object.unit ≡ u

pub the-object : (x : Option Object) (u : UnitState) → unit_of x ≡ Some u → ObjectOf x u
the-object None u e = cc
the-object (Some o) u e = record { object = o; is = refl; unit = cc }

pub no-object : (x : Option Object) → unit_of x ≡ None → x ≡ None
no-object None e = refl
no-object (Some o) e = cc

pub object-same : (slots : Slotted) (i : ℕ) (x : Option Object) → i < length slots → object_at (set slots i x) i ≡ x
object-same slots i x lt = ap joined (slot-same slots i x lt)

pub object-other : (slots : Slotted) (i j : ℕ) (x : Option Object) → j ≢ i → object_at (set slots i x) j ≡ object_at slots j
object-other slots i j x ne = ap joined (slot-other slots i j x ne)

pub at-same : (slots : Slotted) (i : ℕ) (x : Option Object) → i < length slots → unit_at (set slots i x) i ≡ unit_of x
at-same slots i x lt = ap unit_of (object-same slots i x lt)

pub at-other : (slots : Slotted) (i j : ℕ) (x : Option Object) → j ≢ i → unit_at (set slots i x) j ≡ unit_at slots j
at-other slots i j x ne = ap unit_of (object-other slots i j x ne)

-- a slot with a unit is one of them
pub within : (slots : Slotted) (n : ℕ) (u : UnitState) → unit_at slots n ≡ Some u → n < length slots
within [] n u e = cc
within (x ∷ xs) zero u e = omega arith
within (x ∷ xs) (suc n) u e = let h = within xs n u e in omega (arith, h)

-- ---- another number of references

unit-counted : (count : ℕ) (x : Option Object) → unit_of (with_count count x) ≡ unit_of x
unit-counted count None = refl
unit-counted count (Some o) = refl

values-counted : (count : ℕ) (x : Option Object) → values_of (with_count count x) ≡ values_of x
values-counted count None = refl
values-counted count (Some o) = refl

-- units and values stay as they are
pub unit-stays : (slots : Slotted) (n count m : ℕ) → n < length slots → unit_at (set slots n (with_count count (object_at slots n))) m ≡ unit_at slots m
unit-stays slots n count m lt = elim (cases_eq m n) [
  | inl same ↦ subst (λ k. unit_at (set slots n (with_count count (object_at slots n))) k ≡ unit_at slots k) (sym same) (at-same slots n (with_count count (object_at slots n)) lt ∙ unit-counted count (object_at slots n))
  | inr other ↦ at-other slots n m (with_count count (object_at slots n)) other
]

pub values-stay : (slots : Slotted) (n count m : ℕ) → n < length slots → values_of (object_at (set slots n (with_count count (object_at slots n))) m) ≡ values_of (object_at slots m)
values-stay slots n count m lt = elim (cases_eq m n) [
  | inl same ↦ subst (λ k. values_of (object_at (set slots n (with_count count (object_at slots n))) k) ≡ values_of (object_at slots k)) (sym same) (ap values_of (object-same slots n (with_count count (object_at slots n)) lt) ∙ values-counted count (object_at slots n))
  | inr other ↦ ap values_of (object-other slots n m (with_count count (object_at slots n)) other)
]
