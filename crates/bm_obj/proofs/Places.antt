-- One place of a list is written.
use Rattle.std.proofs.Common.{◌≡◌, ◌≢◌, ℕ, suc, zero, ◌<◌, List, [], ◌∷◌, length, refl, sym, ap, subst, inl, inr, Option, Some, None, arith, set, slice_get}
use Rattle.std.proofs.lemmas.Bool.Decides.{eqb_tells}
use mathlib.Core.Path.{fun_ext}
use Rattle.bm_obj.specs.Known.{at_unit}
use Rattle.bm_obj.specs.Table.{changed, object_at, object_in}
use Rattle.bm_obj.specs.declared.object.Object.{Object}
use Rattle.bm_obj.specs.declared.object.UnitPlace.{UnitPlace}
use Rattle.bm_obj.specs.declared.object.UnitPlace.TheVariants.{Free, Lives}

pub get-same : {A : Type 0} (xs : List A) (i : ℕ) (x : A) → i < length xs → slice_get (set xs i x) i ≡ Some x
get-same [] i x lt = absurd (omega arith)
get-same (y ∷ ys) zero x lt = refl
get-same (y ∷ ys) (suc i) x lt = get-same ys i x (omega arith)

pub get-other : {A : Type 0} (xs : List A) (i j : ℕ) (x : A) → j ≢ i → slice_get (set xs i x) j ≡ slice_get xs j
get-other [] i j x ne = refl
get-other (y ∷ ys) zero zero x ne = absurd (ne refl)
get-other (y ∷ ys) zero (suc j) x ne = refl
get-other (y ∷ ys) (suc i) zero x ne = refl
get-other (y ∷ ys) (suc i) (suc j) x ne = get-other ys i j x (λ e. ne (ap suc e))

pub get-within : {A : Type 0} (xs : List A) (i : ℕ) (x : A) → slice_get xs i ≡ Some x → i < length xs
get-within [] i x e = absurd (cc)
get-within (y ∷ ys) zero x e = omega arith
get-within (y ∷ ys) (suc i) x e = let h = get-within ys i x e in omega (arith, h)

-- what is told of each place by a function of its number and what is there, once one place is written
pub told-set : {A B : Type 0} (g : ℕ → Option A → B) (xs : List A) (u : ℕ) (x : A) → u < length xs → (λ n. g n (slice_get (set xs u x) n)) ≡ at_unit u (g u (Some x)) (λ n. g n (slice_get xs n))
told-set {A} {B} g xs u x lt = fun_ext (λ n. elim (eqb_tells u n) [
  | inl y ↦ (let F : ℕ → Type 0 = λ k. g k (slice_get (set xs u x) k) ≡ g u (Some x) in let h : F n = subst F y.1 (ap (g u) (get-same xs u x lt)) in rw y.0 h)
  | inr y ↦ (let h : g n (slice_get (set xs u x) n) ≡ g n (slice_get xs n) = ap (g n) (get-other xs u n x (λ q. y.1 (sym q))) in rw y.0 h)
])

-- .. and a value that it has already, written once more
pub told-same : {B : Type 0} (u : ℕ) (x : B) (f : ℕ → B) → f u ≡ x → at_unit u x f ≡ f
told-same u x f e = fun_ext (λ n. elim (eqb_tells u n) [
  | inl y ↦ (let F : ℕ → Type 0 = λ k. x ≡ f k in let h : F n = subst F y.1 (sym e) in rw y.0 h)
  | inr y ↦ rw y.0 refl
])

-- a place with an object is one of them
pub place-of : (places : List UnitPlace) (n : ℕ) (object : Object) → object_at places n ≡ Some object → slice_get places n ≡ Some (Lives object)
place-of places n object e = go (slice_get places n) e
  where
    go : (p : Option UnitPlace) → object_in p ≡ Some object → p ≡ Some (Lives object)
    go None e = absurd (cc)
    go (Some (Free begun)) e = absurd (cc)
    go (Some (Lives other)) e = cc

pub object-within : (places : List UnitPlace) (n : ℕ) (object : Object) → object_at places n ≡ Some object → n < length places
object-within places n object e = get-within places n (Lives object) (place-of places n object e)

-- an object that is there, changed
pub changed-is : (places : List UnitPlace) (n : ℕ) (f : Object → Object) (object : Object) → object_at places n ≡ Some object → changed n f places ≡ set places n (Lives (f object))
changed-is places n f object e = rw (place-of places n object e) refl

-- the objects once one place is written
pub at-set : (places : List UnitPlace) (u : ℕ) (p : UnitPlace) → u < length places → object_at (set places u p) u ≡ object_in (Some p)
at-set places u p lt = ap object_in (get-same places u p lt)

pub at-others : (places : List UnitPlace) (u n : ℕ) (p : UnitPlace) → n ≢ u → object_at (set places u p) n ≡ object_at places n
at-others places u n p ne = ap object_in (get-other places u n p ne)
