-- Results, slices that were read, and the log that a recorder tells.
use Rattle.std.proofs.Common.{◌≡◌, ◌<◌, ◌≤◌, ℕ, suc, zero, List, [], ◌∷◌, length, slice_index_or, slice_get, refl, sym, ap, arith, true, false, Option, Some, None, Result, Ok, Err, IfOk, OnOk, IsSome}
use Rattle.std.specs.Option.{ok_or}
use Rattle.std.specs.Result.{is_err}

pub if-ok : {X E : Type 0} (r : Result X E) (P Q : X → Type 0) → IfOk r P → ((x : X) → P x → Q x) → IfOk r Q
if-ok (Ok x) P Q h f = f x h
if-ok (Err e) P Q h f = tt

pub both-if-ok : {X E : Type 0} (r : Result X E) (P Q S : X → Type 0) → IfOk r P → IfOk r Q → ((x : X) → P x → Q x → S x) → IfOk r S
both-if-ok (Ok x) P Q S h k f = f x h k
both-if-ok (Err e) P Q S h k f = tt

pub if-told : {X E : Type 0} (o : Option X) (e : E) (P : X → Type 0) → ((x : X) → o ≡ Some x → P x) → IfOk (ok_or o e) P
if-told None e P f = tt
if-told (Some x) e P f = f x refl

no-falsity : false ≡ true → ⊥
no-falsity e = cc

pub not-err : {X E : Type 0} (r : Result X E) (A : Type 0) → false ≡ is_err r → OnOk r A → A
not-err (Ok x) A e a = a
not-err (Err x) A e a = absurd (no-falsity e)

pub on-ok : {X E : Type 0} (r : Result X E) (A B : Type 0) → OnOk r A → (A → B) → OnOk r B
on-ok (Ok x) A B a f = f a
on-ok (Err e) A B a f = tt

pub not-there : {A : Type 0} (xs : List A) (i : ℕ) → length xs ≤ i → IsSome (slice_get xs i) → ⊥
not-there [] i le h = cc
not-there (x ∷ xs) zero le h = absurd (omega (arith, le))
not-there (x ∷ xs) (suc i) le h = not-there xs i (omega (arith, le)) h

pub get-is : {A : Type 0} (xs : List A) (i : ℕ) (x : A) → i < length xs → x ≡ slice_index_or xs i x → slice_get xs i ≡ Some x
get-is [] i x lt e = absurd (omega arith)
get-is (y ∷ ys) zero x lt e = ap Some (sym e)
get-is (y ∷ ys) (suc i) x lt e = get-is ys i x (omega arith) e

pub both-on-ok : {X E : Type 0} (r : Result X E) (A B C : Type 0) → OnOk r A → OnOk r B → (A → B → C) → OnOk r C
both-on-ok (Ok x) A B C a b f = f a b
both-on-ok (Err e) A B C a b f = tt

pub and-ok : {X E : Type 0} (r : Result X E) (A B : Type 0) → OnOk r A → OnOk r B → OnOk r (A × B)
and-ok (Ok x) A B a b = (a, b)
and-ok (Err e) A B a b = tt
