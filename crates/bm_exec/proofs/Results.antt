-- Results, and slices that were read.
use Rattle.std.proofs.Common.{◌≡◌, ◌<◌, ℕ, suc, zero, List, [], ◌∷◌, length, slice_index_or, slice_get, sym, ap, arith, Some, Result, Ok, Err, OnOk, true, false}
use Rattle.std.specs.Result.{is_err}

pub on-ok : {X E : Type 0} (r : Result X E) (A B : Type 0) → OnOk r A → (A → B) → OnOk r B
on-ok (Ok x) A B a f = f a
on-ok (Err e) A B a f = tt

pub both-ok : {X E : Type 0} (r : Result X E) (A B : Type 0) → OnOk r A → OnOk r B → OnOk r (A × B)
both-ok (Ok x) A B a b = (a, b)
both-ok (Err e) A B a b = tt

pub ok-any : {X E : Type 0} (r : Result X E) (A : Type 0) → A → OnOk r A
ok-any (Ok x) A a = a
ok-any (Err e) A a = tt

pub get-is : {A : Type 0} (xs : List A) (i : ℕ) (x : A) → i < length xs → x ≡ slice_index_or xs i x → slice_get xs i ≡ Some x
get-is [] i x lt e = absurd (omega arith)
get-is (y ∷ ys) zero x lt e = ap Some (sym e)
get-is (y ∷ ys) (suc i) x lt e = get-is ys i x (omega arith) e

no-falsity : false ≡ true → ⊥
no-falsity e = cc

pub not-err : {X E : Type 0} (r : Result X E) (A : Type 0) → false ≡ is_err r → OnOk r A → A
not-err (Ok x) A e a = a
not-err (Err x) A e a = absurd (no-falsity e)
