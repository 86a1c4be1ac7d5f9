-- Results of calls that went well.
use Rattle.std.proofs.Common.{◌≡◌, false, true, Result, Ok, Err, OnOk}
use Rattle.std.specs.Result.{is_err}

no-falsity : false ≡ true → ⊥
no-falsity e = cc

pub not-err : {X E : Type 0} (r : Result X E) (A : Type 0) → false ≡ is_err r → OnOk r A → A
not-err (Ok x) A e a = a
not-err (Err x) A e a = absurd (no-falsity e)
