-- Lemmas on bytes taken off the front of those left.
use Rattle.std.proofs.Common.{◌+◌, ◌<◌, ℕ, List, None, Some, length, length-append, ap, arith}
use Rattle.std.specs.declared.option.Option.{Option}
use Rattle.std.specs.Prelude.{IfSome}
use Rattle.bm_text.specs.Whole.{TakesCount}

-- where more bytes than a limit are taken, more were left
pub TakesCount-over : (old new : Option (List ℕ)) (limit : ℕ) (P : Type 0) → (P → TakesCount old new (limit + 1)) → IfSome old (λ left. P → limit < length left)
TakesCount-over None new limit P taken = tt
TakesCount-over (Some left) None limit P taken = λ p. absurd ((taken p).1)
TakesCount-over (Some left) (Some rest) limit P taken = λ p. let t = taken p in omega (arith, ap length t.1, length-append t.0 rest, t.2)
