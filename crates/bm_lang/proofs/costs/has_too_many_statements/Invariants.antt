use Rattle.std.proofs.Common.{◌≡◌, false}
use Rattle.std.specs.Prelude.{nat_lt}
use Rattle.bm_lang.specs.Limits.{some_below, statements_of}
use Rattle.bm_lang.proofs.costs.has_too_many_statements.Given as goal

abbrev pub invariant-loop-processor : goal.invariant-loop-processor
invariant-loop-processor l = some_below l.processor (λ p. nat_lt 20000 (statements_of l.scenario p)) ≡ false
