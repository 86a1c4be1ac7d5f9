use Rattle.std.proofs.Common.{refl}
use Rattle.bm_lang.proofs.Steps.{failed, fails_first, fails_behind, both, as_read}
use Rattle.bm_lang.proofs.statements.two_names.Goals as goal

pub returns-in_err-first : goal.returns-in_err-first
returns-in_err-first c = λ names. failed _ _ _ _ _ _ _ _ _ c.from_residual.ensures.1 (fails_first _ _ _ _ _ (c.in_err-first.ensures names))

pub returns-in_err-second : goal.returns-in_err-second
returns-in_err-second c = λ names. failed _ _ _ _ _ _ _ _ _ c.from_residual-in_err-second.ensures.1 (fails_behind _ _ (c.in_ok-first.ensures names) (c.in_err-second.ensures names))

pub returns : goal.returns
returns c = λ names. as_read (both (c.in_ok-first.ensures names) (c.in_ok-second.ensures names)) refl (λ f. tt)
