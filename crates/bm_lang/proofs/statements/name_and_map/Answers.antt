use Rattle.std.proofs.Common.{refl}
use Rattle.bm_lang.proofs.Steps.{failed, fails_first, fails_behind, both, as_read}
use Rattle.bm_lang.proofs.statements.name_and_map.Goals as goal

pub returns-in_err-name : goal.returns-in_err-name
returns-in_err-name c = λ p types scripts. failed _ _ _ _ _ _ _ _ _ c.from_residual.ensures.1 (fails_first _ _ _ _ _ (c.in_err-name.ensures _))

pub returns-in_err-map : goal.returns-in_err-map
returns-in_err-map c = λ p types scripts. failed _ _ _ _ _ _ _ _ _ c.from_residual-in_err-map.ensures.1 (fails_behind _ _ (c.in_ok-name.ensures _) (c.in_err-map.ensures p types scripts))

pub returns : goal.returns
returns c = λ p types scripts. as_read (both (c.in_ok-name.ensures _) (c.in_ok-map.ensures p types scripts)) refl (λ f. f.1)
