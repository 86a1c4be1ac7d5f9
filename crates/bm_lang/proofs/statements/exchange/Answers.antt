use Rattle.std.proofs.Common.{[], ◌∷◌, refl}
use Rattle.bm_lang.specs.declared.names.MapNeed.TheVariants as need
use Rattle.bm_lang.specs.Grammar.{AnyName, MapOf, NameOrNull}
use Rattle.bm_lang.proofs.Steps.{failed, fails_front, fails_going, as_read, more, going}
use Rattle.bm_lang.proofs.statements.exchange.Goals as goal

pub returns-in_err-name : goal.returns-in_err-name
returns-in_err-name c = λ p types scripts. failed _ _ _ _ _ _ _ _ _ c.from_residual.ensures.1 (fails_front _ _ (AnyName ∷ MapOf need.Slot ∷ []) (NameOrNull ∷ []) _ (c.in_err-name.ensures p types scripts))

pub returns-in_err-given : goal.returns-in_err-given
returns-in_err-given c = λ p types scripts. failed _ _ _ _ _ _ _ _ _ c.from_residual-in_err-given.ensures.1 (fails_going _ (more (NameOrNull ∷ []) (c.in_ok-name.ensures p types scripts)) (c.in_err-given.ensures _))

pub returns : goal.returns
returns c = λ p types scripts. as_read (going (more (NameOrNull ∷ []) (c.in_ok-name.ensures p types scripts)) (c.in_ok-given.ensures _) (λ f u. f)) refl (λ f. f)
