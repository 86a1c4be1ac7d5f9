use Rattle.std.proofs.Common.{[], ◌∷◌, refl}
use Rattle.bm_lang.specs.declared.keyword.Keyword.TheVariants as word
use Rattle.bm_lang.specs.Grammar.{PadOfType, PadBytes, is_word}
use Rattle.bm_lang.specs.Spelling.{reserved}
use Rattle.bm_lang.proofs.Steps.{failed, fails_shift, absent, may_passed, read_shift}
use Rattle.bm_lang.proofs.types.pad.Goals as goal

pub returns-in_err-pad_bytes-in-Some : goal.returns-in_err-pad_bytes-in-Some
returns-in_err-pad_bytes-in-Some c = λ p types n c' d fs. failed _ _ _ _ _ _ _ _ _ c.from_residual.ensures.1 (fails_shift _ _ _ _ _ _ PadOfType (PadBytes ∷ []) [] c.in-Some.ensures refl (c.in_err-pad_bytes-in-Some.ensures p types n c' d fs))

pub returns-in_ok-pad_bytes-in-Some : goal.returns-in_ok-pad_bytes-in-Some
returns-in_ok-pad_bytes-in-Some c = λ p types n c' d fs. read_shift _ _ _ PadOfType (PadBytes ∷ []) [] [] _ (reserved word.Pad) _ _ _ _ _ _ c.in-Some.ensures refl refl tt (c.in_ok-pad_bytes-in-Some.ensures p types n c' d fs) (λ f. f)

pub returns-in-None : goal.returns-in-None
returns-in-None c = λ p types n c' d fs. absent _ PadOfType (is_word word.Pad) _ _ (λ t h. may_passed _ _ h) c.in-None.ensures
