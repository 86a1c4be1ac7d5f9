use Rattle.std.proofs.Common.{refl}
use Rattle.bm_lang.specs.declared.keyword.Keyword.TheVariants as word
use Rattle.bm_lang.specs.Grammar.{Counted, is_word}
use Rattle.bm_lang.proofs.Steps.{one, absent, may_passed}
use Rattle.bm_lang.proofs.types.counted.Goals as goal

pub returns-in-Some : goal.returns-in-Some
returns-in-Some c = λ p types n. one _ _ Counted _ _ _ _ c.in-Some.ensures refl tt

pub returns-in-None : goal.returns-in-None
returns-in-None c = λ p types n. absent _ Counted (is_word word.Counted) _ _ (λ t h. may_passed _ _ h) c.in-None.ensures
