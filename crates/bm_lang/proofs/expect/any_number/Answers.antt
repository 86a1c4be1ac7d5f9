use Rattle.std.proofs.Common.{rules, refl, []}
use Rattle.bm_lang.specs.Grammar.{AnyNumber}
use Rattle.bm_lang.proofs.Steps.{reading, read_shift, read_nothing}
use Rattle.bm_lang.proofs.expect.any_number.Goals as goal

pub returns-in_err-number : goal.returns-in_err-number
returns-in_err-number c = λ names. search (rules, reading)

pub returns : goal.returns
returns c = λ names. read_shift names names names AnyNumber [] [] [] _ _ _ _ _ _ _ _ c.in_ok-number.ensures refl refl tt (read_nothing _ _ _ _ refl) (λ f. f)
