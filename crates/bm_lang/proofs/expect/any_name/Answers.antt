use Rattle.std.proofs.Common.{rules, refl, []}
use Rattle.bm_lang.specs.Grammar.{AnyName}
use Rattle.bm_lang.proofs.Steps.{reading, read_shift, read_nothing}
use Rattle.bm_lang.proofs.expect.any_name.Goals as goal

pub returns-in_err-name : goal.returns-in_err-name
returns-in_err-name c = λ names. search (rules, reading)

pub returns : goal.returns
returns c = λ names. read_shift names names names AnyName [] [] [] _ _ _ _ _ _ _ _ c.in_ok-name.ensures refl refl tt (read_nothing _ _ _ _ refl) (λ f. f)
