use Rattle.std.proofs.Common.{[], refl, sym, ◌∙◌}
use Rattle.bm_lang.specs.Grammar.{NameOrNull}
use Rattle.bm_lang.proofs.Steps.{failed, one}
use Rattle.bm_lang.proofs.Stating.{no_name_or_null}
use Rattle.bm_lang.proofs.statements.name_or_null.Goals as goal

pub returns-in-Some : goal.returns-in-Some
returns-in-Some c = λ names. one names names NameOrNull _ _ _ _ c.in-Some.ensures refl tt

pub returns-in_err-name-in-None : goal.returns-in_err-name-in-None
returns-in_err-name-in-None c = λ names. failed _ _ _ _ _ _ _ _ _ c.from_residual.ensures.1 (no_name_or_null _ _ _ _ _ names [] c.in-None.ensures c.in_err-name-in-None.ensures)

pub returns-in_ok-name-in-None : goal.returns-in_ok-name-in-None
returns-in_ok-name-in-None c = λ names. one names names NameOrNull _ _ _ _ (sym c.in-None.ensures.stays ∙ c.in_ok-name-in-None.ensures) refl tt
