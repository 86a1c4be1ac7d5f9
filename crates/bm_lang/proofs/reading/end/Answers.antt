use Rattle.std.proofs.Common.{refl}
use Rattle.bm_lang.specs.Grammar.{EndOfText}
use Rattle.bm_lang.proofs.Steps.{failed, fails_first, fails_behind, both, as_read, one}
use Rattle.bm_lang.proofs.Sorts.{no_end}
use Rattle.bm_lang.proofs.reading.end.Goals as goal

pub returns-in_err-close : goal.returns-in_err-close
returns-in_err-close c = λ names. failed _ _ _ _ _ _ _ _ _ c.from_residual.ensures.1 (fails_first _ _ _ _ _ (c.in_err-close.ensures names))

pub returns-in-End : goal.returns-in-End
returns-in-End c = λ names. let e = rw c.in-End.is at c.take-next.ensures.begins in as_read (both (c.in_ok-close.ensures names) (one names names EndOfText _ (Unit {0}) _ _ e refl tt)) refl (λ f. tt)

pub returns-in_default : goal.returns-in_default
returns-in_default c = λ names. fails_behind _ _ (c.in_ok-close.ensures names) (no_end _ _ names c.take-next.result _ c.take-next.ensures.begins c.in_default.not-End c.refused.ensures)
