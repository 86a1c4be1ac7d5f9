use Rattle.std.proofs.Common.{refl}
use Rattle.bm_lang.proofs.Steps.{failed, fails_first, fails_behind, both, as_read}
use Rattle.bm_lang.proofs.lines.at_line.Goals as goal

pub returns-in_err-processor-clause-read : goal.returns-in_err-processor-clause-read
returns-in_err-processor-clause-read c = λ types maps. failed _ _ _ _ _ _ _ _ _ c.from_residual.ensures.1 (fails_first _ _ _ _ _ (c.in_err-processor.ensures types maps _))

pub returns-in_err-step-clause-read : goal.returns-in_err-step-clause-read
returns-in_err-step-clause-read c = λ types maps. failed _ _ _ _ _ _ _ _ _ c.from_residual-in_err-step.ensures.1 (fails_behind _ _ (c.in_ok-processor.ensures types maps _) (fails_first _ _ _ _ _ (c.in_err-step.ensures _)))

pub returns-in_err-level-clause-read : goal.returns-in_err-level-clause-read
returns-in_err-level-clause-read c = λ types maps. failed _ _ _ _ _ _ _ _ _ c.from_residual-in_err-level.ensures.1 (fails_behind _ _ (c.in_ok-processor.ensures types maps _) (fails_behind _ _ (c.in_ok-step.ensures _) (fails_first _ _ _ _ _ (c.in_err-level.ensures _))))

pub returns-in_err-script-clause-read : goal.returns-in_err-script-clause-read
returns-in_err-script-clause-read c = λ types maps. failed _ _ _ _ _ _ _ _ _ c.from_residual-in_err-script.ensures.1 (fails_behind _ _ (c.in_ok-processor.ensures types maps _) (fails_behind _ _ (c.in_ok-step.ensures _) (fails_behind _ _ (c.in_ok-level.ensures _) (c.in_err-script.ensures _ types maps))))

pub returns-clause-read : goal.returns-clause-read
returns-clause-read c = λ types maps. as_read (both (c.in_ok-processor.ensures types maps _) (both (c.in_ok-step.ensures _) (both (c.in_ok-level.ensures _) (c.in_ok-script.ensures _ types maps)))) refl (λ f. record { processor = f.0; lowest = f.1.1.0.0; highest = f.1.1.0.1; script = f.1.1.1 })
