use Rattle.std.proofs.Common.{refl}
use Rattle.bm_lang.proofs.Steps.{failed, fails_first, fails_behind, both, as_read}
use Rattle.bm_lang.proofs.lines.run_line.Goals as goal

pub returns-in_err-processor-clause-read : goal.returns-in_err-processor-clause-read
returns-in_err-processor-clause-read c = λ types maps. failed _ _ _ _ _ _ _ _ _ c.from_residual.ensures.1 (fails_first _ _ _ _ _ (c.in_err-processor.ensures types maps _))

pub returns-in_err-script-clause-read : goal.returns-in_err-script-clause-read
returns-in_err-script-clause-read c = λ types maps. failed _ _ _ _ _ _ _ _ _ c.from_residual-in_err-script.ensures.1 (fails_behind _ _ (c.in_ok-processor.ensures types maps _) (c.in_err-script.ensures _ types maps))

pub returns-clause-read : goal.returns-clause-read
returns-clause-read c = λ types maps. as_read (both (c.in_ok-processor.ensures types maps _) (c.in_ok-script.ensures _ types maps)) refl (λ f. record { processor = f.0; script = f.1 })
