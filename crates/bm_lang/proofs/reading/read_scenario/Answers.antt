use Rattle.std.proofs.Common.{Ok}
use Rattle.bm_lang.proofs.Steps.{failed}
use Rattle.bm_lang.proofs.Complete.{reads_only, bad_fault, fine_found, found_read}
use Rattle.bm_lang.proofs.reading.read_scenario.Goals as goal

pub returns-in_err-parts-clause-only : goal.returns-in_err-parts-clause-only
returns-in_err-parts-clause-only c = λ s h. reads_only c.from_residual.result c.args.bytes.now s (failed _ _ _ _ _ _ _ _ _ c.from_residual.ensures.1 c.in_err-parts.ensures) h

pub returns-in_err-parts-clause-fault : goal.returns-in_err-parts-clause-fault
returns-in_err-parts-clause-fault c = bad_fault c.from_residual.result c.args.bytes.now (failed _ _ _ _ _ _ _ _ _ c.from_residual.ensures.1 c.in_err-parts.ensures)

pub new-requires : goal.new-requires
new-requires c = fine_found (Ok c.in_ok-parts.parts) c.args.bytes.now (found_read (Ok c.in_ok-parts.parts) c.args.bytes.now c.in_ok-parts.ensures)
