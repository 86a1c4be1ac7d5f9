use Rattle.std.proofs.Common.{refl}
use Rattle.std.specs.Prelude.{map}
use Rattle.bm_lang.specs.Spelling.{script_form, spell_run}
use Rattle.bm_lang.proofs.Listed.{one_line_at}
use Rattle.bm_lang.proofs.listing.put_runs.Goals as goal

pub loop-run-preserved : goal.loop-run-preserved
loop-run-preserved c = one_line_at (spell_run (map script_form c.args.scripts.now)) _ _ _ c.args.runs.now c.loop-run.run-index _ c.loop-run-test.true refl c.loop-run.invariant c.in_ok-put_run.ensures
