use Rattle.bm_generator.proofs.TextLemmas.{script_written}
use Rattle.bm_generator.proofs.scenario.put_scripts.Goals as goal

pub loop-processor-preserved : goal.loop-processor-preserved
loop-processor-preserved c =
    script_written _ _ _ c.loop-processor.processor c.args.count _ _ c.loop-processor-test.true c.in_ok-put_script.ensures.state c.in_ok-put_script.ensures.text c.loop-processor.invariant
