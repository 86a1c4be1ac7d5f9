use Rattle.bm_lang.proofs.Printed.{on_ok_then}
use Rattle.bm_generator.proofs.TextLemmas.{round_written, turns_written}
use Rattle.bm_generator.proofs.scenario.put_turns.Goals as goal

pub loop-preserved : goal.loop-preserved
loop-preserved c = round_written _ _ _ c.args.count c.loop.counter c.loop.auto.counter c.loop-test.true c.in_ok-put_bytes-2.ensures c.loop.invariant

pub returns : goal.returns
returns c =
    on_ok_then c.put_bytes-2.result c.put_bytes-2.ensures (λ h. turns_written _ _ _ _ c.args.count c.loop.counter c.loop-test.false (c.loop.auto.counter-end c.requires) c.in_ok-put_bytes.ensures c.loop.invariant h)
