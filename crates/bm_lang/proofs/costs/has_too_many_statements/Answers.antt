use Rattle.std.proofs.Common.{sym, arith, ◌+◌}
use Rattle.std.specs.Prelude.{nat_lt}
use Rattle.bm_lang.specs.Limits.{statements_of}
use Rattle.bm_lang.proofs.Costing.{some_at, many, few, none_more}
use Rattle.bm_lang.proofs.costs.has_too_many_statements.Goals as goal

pub returns-then-runs-ats-ge-MANY : goal.returns-then-runs-ats-ge-MANY
returns-then-runs-ats-ge-MANY c =
    let r = rw (c.as_slice.ensures, c.as_slice-in-loop-processor.ensures) at c.run_cost-runs.ensures in
    let a = rw (c.as_slice-in-loop-processor-2.ensures, c.as_slice-in-loop-processor-3.ensures) at c.at_cost-ats.ensures in
    sym (some_at c.args.scenario.now.processors c.loop-processor.processor (λ p. nat_lt 20000 (statements_of c.args.scenario.now p)) c.loop-processor-test.true (many _ _ _ _ r a c.if-runs-ats-ge-MANY.true))

pub loop-processor-preserved : goal.loop-processor-preserved
loop-processor-preserved c =
    let r = rw (c.as_slice.ensures, c.as_slice-in-loop-processor.ensures) at c.run_cost-runs.ensures in
    let a = rw (c.as_slice-in-loop-processor-2.ensures, c.as_slice-in-loop-processor-3.ensures) at c.at_cost-ats.ensures in
    none_more c.loop-processor.processor (c.loop-processor.processor + 1) (λ p. nat_lt 20000 (statements_of c.args.scenario.now p)) (omega arith) c.loop-processor.invariant (few _ _ _ _ r a c.if-runs-ats-ge-MANY.false)
