use Rattle.bm_lang.proofs.Costing.{block_total}
use Rattle.bm_lang.proofs.costs.+costs.Goals as goal

pub block_cost-returns : goal.block_cost-returns
block_cost-returns t c = block_total c.args.block.now c.deref-statement-items.result.now c.loop-statement.statement-index c.loop-statement.total c.deref-statement-items.ensures.value c.loop-statement-test.false c.loop-statement.invariant
