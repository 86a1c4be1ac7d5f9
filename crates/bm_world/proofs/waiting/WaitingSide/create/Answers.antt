use Rattle.bm_world.proofs.Cleared.{none-kept}
use Rattle.bm_world.proofs.waiting.WaitingSide.create.Goals as goal

pub invariant_of-result : goal.invariant_of-result
invariant_of-result c = none-kept c.args.side.post c.args.side.grace.plain.number c.args.side.grace.tracing.number c.fill.new.waits.items c.fill.ensures
