use Rattle.std.proofs.Common.{subst, ◌≤◌}
use Rattle.bm_world.specs.Graphs.{items_in}
use Rattle.bm_world.specs.LivingState.{LivingState}
use Rattle.bm_world.proofs.FewItems.{few-items}
use Rattle.bm_world.proofs.living.LivingSide.few_items.Goals as goal

pub returns : goal.returns
returns c =
    let i = c.self.inside in
    subst (λ (w : LivingState). items_in w.graphs ≤ 65536) c.self.view_is (few-items i.slots.slots.items i.graphs 65536 c.self.invariant.0.size c.each_once.ensures c.self.invariant.2)
