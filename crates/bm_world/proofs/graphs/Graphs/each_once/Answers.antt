use Rattle.std.proofs.Common.{subst, ◌≤◌, ℕ, List}
use Rattle.bm_law_order.specs.Graphs.{NamedGraph}
use Rattle.bm_world.specs.Graphs.{times_in}
use Rattle.bm_world.proofs.graphs.Graphs.each_once.Goals as goal

pub returns : goal.returns
returns c = subst (λ (gs : List NamedGraph). (u : ℕ) → times_in u gs ≤ 1) c.self.view_is c.self.invariant.once
