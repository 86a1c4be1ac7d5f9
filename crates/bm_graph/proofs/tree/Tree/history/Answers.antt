use Rattle.bm_graph.proofs.Rows.{keys_ascend}
use Rattle.bm_graph.proofs.tree.Tree.history.Goals as goal

pub returns-clause-keys_ascend : goal.returns-clause-keys_ascend
returns-clause-keys_ascend g c = rw (← c.self.view_is) (keys_ascend c.self.inside.rows.rows c.self.invariant.keyed c.len-len.ensures.in_order)
