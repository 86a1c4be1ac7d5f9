use Rattle.bm_graph.proofs.Spending.{rows_can, rows_spent}
use Rattle.bm_graph.proofs.tree.Tree.give_up.Goals as goal

pub give_up-requires : goal.give_up-requires
give_up-requires g c =
    rows_can g.S.Spend.can_spend g.S.Spend.spends c.self.inside.rows.rows c.args.spender.now c.self.invariant.keyed (rw (← c.self.view_is) at c.requires)

pub returns : goal.returns
returns g c =
    rw (← c.self.view_is) (rows_spent g.S.Spend.spends c.self.inside.rows.rows c.args.spender.now c.give_up.new.spender c.self.invariant.keyed c.give_up.ensures)
