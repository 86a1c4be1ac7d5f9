use Rattle.std.proofs.Common.{length}
use Rattle.bm_graph.specs.Spending.{CanSpendItems, SpendsItems}
use Rattle.bm_graph.proofs.list.List.give_up.Given as goal

-- each item that is left can be spent, and once they are, all of them are
abbrev pub invariant-loop-item : goal.invariant-loop-item
invariant-loop-item g l =
    CanSpendItems g.S.Spend.can_spend g.S.Spend.spends l.items.items l.spender
    × ((t : g.row.S.Denot) → SpendsItems g.S.Spend.spends l.items.items l.spender t → SpendsItems g.S.Spend.spends l.fn.self.items l.fn.spender t)

abbrev pub decreases-loop-item : goal.decreases-loop-item
decreases-loop-item g l = length l.items.items
