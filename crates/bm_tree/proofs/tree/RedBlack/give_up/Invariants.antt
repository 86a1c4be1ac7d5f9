use Rattle.std.proofs.Common.{length}
use Rattle.bm_tree.specs.Spending.{CanSpendAll, SpendsAll}
use Rattle.bm_tree.proofs.tree.RedBlack.give_up.Given as goal

-- each row that is left can be spent, and once they are, all of them are
abbrev pub invariant-loop-key : goal.invariant-loop-key
invariant-loop-key g l =
    CanSpendAll g.S.Spend.can_spend g.S.Spend.spends l.tree.rows l.spender
    × ((t : g.row.S.Denot) → SpendsAll g.S.Spend.spends l.tree.rows l.spender t → SpendsAll g.S.Spend.spends l.fn.self.rows l.fn.spender t)

abbrev pub decreases-loop-key : goal.decreases-loop-key
decreases-loop-key g l = length l.tree.rows
