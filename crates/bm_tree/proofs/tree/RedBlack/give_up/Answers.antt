use Rattle.bm_tree.proofs.Spending.{first_can, rest_can, first_spent, none_spent}
use Rattle.bm_tree.proofs.tree.RedBlack.give_up.Goals as goal

pub loop-key-init : goal.loop-key-init
loop-key-init g c = (c.requires, λ t all. all)

pub spend-requires : goal.spend-requires
spend-requires g c =
    first_can g.S.Spend.can_spend g.S.Spend.spends c.loop-key.tree.rows c.pop_least.new.self.rows (c.in-Some.key, c.in-Some.item) c.loop-key.spender c.in-Some.ensures.popped c.loop-key.invariant.0

pub loop-key-preserved : goal.loop-key-preserved
loop-key-preserved g c = (
  rest_can g.S.Spend.can_spend g.S.Spend.spends c.loop-key.tree.rows c.pop_least.new.self.rows (c.in-Some.key, c.in-Some.item) c.loop-key.spender c.spend.new.self c.in-Some.ensures.popped c.loop-key.invariant.0 c.spend.ensures,
  λ t rest. c.loop-key.invariant.1 t (first_spent g.S.Spend.spends c.loop-key.tree.rows c.pop_least.new.self.rows (c.in-Some.key, c.in-Some.item) c.loop-key.spender c.spend.new.self t c.in-Some.ensures.popped c.spend.ensures rest),
)

pub returns : goal.returns
returns g c = c.loop-key.invariant.1 c.loop-key.spender (none_spent g.S.Spend.spends c.loop-key.tree.rows c.loop-key.spender c.in_default.ensures.popped)
