use Rattle.bm_graph.proofs.Spending.{first_can, rest_can, first_spent, none_spent}
use Rattle.bm_graph.proofs.Lists.{takes_first}
use Rattle.std.proofs.Common.{None}
use Rattle.bm_graph.proofs.list.List.give_up.Goals as goal

pub loop-item-init : goal.loop-item-init
loop-item-init g c = (rw (← c.self.view_is) at c.requires, λ t all. rw (← c.self.view_is) all)

pub spend-requires : goal.spend-requires
spend-requires g c =
    first_can g.S.Spend.can_spend g.S.Spend.spends c.loop-item.items.items c.pop_front.new.self.items c.in-Some.item c.loop-item.spender c.in-Some.ensures.items c.loop-item.invariant.0

pub loop-item-preserved : goal.loop-item-preserved
loop-item-preserved g c = (
  rest_can g.S.Spend.can_spend g.S.Spend.spends c.loop-item.items.items c.pop_front.new.self.items c.in-Some.item c.loop-item.spender c.spend.new.self c.in-Some.ensures.items c.loop-item.invariant.0 c.spend.ensures,
  λ t rest. c.loop-item.invariant.1 t (first_spent g.S.Spend.spends c.loop-item.items.items c.pop_front.new.self.items c.in-Some.item c.loop-item.spender c.spend.new.self t c.in-Some.ensures.items c.spend.ensures rest),
)

pub returns : goal.returns
returns g c =
    c.loop-item.invariant.1 c.loop-item.spender
    (none_spent g.S.Spend.spends c.loop-item.items.items c.loop-item.spender (takes_first c.loop-item.items.items c.pop_front.new.self.items None c.in_default.ensures.items c.in_default.ensures.rest).0)
