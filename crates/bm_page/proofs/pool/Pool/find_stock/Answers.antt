use Rattle.bm_page.proofs.WalkLemmas.{least_stock-is, least_stock-none, IsWalk-none}
use Rattle.bm_page.proofs.pool.Pool.find_stock.Goals as goal

pub returns-in-Some-clause-least : goal.returns-in-Some-clause-least
returns-in-Some-clause-least c =
    rw (← c.loop-walk.invariant.same)
    (least_stock-is c.args.class c.loop-walk.self c.loop-walk.walk c.in-Some.number c.loop-walk.invariant.walk c.in-Some.ensures.found)

pub returns-clause-least : goal.returns-clause-least
returns-clause-least c =
    rw (← c.loop-walk.invariant.same)
    (least_stock-none c.args.class c.loop-walk.self (IsWalk-none c.args.class c.loop-walk.self c.loop-walk.walk c.loop-walk.invariant.walk c.loop-walk-test.false))
