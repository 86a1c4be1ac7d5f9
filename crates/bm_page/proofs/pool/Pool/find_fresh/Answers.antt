use Rattle.std.proofs.Common.{rules, arith}
use Rattle.bm_page.specs.Stock.{Stock}
use Rattle.bm_page.proofs.WalkLemmas.{lowest_page-is, lowest_page-none}
use Rattle.bm_page.proofs.pool.Pool.find_fresh.Goals as goal

pub returns-then-is_none-clause-lowest : goal.returns-then-is_none-clause-lowest
returns-then-is_none-clause-lowest c =
    let pool : Stock = record { classes = c.self.inside.classes.items; units = c.self.inside.units.items } in
    rw (← c.self.view_is)
    (lowest_page-is pool c.loop-walk.walk.fresh (omega arith) (search rules) c.loop-walk.invariant.fresh)

pub returns-clause-lowest : goal.returns-clause-lowest
returns-clause-lowest c =
    let pool : Stock = record { classes = c.self.inside.classes.items; units = c.self.inside.units.items } in
    rw (← c.self.view_is)
    (lowest_page-none pool c.loop-walk.walk.fresh (omega arith) c.loop-walk.invariant.fresh)
