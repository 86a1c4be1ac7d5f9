use Rattle.std.proofs.Common.{◌-◌, ◌≡◌}
use Rattle.bm_page.specs.Kept.{IsWalk}
use Rattle.bm_page.proofs.pool.Pool.find_stock.Given as goal

abbrev pub invariant-loop-walk : goal.invariant-loop-walk
invariant-loop-walk l = record {
  same : l.self ≡ l.initial.self;
  walk : IsWalk l.class l.self l.walk;
  fresh : l.walk.fresh ≡ l.initial.walk.fresh;
}

abbrev pub decreases-loop-walk : goal.decreases-loop-walk
decreases-loop-walk l = l.walk.until - l.walk.from
