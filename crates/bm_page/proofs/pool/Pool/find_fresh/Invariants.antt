use Rattle.std.proofs.Common.{◌-◌, ◌≡◌, ℕ, ◌<◌, length}
use Rattle.std.specs.Prelude.{IsSome}
use Rattle.bm_page.specs.Stock.{class_at}
use Rattle.bm_page.proofs.pool.Pool.find_fresh.Given as goal

abbrev pub invariant-loop-walk : goal.invariant-loop-walk
invariant-loop-walk l = record {
  fresh : (p : ℕ) → p < l.walk.fresh → IsSome (class_at l.self-inside.classes.items p);
  from : l.walk.from ≡ l.initial.walk.from;
  until : l.walk.until ≡ l.initial.walk.until;
}

abbrev pub decreases-loop-walk : goal.decreases-loop-walk
decreases-loop-walk l = length l.self-inside.classes.items - l.walk.fresh
