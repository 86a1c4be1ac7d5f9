use Rattle.std.proofs.Common.{◌≡◌, ℕ, ◌+◌, ◌≤◌, ◌<◌, true}
use Rattle.bm_page.specs.Stock.{stocked_at}
use Rattle.bm_page.proofs.pool.position_in_stock.Given as goal

abbrev pub invariant-loop-position : goal.invariant-loop-position
invariant-loop-position l =
    (k : ℕ) → l.low ≤ k → k < l.position → (stocked_at l.units (l.first + k)).out ≡ true
