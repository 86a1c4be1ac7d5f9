-- The lives that an order gives a unit. (That lives are counted is this project's own.)
use Rattle.std.specs.Prelude.{◌≤◌, ℕ, List}
use Rattle.bm_journal.specs.declared.entry.Entry.{Entry}
use Rattle.bm_law_lives.specs.Together.{beside}
use Rattle.bm_law_lives.specs.Lives.{given_object}
use Rattle.bm_law_order.specs.Orders.{Order}
use Rattle.bm_law_laid.specs.Once.{Any, Once, named_by}

-- the life of unit u that an entry gives
abbrev pub life_given : ℕ → Entry → List ℕ
life_given u e = beside u (given_object e)

-- An order leads a unit from so many lives to so many: it is given each of those between once, and no other.
pub record AreGiven (u from to : ℕ) (o : Order) : Type 0 where
  pub grows : from ≤ to
  pub given : Once Any from to (named_by (life_given u) o)
