-- The numbers of grace periods over an order. (rcu_seq_start and rcu_seq_end of kernel/rcu/rcu.h: a number is odd while a period is
-- in progress.)
use Rattle.std.specs.Prelude.{◌≤◌, ℕ}
use Rattle.bm_journal.specs.declared.ids.Domain.{Domain}
use Rattle.bm_law_lives.specs.GraceLaw.{begun_number, ended_number}
use Rattle.bm_law_order.specs.Orders.{Order}
use Rattle.bm_law_laid.specs.Once.{Even, Odd, Once, named_by}

-- An order leads a domain from one number to another: periods begin with the odd numbers above the first and not above the second,
-- each once, and end with the even ones.
pub record AreNumbered (d : Domain) (from to : ℕ) (o : Order) : Type 0 where
  pub grows : from ≤ to
  pub begun : Once Odd from to (named_by (begun_number d) o)
  pub ended : Once Even from to (named_by (ended_number d) o)
