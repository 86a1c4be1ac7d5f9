-- Orders of the entries of some logs. (This project's own: journals are.)
use Rattle.std.specs.Prelude.{◌≡◌, ◌<◌, ℕ, List, [], ◌∷◌, get_or, length}
use Rattle.bm_law.specs.Lists.{Log}
use Rattle.bm_law_order.specs.Orders.{Order, part_of}

-- each entry is one of the first n processors
abbrev pub AllBelow : ℕ → Order → Type 0
AllBelow n [] = Unit {0}
AllBelow n (e ∷ es) = (e.processor < n) × AllBelow n es

-- The entries of the order are those of the logs, of each log in its order, where the log of processor p is the p-th one.
pub record IsOrderOf (logs : List Log) (o : Order) : Type 0 where
  pub below : AllBelow (length logs) o
  pub parts : (p : ℕ) → p < length logs → part_of p o ≡ get_or logs p []
