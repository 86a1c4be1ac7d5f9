use Rattle.std.proofs.Common.{◌<◌, ◌≤◌, ℕ, map}
use Rattle.std.specs.List.{All}
use Rattle.bm_law.specs.Stands.{times}
use Rattle.bm_cache.specs.Each.{Sits}
use Rattle.bm_cache.specs.Tokens.{Token, number_of}
use Rattle.bm_tests_machine.proofs.work_tests.between.Given as goal

abbrev pub invariant-units : goal.invariant-units
invariant-units g l = record {
  most : l.number ≤ l.below;
  sit : All (Sits 0) l.taken.items;
  once : (n : ℕ) → times n (map number_of l.taken.items) ≤ 1;
  within : All (λ (u : Token). (l.floor ≤ u.number) × (u.number < l.below)) l.taken.items;
  above : All (λ (u : Token). l.number ≤ u.number) l.taken.items;
}

abbrev pub decreases-units : goal.decreases-units
decreases-units g l = l.number
