-- A log that has grown by a part.
use Rattle.std.specs.Prelude.{◌≡◌, ℕ, ◌++◌, Option, Some, None}
use Rattle.bm_law.specs.State.{State}
use Rattle.bm_law.specs.Lists.{Log}
use Rattle.bm_law_work.specs.Parts.{Part}

-- A log was told, and it has grown by such a part, which begins with the lists s.
pub record GrewPart (P : Part) (s : State ℕ) (before : Option Log) (now : Log) : Type 0 where
  pub log : Log
  pub told : before ≡ Some log
  pub added : Log
  pub now_is : now ≡ log ++ added
  pub is_part : P s added

-- the same, where the log is told now
abbrev pub GrewBy : Part → State ℕ → Option Log → Option Log → Type 0
GrewBy P s before None = Unit {0}
GrewBy P s before (Some now) = GrewPart P s before now
