-- Where the code of a machine is, and what a handler leaves as it was. (This project's own.)
use Rattle.std.specs.Prelude.{◌≡◌, ◌≤◌, ℕ, List, reverse, length, Option, IfSome}
use Rattle.bm_lang.specs.declared.scenario.Parts.{Parts}
use Rattle.bm_law.specs.Lists.{Log}
use Rattle.bm_due.specs.Due.{planned_for}
use Rattle.bm_due.specs.Plan.{Plan}
use Rattle.bm_due.specs.declared.planned.Due.{Due}
use Rattle.bm_plan.specs.Position.{AboutTo, AskedAt, Position, StandsAt, level_in, names_in}

-- the position of processor p of a scenario, where so many handlers haven't run, and these run, the innermost last
abbrev pub position_of : ℕ → Parts → Plan → List Due → Position
position_of p s plan running =
    record {
      names = names_in s.scripts;
      lines = planned_for p s;
      plan = plan;
      running = reverse running;
    }

-- Code of level l runs behind the log, if that is told, and hasn't just been interrupted; it has asked and takes its next step;
-- it is about to take one.
pub record Running (P : Position → Log → Type 0) (l p : ℕ) (s : Parts) (plan : Plan)
    (running : List Due) (log : Option Log) : Type 0 where
  pub at : IfSome log (P (position_of p s plan running))
  pub level : level_in (reverse running) ≡ l
  pub deep : length running ≤ l

abbrev pub Stands : ℕ → ℕ → Parts → Plan → List Due → Option Log → Type 0
Stands = Running StandsAt

abbrev pub Asked : ℕ → ℕ → Parts → Plan → List Due → Option Log → Type 0
Asked = Running AskedAt

abbrev pub Turns : ℕ → ℕ → Parts → Plan → List Due → Option Log → Type 0
Turns = Running AboutTo
