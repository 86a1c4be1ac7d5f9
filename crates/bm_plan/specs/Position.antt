-- Where code is in a log of its processor, in which the handlers stand where they are due. (This project's own: it is what a
-- machine knows of its processor's log.)
use Rattle.std.specs.Prelude.{◌≡◌, ℕ, false, List, [], ◌∷◌, map, Some, None}
use Rattle.bm_lang.specs.declared.scenario.AtLine.{AtLine}
use Rattle.bm_lang.specs.declared.scenario.Script.{Script}
use Rattle.bm_law.specs.Lists.{Log}
use Rattle.bm_due.specs.Plan.{Plan}
use Rattle.bm_due.specs.Standing.{Standing, at_first, due_in, standing_after}
use Rattle.bm_due.specs.Told.{told_of}
use Rattle.bm_due.specs.declared.planned.Due.{Due}

pub record Position : Type 0 where
  -- the names of the scenario's scripts, and the handlers that it plans for the processor
  pub names : List (List ℕ)
  pub lines : List AtLine
  -- those that haven't run, and whether the processor has ended
  pub plan : Plan
  -- the handlers that run, each of which interrupts the next one of this list, and the last one ordinary code
  pub running : List Due

-- the names of scripts
abbrev pub names_in : List Script → List (List ℕ)
names_in scripts = map (λ (x : Script). x.name) scripts

-- the level of the code that runs
abbrev pub level_in : List Due → ℕ
level_in [] = 0
level_in (due ∷ dues) = due.level

-- before the log
abbrev pub outset : List (List ℕ) → List AtLine → Position
outset names lines =
    record {
      names = names;
      lines = lines;
      plan = record { left = lines; ended = false };
      running = [];
    }

-- once a handler has begun, which leaves this plan
abbrev pub within : Due → Plan → Position → Position
within due plan p = record p { plan = plan; running = due ∷ p.running }

-- The log stands, where these handlers are planned, and behind it the processor is here.
pub record Reaches (p : Position) (log : Log) (s : Standing) : Type 0 where
  pub stands : standing_after p.names log (Some (at_first p.lines)) ≡ Some s
  pub running : map told_of s.running ≡ p.running
  pub left : s.left ≡ p.plan.left
  pub ended : s.ended ≡ p.plan.ended

-- The code that runs goes on: it may take a step once it has asked which handler is due.
pub record AboutTo (p : Position) (log : Log) : Type 0 where
  pub standing : Standing
  pub reaches : Reaches p log standing

-- The same, and no handler has just gone back: it may also leave an entry that is no step.
pub record StandsAt (p : Position) (log : Log) : Type 0 where
  pub standing : Standing
  pub reaches : Reaches p log standing
  pub no_return : standing.resumes ≡ false

-- It has asked, and none is due: it takes a step.
pub record AskedAt (p : Position) (log : Log) : Type 0 where
  pub standing : Standing
  pub reaches : Reaches p log standing
  pub none_due : due_in standing ≡ None
