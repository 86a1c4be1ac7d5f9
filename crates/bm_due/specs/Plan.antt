-- What contracts see of the handlers that are planned for a processor, and what the store keeps beside them.
-- (This project's own.)
use Rattle.std.specs.Prelude.{◌≡◌, ℕ, ◌-◌, ◌^◌, ◌≤◌, nat_lt, min, if◌then◌else◌, Bool, List, [], ◌∷◌, Option, All, fold}
use Rattle.bm_lang.specs.declared.scenario.AtLine.{AtLine}
use Rattle.bm_due.specs.Due.{due_handler, left_after}

-- the handlers that haven't run, in the order of the text, and whether the processor has ended
pub record Plan : Type 0 where
  pub left : List AtLine
  pub ended : Bool

-- what is due before step n of code of level l, and the plan once it has begun
abbrev pub due_of : ℕ → ℕ → Plan → Option AtLine
due_of n l plan = due_handler plan.ended n l plan.left

abbrev pub plan_after : ℕ → ℕ → Plan → Plan
plan_after n l plan = record plan { left = left_after plan.ended n l plan.left }

-- the least step of the handlers above a level; the greatest number of its type where there are none
abbrev pub least_above : ℕ → List AtLine → ℕ
least_above l lines =
    fold (λ least line. if nat_lt l line.level then min least line.step else least) (2 ^ 64 - 1)
    lines

-- The levels are those that there are, and beside the handlers stand the least steps above the levels 0 to 3.
pub record IsPlan (left : List AtLine) (least : List ℕ) : Type 0 where
  pub levels : All (λ line. line.level ≤ 3) left
  pub least_is :
      least ≡ least_above 0 left ∷ least_above 1 left ∷ least_above 2 left ∷ least_above 3 left ∷ []
