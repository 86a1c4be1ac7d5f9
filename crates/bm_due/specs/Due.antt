-- Which planned handler is due: of the handlers that a scenario plans for a processor by `at` lines, the one that
-- interrupts it before a step. (This project's own; a planned handler stands for an interrupt of the kernel.)
use Rattle.std.specs.Prelude.{◌≡◌, ◌<◌, ◌≤◌, ℕ, Bool, true, false, ◌&&◌, ◌==◌, nat_le, nat_lt, max, List, [], ◌∷◌, ◌++◌, Option, None, All, filter, find}
use Rattle.std.specs.List.{before_first, after_first}
use Rattle.bm_lang.specs.declared.scenario.AtLine.{AtLine}
use Rattle.bm_lang.specs.declared.scenario.Parts.{Parts}

-- the handlers that are planned for a processor, in the order of the text
abbrev pub planned_for : ℕ → Parts → List AtLine
planned_for p s = filter (λ line. line.processor == p) s.ats

-- A handler may interrupt the code of level l that is about to take step n: its own step is at most n, and its level is
-- above l.
abbrev pub may_interrupt : ℕ → ℕ → AtLine → Bool
may_interrupt n l line = nat_le line.step n && nat_lt l line.level

-- the highest level of some handlers; 0 where there are none
abbrev pub highest_level : List AtLine → ℕ
highest_level [] = 0
highest_level (line ∷ lines) = max line.level (highest_level lines)

-- of the handlers that may interrupt it, one of the highest level
abbrev pub is_foremost : ℕ → ℕ → List AtLine → AtLine → Bool
is_foremost n l left line =
    may_interrupt n l line && (line.level == highest_level (filter (may_interrupt n l) left))

-- The handler that is due before step n of code of level l, where these are the ones that haven't run, in the order of the
-- text: of those that may interrupt it, the first one of the highest level. None is due once the processor has ended.
abbrev pub due_handler : Bool → ℕ → ℕ → List AtLine → Option AtLine
due_handler true n l left = None
due_handler false n l left = find (is_foremost n l left) left

-- those that haven't run once the due one has begun
abbrev pub left_after : Bool → ℕ → ℕ → List AtLine → List AtLine
left_after true n l left = left
left_after false n l left =
    before_first (is_foremost n l left) left ++ after_first (is_foremost n l left) left

-- The same in other words: a line whose step has come, of a level above the code's. Of those whose step has come, each one
-- before it is of a lower level, and none behind it of a higher one.
pub record IsDue (n l : ℕ) (left : List AtLine) (line : AtLine) : Type 0 where
  pub before : List AtLine
  pub behind : List AtLine
  pub left_is : left ≡ before ++ line ∷ behind
  pub reached : line.step ≤ n
  pub above : l < line.level
  pub first : All (λ other. other.step ≤ n → other.level < line.level) before
  pub highest : All (λ other. other.step ≤ n → other.level ≤ line.level) behind

-- each line whose step has come is of the code's level or a lower one
abbrev pub NoneIsDue : ℕ → ℕ → List AtLine → Type 0
NoneIsDue n l left = All (λ line. line.step ≤ n → line.level ≤ l) left
