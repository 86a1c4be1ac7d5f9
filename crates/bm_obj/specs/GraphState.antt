-- The graphs of a world.
use Rattle.std.specs.Prelude.{ℕ, List, Option}
use Rattle.bm_obj.specs.declared.waiting.Waiting.{Waiting}

-- By graph the number of its type, and what waits for its history.
pub record GraphState : Type 0 where
  pub types : List ℕ
  pub waits : List (Option Waiting)
