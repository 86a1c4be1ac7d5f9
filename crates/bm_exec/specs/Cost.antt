-- How many statements a frame has still to run, at most.
use Rattle.std.specs.Prelude.{ℕ, ◌+◌, ◌*◌, List, [], ◌∷◌, Option, Some, None}
use Rattle.std.specs.Borrow.{Bor}
use Rattle.bm_lang.specs.declared.scenario.Block.{Block}
use Rattle.bm_lang.specs.declared.scenario.Statement.{Statement}
use Rattle.bm_lang.specs.Limits.{action_cost, block_cost}
use Rattle.bm_exec.specs.declared.frame.Open.{Open}

abbrev pub list_cost : List Statement → ℕ
list_cost [] = 0
list_cost (s ∷ ss) = action_cost s.action + list_cost ss

abbrev pub body_cost : Option (Bor Block) → ℕ
body_cost None = 0
body_cost (Some body) = block_cost body.now

abbrev pub open_cost : Open → ℕ
open_cost o = list_cost o.rest.now + o.repeats * (1 + body_cost o.body)

abbrev pub stack_cost : List Open → ℕ
stack_cost [] = 0
stack_cost (o ∷ os) = open_cost o + stack_cost os
