-- Tests that each statement of a frame's open blocks meets.
use Rattle.std.specs.Prelude.{◌≡◌, ℕ, suc, ◌-◌, Bool, true, ◌&&◌, List, [], ◌∷◌, length, Option, Some, None}
use Rattle.std.specs.Borrow.{Bor}
use Rattle.bm_lang.specs.declared.scenario.Action.{Action, If', Repeat, Section, Held-Action-If-2, Some'}
use Rattle.bm_lang.specs.declared.scenario.Block.{Block}
use Rattle.bm_lang.specs.declared.scenario.Statement.{Statement}
use Rattle.bm_law_scenario.specs.Declared.{Declared}
use Rattle.bm_exec.specs.Bindings.{binds_by}
use Rattle.bm_exec.specs.Depth.{action_fits}
use Rattle.bm_exec.specs.Lists.{block_list}
use Rattle.bm_exec.specs.Runnable.{can_run_action}
use Rattle.bm_exec.specs.declared.frame.Open.{Open}

-- a test of a statement, by how many blocks are open around it
abbrev pub Test : Type 0
Test = ℕ → Action → Bool

abbrev pub list_meets : (Action → Bool) → List Statement → Bool
list_meets q [] = true
list_meets q (s ∷ ss) = q s.action && list_meets q ss

abbrev pub body_meets : (Action → Bool) → Option (Bor Block) → Bool
body_meets q None = true
body_meets q (Some body) = list_meets q (block_list body.now)

-- each statement that open blocks have still to run, or run again; the innermost block is first
abbrev pub stack_meets : Test → List Open → Bool
stack_meets p [] = true
stack_meets p (o ∷ os) =
    list_meets (p (suc (length os))) o.rest.now
    && (body_meets (p (suc (length os))) o.body && stack_meets p os)

-- a test that the statements of a block meet if the one meets it that opens the block
pub record Inherits (p : Test) : Type 0 where
  pub first :
      (d : ℕ) (x : List ℕ) (body : Block) (otherwise : Held-Action-If-2)
      → p d (If' x body otherwise) ≡ true → list_meets (p (suc d)) (block_list body) ≡ true
  pub other :
      (d : ℕ) (x : List ℕ) (body other : Block) → p d (If' x body (Some' other)) ≡ true
      → list_meets (p (suc d)) (block_list other) ≡ true
  pub within :
      (d : ℕ) (body : Block) → p d (Section body) ≡ true
      → list_meets (p (suc d)) (block_list body) ≡ true
  pub again :
      (d n : ℕ) (body : Block) → p d (Repeat n body) ≡ true
      → list_meets (p (suc d)) (block_list body) ≡ true

-- A statement with so many blocks around it can run on a frame: it is one of those that run so far, it opens no more blocks than there
-- is room for, and the names that it binds are in a table.
abbrev pub may_run : Declared → (List ℕ → Bool) → Test
may_run d known depth a = can_run_action d a && (action_fits (16 - depth) a && binds_by known a)
