-- The judgement on statements and blocks: the first broken rule with its line, or the names and the lock afterwards. A broken
-- rule inside a block comes before one at its end.
use Rattle.std.specs.Prelude.{ℕ, not, Option, Some, None}
use Rattle.bm_lang.specs.declared.scenario.Action.{Action, If', Repeat, Section, Held-Action-If-2, None', Some'}
use Rattle.bm_lang.specs.declared.scenario.Block.{Block, Block', Row_of-Statement, end_of-Statement, more_of-Statement}
use Rattle.bm_check.specs.declared.name_state.NameState.TheVariants.{Spent}
use Rattle.bm_check.specs.declared.name_state.HeldLock.{HeldLock}
use Rattle.bm_check.specs.declared.name_state.HeldLock.TheVariants.{Nothing, Here, Around}
use Rattle.bm_check.specs.declared.rule.Rule.{Rule}
use Rattle.bm_check.specs.declared.rule.Rule.TheVariants as rule
use Rattle.bm_check.specs.NameStates.{non_null}
use Rattle.bm_check.specs.Names.{Names, put, back_to, branches_clash, joined, body_changes, repeated}
use Rattle.bm_check.specs.Statements.{Setting, Row, row_of, need, broken_by, names_after, lock_after}

-- a place of a script
pub record Place : Type 0 where
  pub names : Names
  pub lock : HeldLock

abbrev pub at : Names → HeldLock → Place
at n l = record { names = n; lock = l }

pub data Outcome : Type 0 where
  Broken : ℕ → Rule → Outcome
  Reaches : Place → Outcome

abbrev pub and_then : Outcome → (Place → Outcome) → Outcome
and_then (Broken line r) f = Broken line r
and_then (Reaches p) f = f p

-- a rule that is tried on this line
abbrev pub unless_broken : ℕ → Option Rule → Outcome → Outcome
unless_broken line None o = o
unless_broken line (Some r) o = Broken line r

-- a lock is of the block in which it was taken: it is seen from an inner block as one from around, and at a block's end a
-- lock that was taken in it is still held where rule 10 is broken
abbrev pub from_inside : HeldLock → HeldLock
from_inside Nothing = Nothing
from_inside (Here g) = Around g
from_inside (Around g) = Around g

abbrev pub given_back : HeldLock → Option Rule
given_back Nothing = None
given_back (Here g) = Some rule.LockInItsBlock
given_back (Around g) = None

-- the line of the last brace of an `if`
abbrev pub end_line : Block → ℕ
end_line (Block' shape row line) = line

abbrev pub last_line : Block → Held-Action-If-2 → ℕ
last_line body None' = end_line body
last_line body (Some' block) = end_line block

-- the ends of the statements with blocks
abbrev pub after_if : ℕ → HeldLock → Names → Place → Outcome
after_if line l first p =
    unless_broken line (need (not (branches_clash first p.names)) rule.BranchesAgree)
    (Reaches (at (joined first p.names) l))

abbrev pub after_repeat : ℕ → HeldLock → Names → Place → Outcome
after_repeat line l start p =
    unless_broken line (need (not (body_changes start p.names)) rule.RepeatAgrees)
    (Reaches (at (repeated start p.names) l))

abbrev pub after_statement : ℕ → HeldLock → Action → Row → Outcome
after_statement line l a r =
    unless_broken line (broken_by r) (Reaches (at (names_after r) (lock_after l a)))

-- an `if` runs its first block with the name known not to be null, and the other, which may be absent, with the name spent
abbrev mutual
  pub judged_action : Setting → Place → ℕ → Action → Outcome
  judged_action e p line (If' x body otherwise) =
      unless_broken line (broken_by (row_of e p.lock p.names (If' x body otherwise)))
      (and_then (judged_block e (at (put p.names x (non_null (p.names.state x))) p.lock) body)
      (λ first.
      and_then (judged_else e (at (put (back_to p.names first.names) x Spent) p.lock) otherwise)
      (after_if (last_line body otherwise) p.lock first.names)))
  judged_action e p line (Repeat count body) =
      and_then (judged_block e p body) (after_repeat (end_line body) p.lock p.names)
  judged_action e p line (Section body) = judged_block e p body
  judged_action e p line a = after_statement line p.lock a (row_of e p.lock p.names a)

  pub judged_else : Setting → Place → Held-Action-If-2 → Outcome
  judged_else e p None' = Reaches p
  judged_else e p (Some' body) = judged_block e p body

  pub judged_block : Setting → Place → Block → Outcome
  judged_block e p (Block' shape row line) =
      and_then (judged_row e (at p.names (from_inside p.lock)) row)
      (λ q. unless_broken line (given_back q.lock) (Reaches (at q.names p.lock)))

  pub judged_row : Setting → Place → {m : _} → Row_of-Statement m → Outcome
  judged_row e p end_of-Statement = Reaches p
  judged_row e p (more_of-Statement line action rest) =
      and_then (judged_action e p line action) (λ q. judged_row e q rest)
