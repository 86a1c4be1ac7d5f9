-- One statement is taken off the open blocks of a frame.
use Rattle.std.specs.Prelude.{◌≡◌, ◌<◌, ◌≤◌, ℕ, suc, ◌+◌, ◌*◌, Bool, true, false, List, [], ◌∷◌, ◌++◌, length, Option, Some, None}
use Rattle.std.specs.Borrow.{Bor}
use Rattle.bm_lang.specs.declared.scenario.Block.{Block}
use Rattle.bm_lang.specs.declared.scenario.Statement.{Statement}
use Rattle.bm_lang.specs.Limits.{action_cost}
use Rattle.bm_law.specs.State.{State}
use Rattle.bm_law.specs.Lists.{Log, after as lists_after}
use Rattle.bm_lang.specs.declared.scenario.Action.{Action}
use Rattle.bm_law_scenario.specs.Declared.{Declared, under}
use Rattle.bm_law_scenario.specs.Held.{Names}
use Rattle.bm_law_scenario.specs.Runs.{Followed, Run}
use Rattle.bm_check.specs.Blocks.{from_inside}
use Rattle.bm_check.specs.Statements.{Setting, lock_after}
use Rattle.bm_check.specs.Values.{SafeAction, is_owning}
use Rattle.bm_exec.specs.Around.{Around, is_inside, with_begun}
use Rattle.bm_exec.specs.declared.frame.Next.{Next}
use Rattle.bm_exec.specs.declared.frame.Next.TheVariants as next
use Rattle.bm_exec.specs.declared.frame.Open.{Open}
use Rattle.bm_exec.specs.Stores.{locked_in, store_of, value_of}
use Rattle.bm_exec.specs.Lists.{Quiet, RunsStatement, block_list}
use Rattle.bm_exec.specs.Stack.{Leaves, RunsStack, SafeStack, Sectioned, lock_of, under_lock}
use Rattle.bm_exec.specs.Cost.{stack_cost}
use Rattle.bm_exec.specs.Meets.{Test, stack_meets}

-- what gets smaller with each statement taken and each block ended
abbrev pub weight : List Open → ℕ
weight os = 2 * stack_cost os + length os

-- A block begins again: all its statements, once less, under the same lock and with the same section's end.
pub record BeginsAgain (o p : Open) : Type 0 where
  pub less : ℕ
  pub block : Bor Block
  pub repeats : o.repeats ≡ suc less
  pub body : o.body ≡ Some block
  pub rest_is : p.rest.now ≡ block_list block.now
  pub repeats_is : p.repeats ≡ less
  pub body_is : p.body ≡ Some block
  pub leaves_is : p.leaves ≡ o.leaves
  pub lock_is : p.lock ≡ o.lock

-- what the law of accepted scripts says of these blocks, under the lock that is held in the innermost
abbrev pub IsSafe : Setting → Names → List Open → Type 0
IsSafe e names os = SafeStack e (store_of names (lock_of os)) os

-- Blocks ended or began again: what is run from now on is what was to be run. Where a block ends nothing stands after its
-- statement, for the last one in it left that so. The lock that is held stays the same.
pub record Passed (before now : List Open) : Type 0 where
  pub runs :
      (d : Declared) (l : ℕ) (z : Around) (w : Option (List ℕ)) (e : Setting) (names after : Names)
      (s : State ℕ) (part : Log) → IsSafe e names before → Quiet (lock_of before) w s
      → RunsStack d l z w now names after s part → RunsStack d l z w before names after s part
  pub safe : (e : Setting) (names : Names) → IsSafe e names before → IsSafe e names now
  pub locked :
      (e : Setting) (names : Names) → IsSafe e names before
      → locked_in (lock_of now) ≡ locked_in (lock_of before)
  pub meets : (p : Test) → stack_meets p before ≡ true → stack_meets p now ≡ true
  pub sections : (base z : Around) → Sectioned base z before → Sectioned base z now
  pub cost : stack_cost now ≤ stack_cost before
  pub weight : weight now ≤ weight before

-- the blocks once the innermost has run a statement that leaves them open: under the lock that the statement leaves
abbrev pub left_by : Action → List Open → List Open
left_by a os = under_lock (lock_after (lock_of os) a) os

-- a statement that the innermost block runs, under the lock that is held in it, and then these blocks
abbrev pub RunsNext : Declared → ℕ → Around → Option (List ℕ) → Action → List Open → Run
RunsNext d l z w a os =
    Followed (RunsStatement (under (locked_in (lock_of os)) d) l (is_inside z) w a)
    (RunsStack d l z w (left_by a os))

-- A statement was taken: it runs first, and the rest runs after it. Its own block is still open.
pub record Taken (before now : List Open) (s : Statement) : Type 0 where
  pub runs :
      (d : Declared) (l : ℕ) (z : Around) (w : Option (List ℕ)) (e : Setting) (names after : Names)
      (t : State ℕ) (part : Log) → IsSafe e names before → Quiet (lock_of before) w t
      → RunsNext d l z w s.action now names after t part
      → RunsStack d l z w before names after t part
  pub safe :
      (e : Setting) (names : Names) → IsSafe e names before
      → SafeAction e (store_of names (lock_of now)) s.action (λ r. SafeStack e r now)
  pub locked :
      (e : Setting) (names : Names) → IsSafe e names before
      → locked_in (lock_of now) ≡ locked_in (lock_of before)
  pub meets_action : (p : Test) → stack_meets p before ≡ true → p (length now) s.action ≡ true
  pub meets : (p : Test) → stack_meets p before ≡ true → stack_meets p now ≡ true
  pub sections : (base z : Around) → Sectioned base z before → Sectioned base z now
  pub cost : action_cost s.action + stack_cost now ≤ stack_cost before
  pub weight : 2 * action_cost s.action + weight now ≤ weight before
  pub some : 0 < length now

-- A block has ended that has a section of its own: this section ends next, and then the rest runs.
pub record Closing (before now : List Open) : Type 0 where
  pub runs :
      (d : Declared) (l : ℕ) (z : Around) (w : Option (List ℕ)) (e : Setting) (names after : Names)
      (s : State ℕ) (one two : Log) → IsSafe e names before → Quiet (lock_of before) w s
      → Quiet (lock_of before) w (lists_after s one) → Leaves l z names names s one
      → RunsStack d l (with_begun None z) w now names after (lists_after s one) two
      → RunsStack d l z w before names after s (one ++ two)
  pub safe : (e : Setting) (names : Names) → IsSafe e names before → IsSafe e names now
  pub locked :
      (e : Setting) (names : Names) → IsSafe e names before
      → locked_in (lock_of now) ≡ locked_in (lock_of before)
  pub meets : (p : Test) → stack_meets p before ≡ true → stack_meets p now ≡ true
  pub sections :
      (base z : Around) → Sectioned base z before
      → ((w : ℕ) × (z.begun ≡ Some w)) × Sectioned base (with_begun None z) now
  pub cost : stack_cost now ≤ stack_cost before
  pub weight : weight now < weight before

-- All ended: nothing is left to run, and no lock is held.
pub record Ended (before : List Open) : Type 0 where
  pub runs :
      (d : Declared) (l : ℕ) (z : Around) (w : Option (List ℕ)) (e : Setting) (names : Names)
      (s : State ℕ) → IsSafe e names before → Quiet (lock_of before) w s
      → RunsStack d l z w before names names s []
  pub safe :
      (e : Setting) (names : Names) → IsSafe e names before → (x : List ℕ)
      → is_owning (value_of (names x)) ≡ false
  pub locked :
      (e : Setting) (names : Names) → IsSafe e names before → locked_in (lock_of before) ≡ None
  pub sections : (base z : Around) → Sectioned base z before → z ≡ base

abbrev pub Stepped : List Open → List Open → Next → Type 0
Stepped before now (next.Statement s) = Taken before now s.now
Stepped before now next.Leave = Closing before now
Stepped before now next.End = Ended before

-- One more block was opened: it has these statements still to run, and then the whole of it so many times; it sees the lock as one from around it;
-- and with it a section ends, or none.
pub record Pushed (before now : List Open) (rest : List Statement) (n : ℕ) (leaves : Bool)
    (body : Block) : Type 0 where
  pub top : Open
  pub now_is : now ≡ top ∷ before
  pub rest_is : top.rest.now ≡ rest
  pub repeats_is : top.repeats ≡ n
  pub leaves_is : top.leaves ≡ leaves
  pub lock_is : top.lock ≡ from_inside (lock_of before)
  pub block : Bor Block
  pub body_is : top.body ≡ Some block
  pub block_is : block.now ≡ body
