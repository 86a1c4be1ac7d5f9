-- What is said of the statements of a block, said of a list of statements.
use Rattle.std.specs.Prelude.{ℕ, Bool, Option, Some, None, List, [], ◌∷◌}
use Rattle.std.specs.Borrow.{Bor}
use Rattle.bm_lang.specs.declared.scenario.Action.{Action}
use Rattle.bm_lang.specs.declared.scenario.Block.{Block, Block', items-the_row-Statement}
use Rattle.bm_lang.specs.declared.scenario.Statement.{Statement}
use Rattle.bm_check.specs.declared.name_state.HeldLock.{HeldLock}
use Rattle.bm_check.specs.Statements.{Setting}
use Rattle.bm_check.specs.Values.{Store, SafeAction}
use Rattle.bm_law_work.specs.Parts.{Part, Nothing}
use Rattle.bm_law.specs.State.{State}
use Rattle.bm_law_scenario.specs.Declared.{Declared, under}
use Rattle.bm_law_scenario.specs.Works.{UntilDown}
use Rattle.bm_law_scenario.specs.Runs.{Run, Leaving, Done, Followed, RunsAction, lock_after, unlocked}
use Rattle.bm_exec.specs.Stores.{locked_in}

-- the statements of a block
abbrev pub block_list : Block → List Statement
block_list (Block' shape row end_line) = items-the_row-Statement _ row

-- the classes for which works run, as a list
abbrev pub behind_of : Option (Bor (List ℕ)) → Option (List ℕ)
behind_of None = None
behind_of (Some classes) = Some classes.now

-- what stands behind each statement: works for these classes until no flag is up, or nothing
abbrev pub Behind : Option (List ℕ) → Part
Behind None = Nothing
Behind (Some classes) = UntilDown classes

-- nothing is left to run behind code that holds this lock or none: what is behind it runs once no lock is held
abbrev pub Quiet : HeldLock → Option (List ℕ) → State ℕ → Type 0
Quiet lock w s = unlocked (locked_in lock) (Behind w) s []

-- a statement, in a plain section or in none, and under a lock or under none, and what stands after it
abbrev pub RunsStatement : Declared → ℕ → (inside : Bool) → Option (List ℕ) → Action → Run
RunsStatement d l i w a =
    Followed (RunsAction d l i (Behind w) a) (Leaving (unlocked (lock_after d.lock a) (Behind w)))

abbrev pub RunsList : Declared → ℕ → (inside : Bool) → Option (List ℕ) → List Statement → Run
RunsList d l i w [] = Done
RunsList d l i w (s ∷ ss) =
    Followed (RunsStatement d l i w s.action)
    (RunsList (under (lock_after d.lock s.action) d) l i w ss)

abbrev pub SafeList : Setting → Store → List Statement → (Store → Type 0) → Type 0
SafeList e s [] Q = Q s
SafeList e s (x ∷ xs) Q = SafeAction e s x.action (λ r. SafeList e r xs Q)
