-- What a script needs to go on from where its frame stands. (This project's own.)
use Rattle.std.specs.Prelude.{◌≡◌, ℕ, ◌+◌, ◌*◌, ◌≤◌, true, false, List, [], Option, None}
use Rattle.bm_lang.specs.declared.scenario.Block.{Block}
use Rattle.bm_lang.specs.Limits.{block_cost}
use Rattle.bm_law.specs.State.{State}
use Rattle.bm_law.specs.Lists.{Log}
use Rattle.bm_lang.specs.declared.scenario.ScriptKind.{ScriptKind}
use Rattle.bm_law_scenario.specs.Declared.{Declared, under}
use Rattle.bm_law_scenario.specs.Held.{Names, no_names}
use Rattle.bm_law_scenario.specs.Runs.{RunsBlock}
use Rattle.bm_check.specs.declared.name_state.HeldLock.TheVariants.{Nothing as NoLock}
use Rattle.bm_check.specs.Statements.{Setting, is_handler}
use Rattle.bm_exec.specs.Around.{Around, is_inside}
use Rattle.bm_exec.specs.Cost.{stack_cost}
use Rattle.bm_exec.specs.Lists.{Behind}
use Rattle.bm_exec.specs.Living.{Holds, Lives}
use Rattle.bm_exec.specs.Meets.{may_run, stack_meets}
use Rattle.bm_exec.specs.Seen.{has_name, names_of}
use Rattle.bm_exec.specs.Guarded.{SeesNothing}
use Rattle.bm_exec.specs.Stack.{RunsStack, Sectioned, lock_of}
use Rattle.bm_exec.specs.Steps.{IsSafe, weight}
use Rattle.bm_exec.specs.declared.frame.Open.{Open}
use Rattle.bm_exec.specs.declared.names.NameTable.{NameTable}

-- A script of code of level l can go on, in the plain section z or in none, with these lists, objects and names, and these blocks open: each name
-- that holds an object holds one that lives, and no name holds a non-owning reference; each statement that is left may run; they are never stuck, and at
-- their end nothing is owned; only ordinary code runs a script that isn't a handler's; no lock is held; each block that ends a section is in one; and no
-- work is left to run for the classes w.
pub record CanGoOn (d : Declared) (l : ℕ) (z : Around) (w : Option (List ℕ)) (s : State ℕ)
    (lives : Lives) (names : NameTable) (blocks : List Open) : Type 0 where
  pub holds : (base : Lives) × Holds d.types base lives (names_of names)
  pub sees_nothing : SeesNothing (names_of names)
  pub may : stack_meets (may_run d (has_name names)) blocks ≡ true
  pub accepted :
      (e : Setting) × (e.types ≡ d.types) × (e.maps ≡ d.maps) × (is_handler e.kind ≡ false → l ≡ 0)
      × IsSafe e (names_of names) blocks
  pub unlocked : lock_of blocks ≡ NoLock
  pub sections : (base : Around) × Sectioned base z blocks
  pub down : Behind w s []

-- These blocks are a script's of this kind, before its first statement, and no name holds anything: where no work is left to run it can go on,
-- what they run is the script's block, and they cost what it does.
pub record IsAtStart (d : Declared) (kind : ScriptKind) (body : Block) (names : NameTable)
    (blocks : List Open) : Type 0 where
  pub can :
      (l : ℕ) (z : Around) (w : Option (List ℕ)) (s : State ℕ) (lives : Lives)
      → (is_handler kind ≡ false → l ≡ 0) → Behind w s [] → CanGoOn d l z w s lives names blocks
  pub runs :
      (l : ℕ) (z : Around) (w : Option (List ℕ)) (last : Names) (s : State ℕ) (part : Log)
      → RunsStack d l z w blocks (names_of names) last s part
      → RunsBlock (under None d) l (is_inside z) (Behind w) body no_names last s part
  pub holds : (lives : Lives) → Holds d.types lives lives (names_of names)
  pub sections : (z : Around) → Sectioned z z blocks
  pub cost : stack_cost blocks ≡ block_cost body
  pub light : weight blocks ≤ 2 * block_cost body + 1
