-- A script that runs on a machine: what its frame, its names and the log are after some of its statements. Behind each
-- statement deferred work runs for the classes w until no flag is up, or none does.
use Rattle.std.specs.Prelude.{◌≡◌, ◌<◌, ◌≤◌, ℕ, ◌+◌, ◌*◌, Bool, true, List, Option, length}
use Rattle.bm_lang.specs.declared.scenario.Action.{Action}
use Rattle.bm_lang.specs.declared.scenario.Script.{Script}
use Rattle.bm_lang.specs.Limits.{action_cost}
use Rattle.bm_law.specs.State.{State}
use Rattle.bm_law.specs.Lists.{Log}
use Rattle.bm_law_work.specs.Grown.{GrewBy}
use Rattle.bm_law_scenario.specs.Declared.{Declared}
use Rattle.bm_law_scenario.specs.Held.{Names, no_names, OwnsNothing}
use Rattle.bm_law_scenario.specs.Runs.{RunsBlock, lock_after as lock_left}
use Rattle.bm_check.specs.Statements.{Setting, is_handler}
use Rattle.bm_check.specs.Values.{SafeAction}
use Rattle.bm_exec.specs.Around.{Around}
use Rattle.bm_exec.specs.declared.frame.Open.{Open}
use Rattle.bm_exec.specs.Guarded.{Guarded, Guards, Sees}
use Rattle.bm_exec.specs.Stores.{locked_in, store_of}
use Rattle.bm_exec.specs.Lists.{Behind, Quiet}
use Rattle.bm_exec.specs.Stack.{RunsStack, SafeStack, Sectioned, lock_of}
use Rattle.bm_exec.specs.Cost.{stack_cost}
use Rattle.bm_exec.specs.Meets.{Inherits, Test, stack_meets}
use Rattle.bm_exec.specs.Living.{Lives, Holds}
use Rattle.bm_exec.specs.Steps.{IsSafe, RunsNext, weight}

-- a setting is of these types and maps
abbrev pub IsOf : Declared → Setting → Type 0
IsOf d e = (e.types ≡ d.types) × (e.maps ≡ d.maps)

-- One statement, which was taken off the open blocks `before`, was performed with the work behind it, and the lists went from
-- s to s'. Whatever the blocks left add to the log then, with what the statement added that is the statement, and then what
-- follows it. No work is left to run behind it, unless under a lock. Whatever objects were nobody's here before are so still; non-owning references are to
-- objects in the list or tree whose lock is held; and the lock is the one that the statement leaves.
pub record Performed (d : Declared) (l : ℕ) (z z' : Around) (w : Option (List ℕ)) (s s' : State ℕ)
    (g g' : Guarded) (a : Action) (names names' : Names) (before now : List Open)
    (lives lives' : Lives) (asked asked' : ℕ) (log log' : Option Log) :
    Type 0 where
  pub grew :
      (after : Names) (final : Option Log)
      → GrewBy (RunsStack d l z' w now names' after) s' log' final
      → GrewBy (RunsNext d l z w a before names after) s log final
  pub safe :
      (e : Setting) → IsOf d e
      → SafeAction e (store_of names (lock_of before)) a (λ r. SafeStack e r before)
      → IsSafe e names' now
  pub guards :
      (e : Setting) → IsOf d e
      → SafeAction e (store_of names (lock_of before)) a (λ r. SafeStack e r before)
      → Guards d.maps (is_handler e.kind) l g (lock_of before)
      → Guards d.maps (is_handler e.kind) l g' (lock_of now)
  pub locked : locked_in (lock_of now) ≡ lock_left (locked_in (lock_of before)) a
  pub holds : (base : Lives) → Holds d.types base lives names → Holds d.types base lives' names'
  pub sees : Sees d g (lock_of before) names → Sees d g' (lock_of now) names'
  pub meets :
      (p : Test) → Inherits p → p (length before) a ≡ true → stack_meets p before ≡ true
      → stack_meets p now ≡ true
  pub sections : (base : Around) → Sectioned base z before → Sectioned base z' now
  pub cost : asked' + 3 * stack_cost now ≤ asked + 3 * (action_cost a + stack_cost before)
  pub weight : weight now < 2 * action_cost a + weight before
  pub down : Quiet (lock_of now) w s'

-- Some statements were performed, from the frame's blocks `before` and names on.
pub record Went (d : Declared) (l : ℕ) (z z' : Around) (w : Option (List ℕ)) (s s' : State ℕ)
    (g g' : Guarded) (names names' : Names) (before now : List Open) (lives lives' : Lives)
    (asked asked' : ℕ) (log log' : Option Log) :
    Type 0 where
  pub grew :
      (after : Names) (final : Option Log)
      → GrewBy (RunsStack d l z' w now names' after) s' log' final
      → GrewBy (RunsStack d l z w before names after) s log final
  pub safe : (e : Setting) → IsOf d e → IsSafe e names before → IsSafe e names' now
  pub guards :
      (e : Setting) → IsOf d e → IsSafe e names before
      → Guards d.maps (is_handler e.kind) l g (lock_of before)
      → Guards d.maps (is_handler e.kind) l g' (lock_of now)
  pub holds : (base : Lives) → Holds d.types base lives names → Holds d.types base lives' names'
  pub sees : Sees d g (lock_of before) names → Sees d g' (lock_of now) names'
  pub meets : (p : Test) → Inherits p → stack_meets p before ≡ true → stack_meets p now ≡ true
  pub sections : (base : Around) → Sectioned base z before → Sectioned base z' now
  pub cost : asked' + 3 * stack_cost now ≤ asked + 3 * stack_cost before
  pub down : Quiet (lock_of now) w s'

-- All was run, and the names own nothing: the log has grown by what the open blocks run, begun with the lists s.
pub record Ran (d : Declared) (l : ℕ) (z : Around) (w : Option (List ℕ)) (s : State ℕ)
    (names names' : Names) (before : List Open) (log log' : Option Log) : Type 0 where
  pub grew : GrewBy (RunsStack d l z w before names names') s log log'
  pub owns_nothing : (x : List ℕ) → OwnsNothing (names' x)

-- A script was run from its beginning to its end, in a plain section or in none: the log has grown by a run of its block, begun with names that hold
-- nothing, and at the end its names own nothing.
pub record RanScript (d : Declared) (l : ℕ) (inside : Bool) (w : Option (List ℕ)) (s : State ℕ)
    (script : Script) (log log' : Option Log) : Type 0 where
  pub after : Names
  pub grew : GrewBy (RunsBlock d l inside (Behind w) script.body no_names after) s log log'
  pub owns_nothing : (x : List ℕ) → OwnsNothing (after x)
