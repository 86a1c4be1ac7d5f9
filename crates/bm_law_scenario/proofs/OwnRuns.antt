-- What the statements of a script leave at its level, and in the script's names, while no deferred work runs between them.
-- A log of ordinary code alone holds a run by this definition exactly where it holds one by Runs. (This project's own.)
use Rattle.std.specs.Prelude.{◌≡◌, ℕ, zero, suc, ◌+◌, Bool, true, false, List, [], ◌∷◌, ◌++◌}
use Rattle.bm_journal.specs.declared.ids.Domain.TheVariants.{Plain}
use Rattle.bm_journal.specs.declared.entry.Entry.{Entry}
use Rattle.bm_journal.specs.declared.entry.Entry.TheVariants as entry
use Rattle.bm_lang.specs.declared.scenario.Action.{Action, New, Drop, Acquire, Get, Exchange, If', Repeat, Section, Lock, Unlock, Yield, PushFront, PushBack, PopFront, PopBack, Add, First, Remove, Held-Action-If-2, None', Some'}
use Rattle.bm_lang.specs.declared.scenario.Block.{Block, Block', Row_of-Statement, end_of-Statement, more_of-Statement}
use Rattle.bm_graph.specs.declared.ways.End.TheVariants as end_
use Rattle.bm_graph.specs.declared.ways.Way.TheVariants as way
use Rattle.bm_law_scenario.specs.Declared.{Declared, under}
use Rattle.bm_law_scenario.specs.Held.{Held, Nothing, Null, Object, Soft, Names}
use Rattle.bm_law_scenario.specs.Calls.{RunsAcquire, RunsExchange, RunsFirst, RunsGet, RunsGivingUp, RunsLock, RunsNew, RunsPop, RunsPutting, RunsRemove, RunsUnlock, any_batch}
use Rattle.bm_law_scenario.specs.Runs.{lock_after}

-- from these names, this part of a log, to those names
abbrev pub Run : Type 1
Run = Names → List Entry → Names → Type 0

-- nothing is left, and the names hold what they held
abbrev pub Done : Run
Done names part after = (part ≡ []) × (after ≡ names)

-- one after the other
pub record Then (first second : Run) (names : Names) (part : List Entry) (after : Names) : Type 0 where
  pub middle : Names
  pub one : List Entry
  pub two : List Entry
  pub part_is : part ≡ one ++ two
  pub first_runs : first names one middle
  pub second_runs : second middle two after

-- n times
abbrev pub Times : Run → ℕ → Run
Times run zero = Done
Times run (suc n) = Then run (Times run n)

-- `if x`: the first block where x holds an object, the other where it holds null
abbrev pub Chosen : Held → Run → Run → Run
Chosen Nothing first other = λ names part after. ⊥
Chosen Null first other = other
Chosen (Object t u life) first other = first
Chosen (Soft t g u life) first other = first

-- these entries, and the names hold what they held
abbrev pub Leaving : List Entry → Run
Leaving own names part after = (part ≡ own) × (after ≡ names)

-- `section`: its block, in a plain section where there is none around it
abbrev pub Within : Bool → Run → Run
Within true block = block
Within false block = λ names part after. (w : ℕ) × Then (Leaving (entry.In Plain w ∷ [])) (Then block (Leaving (entry.Out Plain (w + 1) ∷ []))) names part after

-- The statements, in a plain section or in none, and under a lock or under none.
abbrev mutual
  pub RunsAction : Declared → (inside : Bool) → Action → Run
  RunsAction d i (New x t values) = RunsNew d.types x t values
  RunsAction d i (Drop x) = RunsGivingUp d.types x any_batch
  RunsAction d i (Acquire y x) = RunsAcquire d.types y x
  RunsAction d i (If' x body otherwise) = λ names. Chosen (names x) (RunsBlock d i body) (RunsElse d i otherwise) names
  RunsAction d i (Repeat n body) = Times (RunsBlock d i body) n
  RunsAction d i (Section body) = Within i (RunsBlock d true body)
  RunsAction d i Yield = Leaving (entry.Yield ∷ [])
  RunsAction d i (Get x field) = RunsGet d.types x field
  RunsAction d i (Exchange y slot x) = RunsExchange d.maps y slot x
  RunsAction d i (Lock graph) = RunsLock d graph
  RunsAction d i Unlock = RunsUnlock d
  RunsAction d i (PushFront list x) = RunsPutting d way.Front list x any_batch
  RunsAction d i (PushBack list x) = RunsPutting d way.Back list x any_batch
  RunsAction d i (PopFront x list) = RunsPop d end_.Front list x
  RunsAction d i (PopBack x list) = RunsPop d end_.Back list x
  RunsAction d i (Add tree x) = RunsPutting d way.Ordered tree x any_batch
  RunsAction d i (First x tree) = RunsFirst d tree x
  RunsAction d i (Remove y tree x) = RunsRemove d tree y x

  -- an absent `else` is an empty block
  pub RunsElse : Declared → (inside : Bool) → Held-Action-If-2 → Run
  RunsElse d i None' = Done
  RunsElse d i (Some' body) = RunsBlock d i body

  pub RunsBlock : Declared → (inside : Bool) → Block → Run
  RunsBlock d i (Block' shape row end_line) = RunsRow d i row

  -- statements, one after the other
  pub RunsRow : Declared → (inside : Bool) → {m : _} → Row_of-Statement m → Run
  RunsRow d i end_of-Statement = Done
  RunsRow d i (more_of-Statement line action rest) = Then (RunsAction d i action) (RunsRow (under (lock_after d.lock action) d) i rest)
