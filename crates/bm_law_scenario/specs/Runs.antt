-- What the statements of a script leave in the log, and in the script's names. Between the entries of a call those of
-- handlers may stand, which are of higher levels. (This project's own language.)
use Rattle.std.specs.Prelude.{◌≡◌, ℕ, zero, suc, ◌+◌, Bool, true, false, List, [], ◌∷◌, None, Option, Some}
use Rattle.bm_journal.specs.declared.ids.Domain.TheVariants.{Plain}
use Rattle.bm_journal.specs.declared.entry.Entry.{Entry}
use Rattle.bm_journal.specs.declared.entry.Entry.TheVariants as entry
use Rattle.bm_lang.specs.declared.scenario.Action.{Action, New, Drop, Acquire, Get, Exchange, If', Repeat, Section, Lock, Unlock, Yield, PushFront, PushBack, PopFront, PopBack, Add, First, Remove, Held-Action-If-2, None', Some'}
use Rattle.bm_lang.specs.declared.scenario.Block.{Block, Block', Row_of-Statement, end_of-Statement, more_of-Statement}
use Rattle.bm_law.specs.State.{State}
use Rattle.bm_law.specs.Lists.{Log}
use Rattle.bm_law.specs.Spans.{own_entries}
use Rattle.bm_law_work.specs.Parts.{Part, Say, Stand, Then}
use Rattle.bm_law_work.specs.Parts as part
use Rattle.bm_graph.specs.declared.ways.End.TheVariants as end_
use Rattle.bm_graph.specs.declared.ways.Way.TheVariants as way
use Rattle.bm_lang.specs.declared.scenario.MapId.{MapId}
use Rattle.bm_law_scenario.specs.Declared.{Declared, under}
use Rattle.bm_law_scenario.specs.Held.{Held, Nothing, Null, Object, Soft, Names}
use Rattle.bm_law_scenario.specs.Calls.{RunsAcquire, RunsExchange, RunsFirst, RunsGet, RunsGivingUp, RunsLock, RunsNew, RunsPop, RunsPutting, RunsRemove, RunsUnlock, batch_in}

-- from these names to those names, a part of a log
abbrev pub Run : Type 1
Run = Names → Names → Part

-- this part, and the names hold what they held
abbrev pub Leaving : Part → Run
Leaving stands names after s part = (after ≡ names) × stands s part

-- nothing
abbrev pub Done : Run
Done = Leaving part.Nothing

-- one run, and then another one, from the names and the lists that the first one leaves
abbrev pub Followed : Run → Run → Run
Followed first second names after s part =
    (middle : Names) × Then (first names middle) (second middle after) s part

-- n times
abbrev pub Times : Run → ℕ → Run
Times run zero = Done
Times run (suc n) = Followed run (Times run n)

-- a call of level l
abbrev pub Calls : ℕ → (Names → List Entry → Names → Type 0) → Run
Calls l call names after = Say l (λ own. call names own after)

-- `if x`: the first block where x holds an object, the other where it holds null
abbrev pub Chosen : Held → Run → Run → Run
Chosen Nothing first other = λ names after s part. ⊥
Chosen Null first other = other
Chosen (Object t u life) first other = first
Chosen (Soft t g u life) first other = first

-- What a block leaves in a plain section of its own, whose word is w inside.
abbrev pub Enclosed : ℕ → Run → ℕ → Run
Enclosed l block w names after =
    Then (Stand l (entry.In Plain w ∷ []))
    (Then (block names after) (Stand l (entry.Out Plain (w + 1) ∷ [])))

-- `section`: its block, in a plain section where there is none around it; a section inside another one leaves nothing of its own
abbrev pub Within : Bool → ℕ → Run → Run
Within true l block = block
Within false l block = λ names after s part. (w : ℕ) × Enclosed l block w names after s part

-- the lock that is held after a statement; one that holds others leaves it as it was
abbrev pub lock_after : Option MapId → Action → Option MapId
lock_after held (Lock graph) = Some graph
lock_after held Unlock = None
lock_after held _ = held

-- what stands after a statement: nothing where a lock is held there
abbrev pub unlocked : Option MapId → Part → Part
unlocked None behind = behind
unlocked (Some graph) behind = part.Nothing

-- What statements leave, each at level l, in a plain section or in none, and under a lock or under none. After each statement that leaves no lock held,
-- also one that holds others, stands what `behind` says: deferred work, or nothing.
abbrev mutual
  pub RunsAction : Declared → ℕ → (inside : Bool) → Part → Action → Run
  RunsAction d l i behind (New x t values) = Calls l (RunsNew d.types x t values)
  RunsAction d l i behind (Drop x) =
      λ names after s. Calls l (RunsGivingUp d.types x (batch_in s)) names after s
  RunsAction d l i behind (Acquire y x) = Calls l (RunsAcquire d.types y x)
  RunsAction d l i behind (If' x body otherwise) =
      λ names. Chosen (names x) (RunsBlock d l i behind body) (RunsElse d l i behind otherwise)
      names
  RunsAction d l i behind (Repeat n body) = Times (RunsBlock d l i behind body) n
  RunsAction d l i behind (Section body) = Within i l (RunsBlock d l true behind body)
  RunsAction d l i behind Yield = Leaving (Stand l (entry.Yield ∷ []))
  RunsAction d l i behind (Get x field) = Calls l (RunsGet d.types x field)
  RunsAction d l i behind (Exchange y slot x) = Calls l (RunsExchange d.maps y slot x)
  RunsAction d l i behind (Lock graph) = Calls l (RunsLock d graph)
  RunsAction d l i behind Unlock = Calls l (RunsUnlock d)
  RunsAction d l i behind (PushFront list x) =
      λ names after s. Calls l (RunsPutting d way.Front list x (batch_in s)) names after s
  RunsAction d l i behind (PushBack list x) =
      λ names after s. Calls l (RunsPutting d way.Back list x (batch_in s)) names after s
  RunsAction d l i behind (Add tree x) =
      λ names after s. Calls l (RunsPutting d way.Ordered tree x (batch_in s)) names after s
  RunsAction d l i behind (PopFront x list) = Calls l (RunsPop d end_.Front list x)
  RunsAction d l i behind (PopBack x list) = Calls l (RunsPop d end_.Back list x)
  RunsAction d l i behind (First x tree) = Calls l (RunsFirst d tree x)
  RunsAction d l i behind (Remove y tree x) = Calls l (RunsRemove d tree y x)

  -- an absent `else` is an empty block
  pub RunsElse : Declared → ℕ → (inside : Bool) → Part → Held-Action-If-2 → Run
  RunsElse d l i behind None' = Done
  RunsElse d l i behind (Some' body) = RunsBlock d l i behind body

  pub RunsBlock : Declared → ℕ → (inside : Bool) → Part → Block → Run
  RunsBlock d l i behind (Block' shape row end_line) = RunsRow d l i behind row

  -- statements, one after the other
  pub RunsRow : Declared → ℕ → (inside : Bool) → Part → {m : _} → Row_of-Statement m → Run
  RunsRow d l i behind end_of-Statement = Done
  RunsRow d l i behind (more_of-Statement line action rest) =
      let lock = lock_after d.lock action in
      Followed (Followed (RunsAction d l i behind action) (Leaving (unlocked lock behind)))
      (RunsRow (under lock d) l i behind rest)

-- A block in a plain section leaves these entries of its level, where nothing stands after a statement: they are those of some part of a
-- log, of some level and begun with some lists, that is a run of the block.
pub record RunsAlone (d : Declared) (body : Block) (names : Names) (own : List Entry)
    (after : Names) : Type 0 where
  pub level : ℕ
  pub lists : State ℕ
  pub log : Log
  pub runs : RunsBlock d level true part.Nothing body names after lists log
  pub own_is : own_entries level log ≡ own
