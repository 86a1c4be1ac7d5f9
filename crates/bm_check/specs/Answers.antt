-- What the checker's functions answer, beside the judgement.
use Rattle.std.specs.Prelude.{◌≡◌, ℕ, List, Option, Some, None, Result, Ok, Err, Vec}
use Rattle.std.specs.declared.alloc.Global.{Global}
use Rattle.std.specs.Borrow.{Bor}
use Rattle.bm_check.specs.declared.name_state.NameState.{NameState}
use Rattle.bm_check.specs.declared.name_state.HeldLock.{HeldLock}
use Rattle.bm_check.specs.declared.stop.Stop.{Stop}
use Rattle.bm_check.specs.declared.stop.Stop.TheVariants as stop
use Rattle.bm_lang.specs.declared.scenario.Parts.{Parts}
use Rattle.bm_lang.specs.declared.scenario.Script.{Script}
use Rattle.bm_check.specs.declared.checker.CheckFault.{CheckFault}
use Rattle.bm_check.specs.declared.checker.CheckFault.TheVariants as fault
use Rattle.bm_check.specs.declared.name_log.Change.{Change}
use Rattle.bm_check.specs.declared.name_log.NameLog.{NameLog}
use Rattle.bm_check.specs.declared.name_state.NameState.TheVariants.{Spent}
use Rattle.bm_check.specs.NameStates.{non_null}
use Rattle.bm_check.specs.Names.{Names, put}
use Rattle.bm_check.specs.Changes.{names_in, at_states, Leads, Starts}
use Rattle.bm_check.specs.Statements.{Binding, bound_free, with_binding, doubtful}
use Rattle.bm_check.specs.Blocks.{Outcome, Broken, Reaches, at}
use Rattle.bm_check.specs.Scripts.{first_broken_rule, Accepted, AllAccepted, IsRejected}

-- the names and the lock that a judgement reaches, or the line and the rule that it names, or want of memory
abbrev pub IsJudged : Result HeldLock Stop → Names → Outcome → Type 0
IsJudged (Ok lock) n o = o ≡ Reaches (at n lock)
IsJudged (Err (stop.Broken line rule)) n o = o ≡ Broken line rule
IsJudged (Err stop.NoMemory) n o = Unit {0}

-- a name with its state, as the table of statements has it
abbrev pub IsBinding : Option (Bor (List ℕ) × NameState) → Option Binding → Type 0
IsBinding None b = b ≡ None
IsBinding (Some (name, state)) b = b ≡ Some (record { name = name.now; state = state })

-- the start of an `if`: the rule that it breaks, or the log before it. The name isn't null from then on, and the log that is
-- begun leads back to the states before
abbrev pub IsEntered : Result (Vec Change Global) Stop → ℕ → NameLog → NameLog → List ℕ → Type 0
IsEntered (Ok outer) line old new x =
    (doubtful ((names_in old).state x) ≡ None) × (outer.items ≡ old.changes.items)
    × (names_in new ≡ put (names_in old) x (non_null ((names_in old).state x)))
    × Starts new (names_in old).state
IsEntered (Err (stop.Broken l rule)) line old new x =
    (doubtful ((names_in old).state x) ≡ Some rule) × (l ≡ line)
IsEntered (Err stop.NoMemory) line old new x = Unit {0}

-- between the blocks of an `if` that began at the states f: a log that leads from there to the first block's end
pub record IsOther (first : Vec Change Global) (old new : NameLog) (x : List ℕ)
    (f : List ℕ → NameState) : Type 0 where
  pub names : names_in new ≡ put (at_states (names_in old) f) x Spent
  pub start : Starts new f
  pub leads : Leads first.items (at_states (names_in old) f) (names_in old).state

-- what a name's binding does to names, or that it isn't free
abbrev pub IsBound : Result (Unit {0}) Stop → Names → Names → ℕ → Option Binding → Type 0
IsBound (Ok done) old new line b = (bound_free old b ≡ None) × (new ≡ with_binding old b)
IsBound (Err (stop.Broken l rule)) old new line b = (bound_free old b ≡ Some rule) × (l ≡ line)
IsBound (Err stop.NoMemory) old new line b = Unit {0}

-- the first broken rule of a script
abbrev pub IsScriptJudged : Result (Unit {0}) Stop → Parts → Script → Type 0
IsScriptJudged (Ok done) scenario script = Accepted scenario script
IsScriptJudged (Err (stop.Broken line rule)) scenario script =
    first_broken_rule scenario script ≡ Some (record { line = line; rule = rule })
IsScriptJudged (Err stop.NoMemory) scenario script = Unit {0}

-- why a scenario isn't checked
abbrev pub IsFault : CheckFault → Parts → Type 0
IsFault (fault.Rejected script line rule) scenario = IsRejected scenario script.0 line rule
IsFault fault.NoMemory scenario = Unit {0}

-- the answer on a whole scenario
abbrev pub IsAnswer : Result (Unit {0}) CheckFault → Parts → Type 0
IsAnswer (Ok done) scenario = AllAccepted scenario
IsAnswer (Err f) scenario = IsFault f scenario
