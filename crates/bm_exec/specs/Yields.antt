-- Where a script yields. (This project's own language: with its `yield` the turn of a processor ends.)
use Rattle.std.specs.Prelude.{Bool, true, false, ℕ, List, [], ◌∷◌, ◌++◌, Option}
use Rattle.bm_journal.specs.declared.entry.Entry.{Entry}
use Rattle.bm_journal.specs.declared.entry.Entry.TheVariants as entry
use Rattle.bm_lang.specs.declared.scenario.Action.{Action, Yield}
use Rattle.bm_law.specs.Lists.{Log}
use Rattle.bm_law.specs.Spans.{Records}
use Rattle.bm_exec.specs.declared.running.Stopped.{Stopped}
use Rattle.bm_exec.specs.declared.running.Stopped.TheVariants as stopped

abbrev pub is_yield : Action → Bool
is_yield Yield = true
is_yield a = false

-- What a turn records before it ends: no yield, and no sweep, which is the closing's.
abbrev pub IsInTurn : Entry → Type 0
IsInTurn entry.Yield = ⊥
IsInTurn (entry.Sweep c us) = ⊥
IsInTurn e = Unit {0}

abbrev pub AllInTurn : List Entry → Type 0
AllInTurn [] = Unit {0}
AllInTurn (e ∷ own) = IsInTurn e × AllInTurn own

-- A log has grown by entries of level l and above, none of which is a yield or a sweep of that level.
pub record Unyielding (l : ℕ) (log log' : Option Log) : Type 0 where
  pub own : List Entry
  pub none : AllInTurn own
  pub records : Records l own log log'

-- .. and then by a yield, with which its entries of that level end.
pub record YieldsLast (l : ℕ) (log log' : Option Log) : Type 0 where
  pub own : List Entry
  pub none : AllInTurn own
  pub records : Records l (own ++ entry.Yield ∷ []) log log'

-- what a statement leaves, which is a yield or isn't
abbrev pub YieldsBy : Bool → ℕ → Option Log → Option Log → Type 0
YieldsBy false l log log' = Unyielding l log log'
YieldsBy true l log log' = YieldsLast l log log'

-- what a turn leaves by how it stopped: it goes up to and with the next yield, or without one to the end
abbrev pub IsTurn : Stopped → ℕ → Option Log → Option Log → Type 0
IsTurn stopped.Ended l log log' = Unyielding l log log'
IsTurn stopped.Yielded l log log' = YieldsLast l log log'
IsTurn stopped.NoMemory l log log' = Unit {0}

-- where memory didn't run out
abbrev pub IfWent : Stopped → Type 0 → Type 0
IfWent stopped.Ended P = P
IfWent stopped.Yielded P = P
IfWent stopped.NoMemory P = Unit {0}

abbrev pub HasWent : Stopped → Type 0
HasWent stopped.Ended = Unit {0}
HasWent stopped.Yielded = Unit {0}
HasWent stopped.NoMemory = ⊥
