-- What a call adds to the log of its processor. Handlers that come between add entries of higher levels.
-- (This project's own.)
use Rattle.std.specs.Prelude.{◌≡◌, ◌≤◌, ℕ, List, [], ◌∷◌, ◌++◌, Option, Some, None, if◌then◌else◌, eqb}
use Rattle.bm_journal.specs.declared.entry.Entry.{Entry}
use Rattle.bm_law.specs.Lists.{Log}

-- the entries of level l, in order
abbrev pub own_entries : ℕ → Log → List Entry
own_entries l [] = []
own_entries l (e ∷ es) = if eqb e.0 l then e.1 ∷ own_entries l es else own_entries l es

-- all entries are of level l and above
abbrev pub AllFrom : ℕ → Log → Type 0
AllFrom l [] = Unit {0}
AllFrom l (e ∷ es) = (l ≤ e.0) × AllFrom l es

-- A log was told, and it has grown by entries of level l and above, of which these are the entries of level l.
pub record Grew (l : ℕ) (own : List Entry) (before : Option Log) (now : Log) : Type 0 where
  pub log : Log
  pub told : before ≡ Some log
  pub added : Log
  pub now_is : now ≡ log ++ added
  pub from : AllFrom l added
  pub owned : own_entries l added ≡ own

-- the same, where the log is told now
abbrev pub Records : ℕ → List Entry → Option Log → Option Log → Type 0
Records l own before None = Unit {0}
Records l own before (Some now) = Grew l own before now

-- A log was told, and it has grown by entries of level l and above alone.
pub record Rose (l : ℕ) (before : Option Log) (now : Log) : Type 0 where
  pub log : Log
  pub told : before ≡ Some log
  pub added : Log
  pub now_is : now ≡ log ++ added
  pub from : AllFrom l added

-- the same, where the log is told now
abbrev pub Above : ℕ → Option Log → Option Log → Type 0
Above l before None = Unit {0}
Above l before (Some now) = Rose l before now
