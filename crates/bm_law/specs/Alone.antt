-- What a call adds to the log of its processor where no handler comes between. (This project's own.)
use Rattle.std.specs.Prelude.{◌≡◌, ℕ, List, [], ◌∷◌, ◌++◌, Option, Some, None}
use Rattle.bm_journal.specs.declared.entry.Entry.{Entry}
use Rattle.bm_law.specs.Lists.{Log}

-- entries as a log has them, all at level l
abbrev pub at_level : ℕ → List Entry → Log
at_level l [] = []
at_level l (e ∷ es) = (l, e) ∷ at_level l es

-- all entries are of level l
abbrev pub AllAt : ℕ → Log → Type 0
AllAt l [] = Unit {0}
AllAt l (e ∷ es) = (e.0 ≡ l) × AllAt l es

-- A log was told, and it has grown by entries of level l alone.
pub record GrewAt (l : ℕ) (before : Option Log) (now : Log) : Type 0 where
  pub log : Log
  pub told : before ≡ Some log
  pub added : Log
  pub now_is : now ≡ log ++ added
  pub at : AllAt l added

-- the same, where the log is told now
abbrev pub Alone : ℕ → Option Log → Option Log → Type 0
Alone l before None = Unit {0}
Alone l before (Some now) = GrewAt l before now

-- A log was told, and it has grown by exactly these entries, all at level l.
pub record Gained (l : ℕ) (own : List Entry) (before : Option Log) (now : Log) : Type 0 where
  pub log : Log
  pub told : before ≡ Some log
  pub now_is : now ≡ log ++ at_level l own

-- the same, where the log is told now
abbrev pub Adds : ℕ → List Entry → Option Log → Option Log → Type 0
Adds l own before None = Unit {0}
Adds l own before (Some now) = Gained l own before now
