-- Parts of a log, by which the phrases of deferred work are said. Such a phrase depends on what stands in the lists:
-- its conditions are read from the lists that the log leaves before the entry in question. (This project's own.)
use Rattle.std.specs.Prelude.{◌≡◌, ℕ, Bool, true, false, List, [], ◌++◌}
use Rattle.bm_journal.specs.declared.entry.Entry.{Entry}
use Rattle.bm_law.specs.State.{State}
use Rattle.bm_law.specs.Lists.{Log, after}
use Rattle.bm_law.specs.Spans.{AllFrom, own_entries}

-- a part of a log that begins with these lists
abbrev pub Part : Type 1
Part = State ℕ → Log → Type 0

-- nothing stands there
abbrev pub Nothing : Part
Nothing s part = part ≡ []

-- these entries of level l stand there, with whatever handlers between them and before the first
pub record Stand (l : ℕ) (own : List Entry) (s : State ℕ) (part : Log) : Type 0 where
  pub from : AllFrom l part
  pub own_is : own_entries l part ≡ own

-- entries of level l that a phrase allows
abbrev pub Say : ℕ → (List Entry → Type 0) → Part
Say l phrase s part = (own : List Entry) × phrase own × Stand l own s part

-- one part, and then another one, which begins with the lists that the first one leaves
pub record Then (first second : Part) (s : State ℕ) (part : Log) : Type 0 where
  pub one : Log
  pub two : Log
  pub part_is : part ≡ one ++ two
  pub is_first : first s one
  pub is_second : second (after s one) two

-- one part where a test holds, and another one where it doesn't
abbrev pub If : Bool → Part → Part → Part
If true first other = first
If false first other = other

-- a part that stands exactly where the lists are so
abbrev pub When : (State ℕ → Bool) → Part → Part
When test phrase s = If (test s) phrase Nothing s
