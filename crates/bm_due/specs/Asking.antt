-- What code leaves in a log that asks before each of its steps which handler is due. (This project's own: it is how a
-- machine goes.)
use Rattle.std.specs.Prelude.{◌≡◌, ◌≢◌, ℕ, ◌+◌, Bool, List, [], ◌∷◌, ◌++◌, Option, Some, None, slice_get}
use Rattle.bm_journal.specs.declared.entry.Entry.{Entry}
use Rattle.bm_journal.specs.declared.entry.Entry.TheVariants as entry
use Rattle.bm_lang.specs.declared.scenario.AtLine.{AtLine}
use Rattle.bm_law.specs.Lists.{Log}
use Rattle.bm_due.specs.Due.{due_handler, left_after}
use Rattle.bm_due.specs.Standing.{Ends, Steps, Stays, kind_of}

-- how far a processor has come: how many steps it took, and the handlers that haven't run
pub record Progress : Type 0 where
  pub steps : ℕ
  pub left : List AtLine

-- the handler that is due before the next step, of code of level l
abbrev pub next_due : Bool → ℕ → Progress → Option AtLine
next_due ended l a = due_handler ended (a.steps + 1) l a.left

-- once it has begun
abbrev pub once_begun : Bool → ℕ → Progress → Progress
once_begun ended l a = record a { left = left_after ended (a.steps + 1) l a.left }

-- once a step was taken
abbrev pub once_stepped : Progress → Progress
once_stepped a = record a { steps = a.steps + 1 }

mutual
  -- Code of level l leaves entries that are no steps, and steps before each of which it asks.
  pub data Runs (names : List (List ℕ)) (ended : Bool) :
      ℕ → Progress → Log → Progress → Type 0 where
    done : {l : ℕ} {a : Progress} → Runs names ended l a [] a
    stays :
        {l : ℕ} {a b : Progress} {log : Log} (e : Entry) → kind_of e ≡ Stays
        → Runs names ended l a log b → Runs names ended l a ((l, e) ∷ log) b
    steps :
        {l : ℕ} {a m b : Progress} {handlers log : Log} (e : Entry) → kind_of e ≡ Steps
        → Asks names ended l a handlers m → Runs names ended l (once_stepped m) log b
        → Runs names ended l a (handlers ++ (l, e) ∷ log) b

  -- Where a handler is due it runs, as code of its own level, and then code asks again, until none is due.
  pub data Asks (names : List (List ℕ)) (ended : Bool) :
      ℕ → Progress → Log → Progress → Type 0 where
    nothing : {l : ℕ} {a : Progress} → next_due ended l a ≡ None → Asks names ended l a [] a
    handler :
        {l : ℕ} {a m b : Progress} {body more : Log} (line : AtLine) (name : List ℕ)
        → next_due ended l a ≡ Some line → slice_get names line.script.0 ≡ Some name
        → Runs names ended line.level (once_begun ended l a) body m → Asks names ended l m more b
        → Asks names ended l a
        ((line.level, entry.Handler name) ∷ body ++ (line.level, entry.Back name) ∷ more) b

-- the processor doesn't end in these entries
abbrev pub NoneEnds : Log → Type 0
NoneEnds [] = Unit {0}
NoneEnds (e ∷ es) = (kind_of e.1 ≢ Ends) × NoneEnds es
