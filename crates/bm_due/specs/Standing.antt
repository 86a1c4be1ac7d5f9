-- When the handlers of a processor's log stand exactly where they are due. (This project's own.)
use Rattle.std.specs.Prelude.{◌≡◌, ℕ, ◌+◌, Bool, true, false, not, ◌&&◌, ◌==◌, nat_eq, is_none, if◌then◌else◌, List, [], ◌∷◌, map, Option, Some, None, slice_get}
use Rattle.std.specs.Str.{bytes_eq}
use Rattle.bm_journal.specs.declared.entry.Entry.{Entry}
use Rattle.bm_journal.specs.declared.entry.Entry.TheVariants as entry
use Rattle.bm_journal.specs.declared.total.Total.TheVariants as total
use Rattle.bm_journal.specs.Totals.{counts_of, share_of}
use Rattle.bm_lang.specs.declared.scenario.AtLine.{AtLine}
use Rattle.bm_lang.specs.declared.scenario.Parts.{Parts}
use Rattle.bm_lang.specs.declared.scenario.Script.{Script}
use Rattle.bm_law.specs.Lists.{Log}
use Rattle.bm_due.specs.Due.{due_handler, left_after, planned_for}

-- What an entry does to the code that runs: a handler of this name begins, or goes back to what it interrupted; the
-- processor has ended; a step is taken; or none of these.
pub data Kind : Type 0 where
  Begins : List ℕ → Kind
  Returns : List ℕ → Kind
  Ends : Kind
  Steps : Kind
  Stays : Kind

-- steps are what the total of steps counts
abbrev pub step_or_not : ℕ → Kind
step_or_not steps = if (steps == 0) then Stays else Steps

abbrev pub kind_of : Entry → Kind
kind_of (entry.Handler name) = Begins name
kind_of (entry.Back name) = Returns name
kind_of entry.Ended = Ends
kind_of e = step_or_not (share_of total.Steps (counts_of e))

-- Where a processor is, after the entries of a front of its log.
pub record Standing : Type 0 where
  -- how many steps it took
  pub steps : ℕ
  -- the handlers that run, each of which interrupts the next one of this list, and the last one ordinary code
  pub running : List AtLine
  -- the handlers that haven't run, in the order of the text
  pub left : List AtLine
  -- whether it has ended
  pub ended : Bool
  -- whether a handler has just gone back: what it interrupted was about to take a step
  pub resumes : Bool

-- before the log, where these handlers are planned
abbrev pub at_first : List AtLine → Standing
at_first lines = record { steps = 0; running = []; left = lines; ended = false; resumes = false }

-- the level of the code that runs
abbrev pub level_of : List AtLine → ℕ
level_of [] = 0
level_of (line ∷ lines) = line.level

-- the handler that is due, and those that haven't run once it has begun
abbrev pub due_in : Standing → Option AtLine
due_in s = due_handler s.ended (s.steps + 1) (level_of s.running) s.left

abbrev pub left_in : Standing → List AtLine
left_in s = left_after s.ended (s.steps + 1) (level_of s.running) s.left

-- there is a name, and it is this one
abbrev pub is_name : List ℕ → Option (List ℕ) → Bool
is_name name None = false
is_name name (Some other) = bytes_eq name other

-- a handler of this level, whose script has this name among the scripts' names
abbrev pub is_called : List (List ℕ) → ℕ → List ℕ → AtLine → Bool
is_called names l name line = nat_eq l line.level && is_name name (slice_get names line.script.0)

-- A handler begins, which is the due one.
abbrev pub begun : List (List ℕ) → ℕ → List ℕ → Option AtLine → Standing → Option Standing
begun names l name None s = None
begun names l name (Some line) s =
    if is_called names l name line
    then Some (record s { running = line ∷ s.running; left = left_in s; resumes = false })
    else None

-- The innermost handler goes back, and no step of it was about to be taken.
abbrev pub returned : List (List ℕ) → ℕ → List ℕ → List AtLine → Standing → Option Standing
returned names l name [] s = None
returned names l name (line ∷ lines) s =
    if is_called names l name line && not s.resumes
    then Some (record s { running = lines; resumes = true }) else None

-- The processor ends, where no handler runs.
abbrev pub stopped : ℕ → List AtLine → Standing → Option Standing
stopped l [] s = if nat_eq l 0 && not s.resumes then Some (record s { ended = true }) else None
stopped l (line ∷ lines) s = None

-- The code that runs takes a step, before which no handler is due.
abbrev pub stepped : ℕ → Standing → Option Standing
stepped l s =
    if nat_eq l (level_of s.running) && is_none (due_in s)
    then Some (record s { steps = s.steps + 1; resumes = false }) else None

-- The code that runs leaves another entry, and was not about to take a step.
abbrev pub stayed : ℕ → Standing → Option Standing
stayed l s = if nat_eq l (level_of s.running) && not s.resumes then Some s else None

-- where a processor is after one more entry of level l, if that may stand there
abbrev pub after_kind : List (List ℕ) → ℕ → Kind → Standing → Option Standing
after_kind names l (Begins name) s = begun names l name (due_in s) s
after_kind names l (Returns name) s = returned names l name s.running s
after_kind names l Ends s = stopped l s.running s
after_kind names l Steps s = stepped l s
after_kind names l Stays s = stayed l s

-- where it is after some entries, if each of them may stand where it stands
abbrev pub standing_after : List (List ℕ) → Log → Option Standing → Option Standing
standing_after names [] s = s
standing_after names (e ∷ es) None = None
standing_after names (e ∷ es) (Some s) =
    standing_after names es (after_kind names e.0 (kind_of e.1) s)

-- no handler runs
abbrev pub is_nobody : List AtLine → Bool
is_nobody [] = true
is_nobody (line ∷ lines) = false

-- ordinary code runs, and is not about to take a step
abbrev pub is_ordinary : Option Standing → Bool
is_ordinary None = false
is_ordinary (Some s) = is_nobody s.running && not s.resumes

-- the log stands, where these handlers are planned and the scripts have these names
abbrev pub handlers_stand : List (List ℕ) → List AtLine → Log → Bool
handlers_stand names lines log = is_ordinary (standing_after names log (Some (at_first lines)))

-- In the log of processor p, each handler stands directly before a step where it is the due one, and before no step a
-- handler is due; each has gone back.
abbrev pub HandlersStand : Parts → ℕ → Log → Type 0
HandlersStand s p log =
    handlers_stand (map (λ (x : Script). x.name) s.scripts) (planned_for p s) log ≡ true
