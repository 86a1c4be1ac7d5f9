-- Which entries of a level stand for which acts. (This project's own: journals are.)
use Rattle.std.specs.Prelude.{◌≡◌, ℕ, Bool, true, false, if◌then◌else◌, Option, None, Some, List, [], ◌∷◌, ◌++◌, map}
use Rattle.std.specs.List.{concat}
use Rattle.bm_journal.specs.declared.ids.Domain.{Domain}
use Rattle.bm_journal.specs.declared.ids.ObjId.{ObjId}
use Rattle.bm_journal.specs.declared.ids.Tag.{Tag}
use Rattle.bm_journal.specs.declared.past.PastCall.{PastCall}
use Rattle.bm_journal.specs.declared.period.Period.{Period}
use Rattle.bm_journal.specs.declared.units.Units.TheVariants.{Whole}
use Rattle.bm_journal.specs.declared.entry.Entry.{Entry}
use Rattle.bm_journal.specs.declared.entry.Entry.TheVariants as entry
use Rattle.bm_graph.specs.Entries.{call_entry}
use Rattle.bm_law.specs.Pages.{prefill}
use Rattle.bm_page.specs.declared.units.Seal.{Seal}
use Rattle.bm_law.specs.Phrases.{given}
use Rattle.bm_law_order.specs.Act.{Act, Sealed, units_of}
use Rattle.bm_law_order.specs.Act as act
use Rattle.bm_law_order.specs.Quiet.{is_quiet}

-- Acts that belong together, with their entries. A period that begins is looked at before anything else is done, and one that
-- ends was looked at directly before. A sweep receives parcels until there is none.
pub data Chunk : Type 0 where
  Quiet : (e : Entry) → is_quiet e ≡ true → Chunk
  Looking : Domain → List ℕ → Chunk
  Asking : Domain → (stamp number : ℕ) → Chunk
  Missing : Domain → (even number : ℕ) → Chunk
  Entering : Domain → (word : ℕ) → Chunk
  Leaving : Domain → (word : ℕ) → Chunk
  Stamping : (class : ℕ) → Domain → (stamp : ℕ) → Chunk
  Passing : (class : ℕ) → Domain → (stamp number : ℕ) → Chunk
  Beginning : Domain → (number : ℕ) → List ℕ → Chunk
  Finishing : List ℕ → Period → Chunk
  WholePeriod : (number : ℕ) → List ℕ → Period → Chunk
  Filling : (class : ℕ) → List ℕ → Chunk
  Fetching : (class want : ℕ) → List ℕ → Chunk
  Returning : (class : ℕ) → List Sealed → Chunk
  Sending : (class to : ℕ) → List Sealed → Chunk
  Draining : (class to : ℕ) → List ℕ → Chunk
  Releasing : (class to : ℕ) → List ℕ → (stamp seen : ℕ) → Chunk
  GivingBack : (class : ℕ) → List ℕ → Chunk
  Receiving : (class : ℕ) → List ℕ → Chunk
  FindingNone : (class : ℕ) → Chunk
  Sweeping : (class : ℕ) → List ℕ → List (List ℕ) → Chunk
  Making : (unit life type : ℕ) → (values : List ℕ) → Option Seal → Chunk
  Acquiring : (unit life seen : ℕ) → Chunk
  Finding : (unit life place value : ℕ) → Chunk
  Exchanging : (name : List ℕ) (put was : Option ObjId) (by : Option Tag) (tag : Tag) → Chunk
  Locking : (graph : List ℕ) → Chunk
  Unlocking : (graph : List ℕ) → Chunk
  Calling : (graph : List ℕ) (position : ℕ) (call : PastCall) (owner : List ℕ) (tag : Tag) → Chunk
  GivingUp : (unit life seen : ℕ) → Chunk
  Ending : (unit life home : ℕ) → (delayed : Bool) → Chunk

-- a seal as an entry names it: the plain stamp and the number seen
abbrev pub seal_told : Option Seal → Option (ℕ × ℕ)
seal_told None = None
seal_told (Some seal) = Some (seal.stamp, seal.seen)

abbrev pub acts_of : Chunk → List Act
acts_of (Quiet e q) = []
acts_of (Looking d ws) = act.Looks d ws ∷ []
acts_of (Asking d x n) = act.Reads d x n ∷ []
acts_of (Missing d even n) = act.Misses d even n ∷ []
acts_of (Entering d w) = act.Enters d w ∷ []
acts_of (Leaving d w) = act.Leaves d w ∷ []
acts_of (Stamping c d x) = act.Stamps d x ∷ []
acts_of (Passing c d x n) = act.Reads d x n ∷ []
acts_of (Beginning d n ws) = act.Begins d n ∷ act.Looks d ws ∷ []
acts_of (Finishing ws p) = act.Looks p.domain ws ∷ act.Finishes p ∷ []
acts_of (WholePeriod n ws p) = act.Begins p.domain n ∷ act.Looks p.domain ws ∷ act.Finishes p ∷ []
acts_of (Filling c us) = act.Fetches c (prefill c) us ∷ []
acts_of (Fetching c want us) = act.Fetches c want us ∷ []
acts_of (Returning c us) = act.Returns us ∷ []
acts_of (Sending c to us) = act.Sends c to us ∷ []
acts_of (Draining c to us) = act.Drains c to us ∷ []
acts_of (Releasing c to us stamp seen) = act.Releases c to us stamp seen ∷ []
acts_of (GivingBack c us) = act.GivesBack us ∷ []
acts_of (Receiving c us) = act.Receives c us ∷ []
acts_of (FindingNone c) = act.Receives c [] ∷ []
acts_of (Sweeping c us parcels) = map (act.Receives c) parcels ++ act.Receives c [] ∷ []
acts_of (Making u life type values seal) = act.Makes u life type values seal ∷ []
acts_of (Acquiring u life seen) = act.Acquires u life seen ∷ []
acts_of (Finding u life place value) = act.Finds u life place value ∷ []
acts_of (Exchanging name put was by tag) = act.Exchanges name put was by tag ∷ []
acts_of (Locking graph) = []
acts_of (Unlocking graph) = []
acts_of (Calling graph position call owner tag) = act.Calls graph position call tag ∷ []
acts_of (GivingUp u life seen) = act.GivesUp u life seen ∷ []
acts_of (Ending u life home delayed) = act.Ends u life home delayed ∷ []

abbrev pub entries_of : Chunk → List Entry
entries_of (Quiet e q) = e ∷ []
entries_of (Entering d w) = entry.In d w ∷ []
entries_of (Leaving d w) = entry.Out d w ∷ []
entries_of (Stamping c d x) = entry.Stamp c d x ∷ []
entries_of (Passing c d x n) = entry.Pass c d n ∷ []
entries_of (Beginning d n ws) = entry.Begin d n ∷ []
entries_of (Finishing ws p) = entry.Finish p ∷ []
entries_of (WholePeriod n ws p) = entry.Begin p.domain n ∷ entry.Finish p ∷ []
entries_of (Filling c us) = entry.Fill c (Whole us) ∷ []
entries_of (Fetching c want us) = entry.Fetch c want (Whole us) ∷ []
entries_of (Returning c us) = entry.Return c (Whole (units_of us)) ∷ []
entries_of (Sending c to us) = entry.Send c to (Whole (units_of us)) ∷ []
entries_of (Draining c to us) = entry.Send c to (Whole us) ∷ []
entries_of (Releasing c to us stamp seen) = entry.Send c to (Whole us) ∷ []
entries_of (GivingBack c us) = entry.Return c (Whole us) ∷ []
entries_of (Receiving c us) = entry.Receive c (Whole us) ∷ []
entries_of (Sweeping c us parcels) = entry.Sweep c (Whole (us ++ concat parcels)) ∷ []
entries_of (Making u life type values seal) = given u life (seal_told seal) ∷ []
entries_of (Acquiring u life seen) = entry.Acquire u life seen ∷ []
entries_of (Finding u life place value) = entry.Get u life place value ∷ []
entries_of (Exchanging name put was by tag) = entry.Xchg name put was by ∷ []
entries_of (Locking graph) = entry.Lock graph ∷ []
entries_of (Unlocking graph) = entry.Unlock graph ∷ []
entries_of (Calling graph position call owner tag) = call_entry graph position owner call ∷ []
entries_of (GivingUp u life seen) = entry.Drop u life ∷ entry.Still seen ∷ []
entries_of (Ending u life home delayed) =
    entry.Drop u life ∷ entry.Last ∷ (if delayed then entry.Delay u home else entry.Free u home)
    ∷ []
entries_of _ = []

-- What a pass, a period that begins, a given unit, an exchange, a lock, a call on a list or tree, the end of a life and a batch that goes away say is judged by the log before them, and
-- so is what is sent or returned where nobody tells what it waits for; what other chunks say, by themselves.
abbrev pub is_judged : Chunk → Bool
is_judged (Passing c d x n) = true
is_judged (Beginning d n ws) = true
is_judged (WholePeriod n ws p) = true
is_judged (Making u life type values seal) = true
is_judged (Exchanging name put was by tag) = true
is_judged (Locking graph) = true
is_judged (Unlocking graph) = true
is_judged (Calling graph position call owner tag) = true
is_judged (Ending u life home delayed) = true
is_judged (Releasing c to us stamp seen) = true
is_judged (Returning c us) = true
is_judged (Sending c to us) = true
is_judged _ = false

-- these entries stand for these acts, whatever the log before
pub record Shows (acts : List Act) (entries : List Entry) : Type 0 where
  pub chunk : Chunk
  pub free : is_judged chunk ≡ false
  pub acts_are : acts_of chunk ≡ acts
  pub entries_are : entries_of chunk ≡ entries
