-- What each entry adds to the totals of a journal, and the totals of logs. (This project's own rules.)
use Rattle.std.specs.Prelude.{ℕ, ◌+◌, ◌-◌, ◌^◌, ◌==◌, if◌then◌else◌, min, List, [], ◌∷◌, map, Option, Some, None}
use Rattle.bm_journal.specs.declared.ids.Domain.TheVariants.{Plain, Tracing}
use Rattle.bm_journal.specs.declared.ids.ObjId.{ObjId}
use Rattle.bm_journal.specs.declared.ids.Domain.{Domain}
use Rattle.bm_journal.specs.declared.entry.Entry.{Entry}
use Rattle.bm_journal.specs.declared.entry.Entry.TheVariants as entry
use Rattle.bm_journal.specs.declared.total.Total.{Total}
use Rattle.bm_journal.specs.declared.total.Total.TheVariants as total
use Rattle.bm_journal.specs.TotalNames.{all_totals, total_place}
use Rattle.bm_journal.specs.UnitCount.{unit_count}

-- one step, and with it so many of another total
abbrev pub step : List (Total × ℕ)
step = (total.Steps, 1) ∷ []

abbrev pub step_and : Total → ℕ → List (Total × ℕ)
step_and t n = (total.Steps, 1) ∷ (t, n) ∷ []

-- one of a total
abbrev pub one : Total → List (Total × ℕ)
one t = (t, 1) ∷ []

-- a pop or a look at the least: it found an item, or none
abbrev pub popped : Option ObjId → List (Total × ℕ)
popped (Some o) = one total.Taken
popped None = one total.None

abbrev pub looked_up : Option ObjId → List (Total × ℕ)
looked_up (Some o) = []
looked_up None = one total.None

-- a grace period of a domain has ended
abbrev pub finished : Domain → List (Total × ℕ)
finished Plain = one total.Plain
finished Tracing = one total.Tracing

-- what one entry adds to which totals
abbrev pub counts_of : Entry → List (Total × ℕ)
-- the units of the opening are fetched; a handler counts where it begins
counts_of (entry.Fill c us) = (total.Fetched, unit_count us) ∷ []
counts_of (entry.Script name) = []
counts_of (entry.Done name) = []
counts_of (entry.Handler name) = one total.Handlers
counts_of (entry.Back name) = []
counts_of (entry.In d w) = []
counts_of (entry.Out d w) = []
counts_of entry.Yield = []
counts_of entry.Ended = []
counts_of entry.Close = []
-- the replies of `new`
counts_of (entry.New name vs) = []
counts_of (entry.Given u l) = one total.Given
counts_of (entry.GivenAfter u l s n) = one total.Given
counts_of entry.Empty = one total.Empty
counts_of (entry.Busy a) = one total.Busy
-- the replies of `drop`
counts_of (entry.Drop u l) = []
counts_of (entry.Still k) = one total.Still
counts_of entry.Last = one total.Last
counts_of (entry.Free u h) = []
counts_of (entry.Delay u h) = []
-- references and slots
counts_of (entry.Acquire u l k) = one total.Acquired
counts_of (entry.Get u l f v) = []
counts_of (entry.Xchg name put was by) = one total.Exchanged
counts_of (entry.Lock name) = []
counts_of (entry.Unlock name) = []
-- pushes and adds that were done
counts_of (entry.PushFront name u l pos) = one total.Pushed
counts_of (entry.PushBack name u l pos) = one total.Pushed
counts_of (entry.Add name u l pos) = one total.Pushed
-- those that were refused
counts_of (entry.PushFrontAlready name u l owner pos) = one total.Already
counts_of (entry.PushBackAlready name u l owner pos) = one total.Already
counts_of (entry.AddAlready name u l owner pos) = one total.Already
-- pops with an item and removes; pops and looks at the least without one
counts_of (entry.PopFront name x pos) = popped x
counts_of (entry.PopBack name x pos) = popped x
counts_of (entry.First name x pos) = looked_up x
counts_of (entry.Remove name u l pos) = one total.Taken
-- deferred work and grace periods
counts_of (entry.Work c) = one total.Worked
counts_of (entry.Begin d n) = []
counts_of (entry.Finish p) = finished p.domain
-- steps; one that raises the flag, fetches or returns units counts for that too
counts_of (entry.Enter c a) = step
counts_of (entry.Pop c u) = step
counts_of (entry.PopNone c) = step
counts_of (entry.Count c k) = step
counts_of (entry.Leave c a) = step
counts_of (entry.Raise c) = step_and total.Raised 1
counts_of (entry.Push c u) = step
counts_of (entry.Delayed c u) = step
counts_of (entry.Look c k) = step
counts_of (entry.Put c u) = step
counts_of (entry.Lost c) = step
counts_of (entry.LookDelayed c k) = step
counts_of (entry.PutDelayed c u) = step
counts_of (entry.LostDelayed c) = step
counts_of (entry.Receive c us) = step
counts_of (entry.Read c k) = step
counts_of (entry.Ready c u) = step
counts_of (entry.Second c u) = step
counts_of (entry.Fetch c want us) = step_and total.Fetched (unit_count us)
counts_of (entry.TakeExtra c us) = step
counts_of (entry.Send c p us) = step
counts_of (entry.TakeDelayed c us) = step
counts_of (entry.Batch c us) = step
counts_of (entry.Stamp c d s) = step
counts_of (entry.Pass c d n) = step
counts_of (entry.BeginSecond c us) = step
counts_of (entry.Return c us) = step_and total.Returned (unit_count us)
counts_of (entry.Sweep c us) = step

-- how much of it goes to this total
abbrev pub share_of : Total → List (Total × ℕ) → ℕ
share_of t [] = 0
share_of t (x ∷ xs) = (if total_place x.0 == total_place t then x.1 else 0) + share_of t xs

-- a total over a log, and over all logs
abbrev pub total_in : Total → List (ℕ × Entry) → ℕ
total_in t [] = 0
total_in t (x ∷ log) = share_of t (counts_of x.1) + total_in t log

abbrev pub total_over : Total → List (List (ℕ × Entry)) → ℕ
total_over t [] = 0
total_over t (log ∷ logs) = total_in t log + total_over t logs

-- the totals of logs in their order, each held at the greatest number of its type
abbrev pub totals_of : List (List (ℕ × Entry)) → List ℕ
totals_of logs = map (λ t. min (total_over t logs) (2 ^ 64 - 1)) all_totals
