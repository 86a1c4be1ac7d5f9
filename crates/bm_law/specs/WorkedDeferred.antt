-- Worked logs with deferred work.
use Rattle.std.specs.Prelude.{ℕ, ◌+◌, Option, Some, None, List, [], ◌∷◌, ◌++◌, codes, map, zero, suc, reverse}
use Rattle.bm_journal.specs.declared.ids.Domain.TheVariants.{Plain, Tracing}
use Rattle.bm_journal.specs.declared.units.Units.TheVariants.{Whole}
use Rattle.bm_journal.specs.declared.entry.Entry.{Entry}
use Rattle.bm_journal.specs.declared.entry.Entry.TheVariants as entry
use Rattle.bm_law.specs.State.{State, Row}
use Rattle.bm_law.specs.Lists.{Log}
use Rattle.bm_law.specs.Phrases.{added, alloc_took}

-- entries of this level
abbrev pub at : ℕ → List Entry → Log
at l es = map (λ e. (l, e)) es

-- the numbers from n on, so many
abbrev pub count_from : ℕ → ℕ → List ℕ
count_from n zero = []
count_from n (suc k) = n ∷ count_from (n + 1) k

-- the cache of class c after a log
abbrev pub cache_of : ℕ → Option (State ℕ) → Option (Row ℕ)
cache_of c (Some s) = Some (s.rows c)
cache_of c None = None

-- additions of these units to Free, whose count was k
abbrev pub adds : ℕ → ℕ → List ℕ → List Entry
adds c k [] = []
adds c k (u ∷ us) = added c u (k + 1) 0 ++ adds c (k + 1) us

-- One processor with seven units of 4096 bytes, class 10, in Free, at the start of its deferred work. At the point before
-- the third step a handler allocates all seven. So the drain finds none; the flag, which the work lowered, is up.
abbrev pub all_taken : ℕ → List ℕ → List Entry
all_taken k [] = []
all_taken zero us = []
all_taken (suc k) (u ∷ us) =
    entry.New (codes "block") [] ∷ alloc_took 10 u 1 None k 0 ++ all_taken k us

abbrev pub work_overtaken : Log
work_overtaken =
    at 0 (
    entry.Fill 10 (Whole (0 ∷ 256 ∷ 512 ∷ 768 ∷ 1024 ∷ 1280 ∷ 1536 ∷ [])) ∷
    entry.Work 10 ∷
    entry.Receive 10 (Whole []) ∷
    entry.Read 10 7 ∷ [])
    ++ at 1 (all_taken 7 (1536 ∷ 1280 ∷ 1024 ∷ 768 ∷ 512 ∷ 256 ∷ 0 ∷ []))
    ++ at 0 (
    entry.Enter 10 1 ∷
    entry.PopNone 10 ∷
    entry.Leave 10 0 ∷
    entry.TakeExtra 10 (Whole []) ∷
    entry.Enter 10 1 ∷
    entry.TakeDelayed 10 (Whole []) ∷
    entry.Leave 10 0 ∷ [])

-- Processor 0 of two, with units of 32 bytes, class 1, and delayed frees. An object is made; the deferred work brings 48
-- units more. The object is dropped and becomes First; the work after the script begins a grace period, which another
-- processor holds up. A second object is made and dropped meanwhile. Then the period ends: the first unit is sent, to
-- this very processor, and the second one becomes First.
abbrev pub first_batch : Log
first_batch =
    at 0 (
    entry.Fill 1 (Whole (0 ∷ 1 ∷ 2 ∷ 3 ∷ [])) ∷
    entry.Script (codes "main") ∷
    entry.In Plain 1 ∷
    entry.New (codes "obj") (5 ∷ []) ∷ alloc_took 1 3 1 None 3 0 ++
    entry.Work 1 ∷
    entry.Receive 1 (Whole []) ∷
    entry.Read 1 3 ∷
    entry.Fetch 1 48 (Whole (count_from 8 48)) ∷ adds 1 3 (count_from 8 48) ++
    entry.Enter 1 1 ∷
    entry.TakeDelayed 1 (Whole []) ∷
    entry.Leave 1 0 ∷
    entry.Drop 3 1 ∷
    entry.Last ∷
    entry.Delay 3 0 ∷
    entry.Enter 1 1 ∷
    entry.Delayed 1 3 ∷
    entry.Leave 1 0 ∷
    entry.Raise 1 ∷
    entry.Work 1 ∷
    entry.Receive 1 (Whole []) ∷
    entry.Read 1 51 ∷
    entry.Enter 1 1 ∷
    entry.TakeDelayed 1 (Whole []) ∷
    entry.Batch 1 (Whole (3 ∷ [])) ∷
    entry.Leave 1 0 ∷
    entry.Stamp 1 Plain 2 ∷ [])

abbrev pub second_batch : Log
second_batch =
    first_batch ++ at 0 (
    entry.Out Plain 2 ∷
    entry.Done (codes "main") ∷
    entry.Work 1 ∷
    entry.Receive 1 (Whole []) ∷
    entry.Read 1 51 ∷
    entry.Begin Plain 1 ∷
    entry.Pass 1 Plain 1 ∷
    entry.Enter 1 1 ∷
    entry.TakeDelayed 1 (Whole []) ∷
    entry.Leave 1 0 ∷
    entry.Script (codes "again") ∷
    entry.In Plain 3 ∷
    entry.Yield ∷
    entry.New (codes "obj") (6 ∷ []) ∷ alloc_took 1 55 1 None 50 0 ++
    entry.Drop 55 1 ∷
    entry.Last ∷
    entry.Delay 55 0 ∷
    entry.Enter 1 1 ∷
    entry.Delayed 1 55 ∷
    entry.Leave 1 0 ∷
    entry.Out Plain 4 ∷
    entry.Done (codes "again") ∷
    entry.Work 1 ∷
    entry.Receive 1 (Whole []) ∷
    entry.Read 1 50 ∷
    entry.Finish (record { domain = Plain; number = 2; first = 2 ∷ 1 ∷ []; later = 4 ∷ 2 ∷ [] }) ∷
    entry.Pass 1 Plain 2 ∷
    entry.Send 1 0 (Whole (3 ∷ [])) ∷
    entry.Enter 1 1 ∷
    entry.TakeDelayed 1 (Whole []) ∷
    entry.Batch 1 (Whole (55 ∷ [])) ∷
    entry.Leave 1 0 ∷
    entry.Stamp 1 Plain 4 ∷ [])

-- what stands in Free then, from the top
abbrev pub free_then : List ℕ
free_then = reverse (0 ∷ 1 ∷ 2 ∷ count_from 8 47)

-- The closing at once: the sweep takes the lists, and the parcel out of the inbox.
abbrev pub swept_up : Log
swept_up =
    second_batch ++ at 0 (
    entry.Ended ∷
    entry.Close ∷
    entry.Sweep 1 (Whole (free_then ++ 55 ∷ 3 ∷ [])) ∷
    entry.Stamp 1 Tracing 2 ∷
    entry.Begin Tracing 1 ∷
    entry.Finish
    (record {
      domain = Tracing;
      number = 2;
      first = 4 ∷ 0 ∷ 2 ∷ 0 ∷ [];
      later = 4 ∷ 0 ∷ 2 ∷ 0 ∷ [];
    })
    ∷
    entry.Pass 1 Tracing 2 ∷
    entry.Return 1 (Whole (free_then ++ 55 ∷ 3 ∷ [])) ∷ [])

-- Another end: two more works take the parcel in, and begin and end the second stage.
abbrev pub second_stage : Log
second_stage =
    second_batch ++ at 0 (
    entry.Work 1 ∷
    entry.Receive 1 (Whole (3 ∷ [])) ∷
    entry.Receive 1 (Whole []) ∷
    entry.Read 1 50 ∷
    entry.Begin Plain 3 ∷
    entry.Pass 1 Plain 3 ∷
    entry.Enter 1 1 ∷
    entry.TakeDelayed 1 (Whole []) ∷
    entry.Leave 1 0 ∷
    entry.BeginSecond 1 (Whole (3 ∷ [])) ∷
    entry.Stamp 1 Tracing 2 ∷ [])

abbrev pub second_returned : Log
second_returned =
    second_stage ++ at 0 (
    entry.Work 1 ∷
    entry.Receive 1 (Whole []) ∷
    entry.Read 1 50 ∷
    entry.Pass 1 Plain 3 ∷
    entry.Enter 1 1 ∷
    entry.TakeDelayed 1 (Whole []) ∷
    entry.Leave 1 0 ∷
    entry.Begin Tracing 1 ∷
    entry.Finish
    (record {
      domain = Tracing;
      number = 2;
      first = 4 ∷ 0 ∷ 2 ∷ 0 ∷ [];
      later = 4 ∷ 0 ∷ 2 ∷ 0 ∷ [];
    })
    ∷
    entry.Pass 1 Tracing 2 ∷
    entry.Return 1 (Whole (3 ∷ [])) ∷ [])
