-- Worked orders of two processors. Units are of class 10, whose units have 4096 bytes, so that a page has one unit: those of three pages
-- are 0, 256 and 512.
use Rattle.std.specs.Prelude.{ℕ, List, [], ◌∷◌, ◌++◌}
use Rattle.bm_journal.specs.declared.ids.Domain.TheVariants.{Plain, Tracing}
use Rattle.bm_journal.specs.declared.period.Period.{Period}
use Rattle.bm_journal.specs.declared.units.Units.TheVariants.{Whole}
use Rattle.bm_journal.specs.declared.entry.Entry.{Entry}
use Rattle.bm_journal.specs.declared.entry.Entry.TheVariants as entry
use Rattle.bm_law.specs.Lists.{Log}
use Rattle.bm_law_order.specs.Orders.{Order, by, part_of}
use Rattle.bm_law_order.specs.Story.{at_level}

-- entries of level 0 of processor p
abbrev pub entries : ℕ → List Entry → Order
entries p es = by p (at_level 0 es)

-- ---- a period that waits for a section

abbrev pub fills : Order
fills =
    entries 0 (entry.Fill 10 (Whole (0 ∷ [])) ∷ [])
    ++ entries 1 (entry.Fill 10 (Whole (256 ∷ [])) ∷ [])

-- Processor 1 enters a section. Processor 0 allocates a unit and frees it with delay. It defers the unit and fetches three, of which
-- there is one; it stamps what is deferred, and begins a period.
abbrev pub first_turns : Order
first_turns =
    entries 1 (entry.In Plain 1 ∷ entry.Yield ∷ [])
    ++ entries 0 (entry.In Plain 1 ∷ entry.Enter 10 1 ∷ entry.Pop 10 0 ∷ entry.Count 10 0
    ∷ entry.Leave 10 0 ∷ entry.Given 0 1
    ∷ entry.Drop 0 1 ∷ entry.Last ∷ entry.Delay 0 0 ∷ entry.Enter 10 1 ∷ entry.Delayed 10 0
    ∷ entry.Leave 10 0 ∷ entry.Out Plain 2
    ∷ entry.Receive 10 (Whole []) ∷ entry.Fetch 10 3 (Whole (512 ∷ [])) ∷ entry.Stamp 10 Plain 2
    ∷ entry.Begin Plain 1 ∷ entry.Pass 10 Plain 1
    ∷ entry.Yield ∷ [])

-- the period of processor 0 with the words of both processors: as they were at its begin, and as they are found
abbrev pub period : List ℕ → Period
period later = record { domain = Plain; number = 2; first = 2 ∷ 1 ∷ []; later = later }

-- Processor 1 leaves its section, and the period ends. The unit goes through the inbox of its home back to the stock.
abbrev pub last_turns : Order
last_turns =
    entries 1 (entry.Out Plain 2 ∷ [])
    ++ entries 0 (entry.Finish (period (2 ∷ 2 ∷ [])) ∷ entry.Pass 10 Plain 2
    ∷ entry.Send 10 0 (Whole (0 ∷ [])) ∷ entry.Receive 10 (Whole (0 ∷ []))
    ∷ entry.Receive 10 (Whole []) ∷ entry.Return 10 (Whole (0 ∷ [])) ∷ [])

abbrev pub right_order : Order
right_order = fills ++ (first_turns ++ last_turns)

-- the logs of both processors; the turns in which they make this order are of processors 1, 0, 1 and 0
abbrev pub right_logs : List Log
right_logs = part_of 0 right_order ∷ part_of 1 right_order ∷ []

-- The period ends while the section is open that was open at its begin.
abbrev pub too_early : Order
too_early = fills ++ (first_turns ++ entries 0 (entry.Finish (period (2 ∷ 1 ∷ [])) ∷ []))

-- The period ends by another processor than the one that began it.
abbrev pub other_driver : Order
other_driver =
    fills
    ++ (first_turns ++ entries 1 (entry.Out Plain 2 ∷ entry.Finish (period (2 ∷ 2 ∷ [])) ∷ []))

-- What is stamped while the period is in progress gets the number of its end, where it must wait for the next one.
abbrev pub early_stamp : Order
early_stamp = fills ++ (first_turns ++ entries 1 (entry.Stamp 10 Plain 2 ∷ []))

-- The section ends with a word that isn't the next one.
abbrev pub other_word : Order
other_word = fills ++ (first_turns ++ entries 1 (entry.Out Plain 4 ∷ []))

-- ---- units

-- The fetch gives another unit than the stock does.
abbrev pub other_unit : Order
other_unit = fills ++ entries 0 (entry.Fetch 10 1 (Whole (768 ∷ [])) ∷ [])

-- The fetch gives the unit of a page that was taken before.
abbrev pub taken_page : Order
taken_page = fills ++ entries 0 (entry.Fetch 10 1 (Whole (256 ∷ [])) ∷ [])

-- Two units are fetched, and the greater one comes first.
abbrev pub greater_first : Order
greater_first = entries 0 (entry.Fetch 10 2 (Whole (256 ∷ 0 ∷ [])) ∷ [])

-- Two units are fetched, and one comes, though there are three.
abbrev pub too_few : Order
too_few = entries 0 (entry.Fetch 10 2 (Whole (0 ∷ [])) ∷ [])

-- A unit is returned that isn't out any more.
abbrev pub returned_twice : Order
returned_twice =
    fills ++ entries 0 (entry.Return 10 (Whole (0 ∷ [])) ∷ entry.Return 10 (Whole (0 ∷ [])) ∷ [])

-- A unit is given a life again while it lives.
abbrev pub given_twice : Order
given_twice = fills ++ entries 0 (entry.Given 0 1 ∷ entry.Given 0 2 ∷ [])

-- A life of processor 0 is freed to processor 1.
abbrev pub other_home : Order
other_home =
    fills ++ entries 0 (entry.Given 0 1 ∷ entry.Drop 0 1 ∷ entry.Last ∷ entry.Free 0 1 ∷ [])

-- ---- parcels

-- Processor 0 sends processor 1 two parcels, and this one is received.
abbrev pub two_sent : ℕ → Order
two_sent unit =
    fills
    ++ (entries 0 (entry.Send 10 1 (Whole (0 ∷ [])) ∷ entry.Send 10 1 (Whole (256 ∷ [])) ∷ [])
    ++ entries 1 (entry.Receive 10 (Whole (unit ∷ [])) ∷ []))

-- The sweep of the inbox leaves the parcel that waits there.
abbrev pub left_behind : Order
left_behind =
    fills
    ++ (entries 0 (entry.Send 10 1 (Whole (0 ∷ [])) ∷ [])
    ++ entries 1 (entry.Sweep 10 (Whole []) ∷ []))

-- ---- a closing

-- Processor 0 sweeps its unit, and a tracing period passes before the unit goes back, with these numbers: the stamp of what it swept,
-- the one at the begin of the period, the one at its end, and the one that it sees then.
abbrev pub closes : (stamp begun ended seen : ℕ) → Order
closes stamp begun ended seen =
    fills
    ++ entries 0 (entry.Sweep 10 (Whole (0 ∷ [])) ∷ entry.Stamp 10 Tracing stamp
    ∷ entry.Begin Tracing begun
    ∷ entry.Finish
    (record {
      domain = Tracing;
      number = ended;
      first = 0 ∷ 0 ∷ 0 ∷ 0 ∷ [];
      later = 0 ∷ 0 ∷ 0 ∷ 0 ∷ [];
    })
    ∷ entry.Pass 10 Tracing seen ∷ entry.Return 10 (Whole (0 ∷ [])) ∷ [])
