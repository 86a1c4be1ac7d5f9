-- Worked journals, by their logs. Units are of class 10, which holds 4096 bytes. Entries of which no law here speaks are left
-- out: scripts, flags, reads of the count, receives of nothing; and calls for objects but in the first journal by hand, which is judged
-- by laws that speak of them too.
use Rattle.std.specs.Prelude.{ℕ, ◌+◌, List, [], ◌∷◌, ◌++◌, codes}
use Rattle.bm_journal.specs.declared.ids.Domain.{Domain}
use Rattle.bm_journal.specs.declared.ids.Domain.TheVariants.{Plain, Tracing}
use Rattle.bm_journal.specs.declared.units.Units.TheVariants.{Whole}
use Rattle.bm_journal.specs.declared.entry.Entry.{Entry}
use Rattle.bm_journal.specs.declared.entry.Entry.TheVariants as entry
use Rattle.bm_law.specs.Alone.{at_level}
use Rattle.bm_law.specs.Lists.{Log}
use Rattle.bm_law.specs.Ordinary.{ordinary}
use Rattle.bm_law_lives.specs.WorkedBlock.{one_block_log}

-- ---- parts

-- Free is opened with these units
abbrev pub opens : List ℕ → List Entry
opens units = entry.Fill 10 (Whole units) ∷ []

-- the one unit of Free is taken, and given by this reply
abbrev pub gives : ℕ → Entry → List Entry
gives u reply = entry.Enter 10 1 ∷ entry.Pop 10 u ∷ entry.Count 10 0 ∷ entry.Leave 10 0 ∷ reply ∷ []

-- a call for a block without fields
abbrev pub asks : Entry
asks = entry.New (codes "block") []

-- a unit in hand becomes the one unit of Free
abbrev pub pushes : ℕ → List Entry
pushes u = entry.Enter 10 1 ∷ entry.Push 10 u ∷ entry.Count 10 1 ∷ entry.Leave 10 0 ∷ []

-- this life of a unit ends by a plain free, and by a delayed one, to this home
abbrev pub frees : ℕ → ℕ → ℕ → List Entry
frees u life home = entry.Drop u life ∷ entry.Last ∷ entry.Free u home ∷ pushes u

abbrev pub delays : ℕ → ℕ → ℕ → List Entry
delays u life home =
    entry.Drop u life ∷ entry.Last ∷ entry.Delay u home ∷ entry.Enter 10 1 ∷ entry.Delayed 10 u
    ∷ entry.Leave 10 0 ∷ []

-- a period begins with n and ends
abbrev pub ends : Domain → ℕ → List ℕ → List ℕ → Entry
ends d n first later =
    entry.Finish (record { domain = d; number = n; first = first; later = later })

abbrev pub period : Domain → ℕ → List ℕ → List ℕ → List Entry
period d n first later = entry.Begin d n ∷ ends d (n + 1) first later ∷ []

-- what was freed with delay becomes a plain batch with this stamp
abbrev pub batches : ℕ → ℕ → List Entry
batches u stamp =
    entry.Enter 10 1 ∷ entry.TakeDelayed 10 (Whole []) ∷ entry.Batch 10 (Whole (u ∷ []))
    ∷ entry.Leave 10 0 ∷ entry.Stamp 10 Plain stamp ∷ []

-- the number is seen, and the plain batch goes to a processor
abbrev pub sends : ℕ → ℕ → ℕ → List Entry
sends u seen to = entry.Pass 10 Plain seen ∷ entry.Send 10 to (Whole (u ∷ [])) ∷ []

-- Ready becomes a tracing batch with this stamp
abbrev pub seconds : ℕ → ℕ → List Entry
seconds u stamp = entry.BeginSecond 10 (Whole (u ∷ [])) ∷ entry.Stamp 10 Tracing stamp ∷ []

-- the number is seen, and the tracing batch goes back to the stock
abbrev pub returns : ℕ → ℕ → List Entry
returns u seen = entry.Pass 10 Tracing seen ∷ entry.Return 10 (Whole (u ∷ [])) ∷ []

-- the closing sweeps a unit
abbrev pub sweeps : ℕ → ℕ → List Entry
sweeps u stamp = entry.Sweep 10 (Whole (u ∷ [])) ∷ entry.Stamp 10 Tracing stamp ∷ []

-- ---- right journals

-- One processor makes a block and drops it; the journal is told whole in bm_law_scenario.
abbrev pub one_block : List Log
one_block = one_block_log ∷ []

-- One processor frees unit 0 with delay. It goes through both stages to the stock, is fetched, given a second life with its
-- seal, and swept at the end.
abbrev pub first_life : List Entry
first_life =
    opens (0 ∷ []) ++ entry.In Plain 1 ∷ asks ∷ gives 0 (entry.Given 0 1) ++ delays 0 1 0
    ++ entry.Out Plain 2 ∷ []

abbrev pub first_stage : List Entry
first_stage = batches 0 2 ++ period Plain 1 (2 ∷ []) (2 ∷ []) ++ sends 0 2 0

abbrev pub second_stage : List Entry
second_stage =
    entry.Receive 10 (Whole (0 ∷ [])) ∷ seconds 0 2 ++ period Tracing 1 (2 ∷ 0 ∷ []) (2 ∷ 0 ∷ [])
    ++ returns 0 2

abbrev pub given_second : Entry → List Entry
given_second reply =
    entry.Fetch 10 3 (Whole (0 ∷ [])) ∷ pushes 0 ++ entry.In Plain 3 ∷ asks ∷ gives 0 reply

abbrev pub second_life : Entry → ℕ → List Entry
second_life reply life = given_second reply ++ frees 0 life 0 ++ entry.Out Plain 4 ∷ []

abbrev pub swept_at_last : List Entry
swept_at_last =
    entry.Ended ∷ entry.Close ∷ sweeps 0 4 ++ period Tracing 3 (4 ∷ 0 ∷ []) (4 ∷ 0 ∷ [])
    ++ returns 0 4

abbrev pub both_stages : List Log
both_stages =
    ordinary
    (first_life ++ first_stage ++ second_stage ++ second_life (entry.GivenAfter 0 2 2 2) 2
    ++ swept_at_last)
    ∷ []

-- Two processors. Processor 0 gives unit 0, and processor 1 frees it with delay: it waits there until the section that
-- processor 0 is in has ended, and goes home as a parcel. Processor 0 gives it a second life, with the seal.
abbrev pub lends : List Entry
lends = opens (0 ∷ []) ++ entry.In Plain 1 ∷ gives 0 (entry.Given 0 1) ++ entry.Out Plain 2 ∷ []

abbrev pub takes_back : List Entry
takes_back =
    entry.Receive 10 (Whole (0 ∷ [])) ∷ entry.Ready 10 0 ∷ pushes 0 ++ entry.In Plain 3
    ∷ gives 0 (entry.GivenAfter 0 2 2 2) ++ frees 0 2 0 ++ entry.Out Plain 4 ∷ []

abbrev pub swept_home : List Entry
swept_home =
    entry.Ended ∷ entry.Close ∷ sweeps 0 2
    ++ period Tracing 1 (4 ∷ 0 ∷ 2 ∷ 0 ∷ []) (4 ∷ 0 ∷ 2 ∷ 0 ∷ []) ++ returns 0 2

abbrev pub borrows : ℕ → List Entry
borrows home = entry.In Plain 1 ∷ delays 0 1 home ++ entry.Out Plain 2 ∷ []

abbrev pub hands_on : List Entry
hands_on =
    batches 0 2 ++ period Plain 1 (1 ∷ 2 ∷ []) (2 ∷ 2 ∷ []) ++ sends 0 2 0 ++ entry.Ended ∷ []

abbrev pub lends_and_sweeps : Log
lends_and_sweeps = ordinary (lends ++ takes_back ++ swept_home)

abbrev pub two_processors : List Log
two_processors = lends_and_sweeps ∷ ordinary (borrows 0 ++ hands_on) ∷ []

-- The same two, where processor 0 closes before it has received the parcel, which its sweep takes out of the inbox.
abbrev pub swept_from_inbox : List Log
swept_from_inbox =
    ordinary
    (lends ++ entry.Ended ∷ entry.Close ∷ sweeps 0 2
    ++ period Tracing 1 (2 ∷ 0 ∷ 2 ∷ 0 ∷ []) (2 ∷ 0 ∷ 2 ∷ 0 ∷ []) ++ returns 0 2)
    ∷ ordinary (borrows 0 ++ hands_on) ∷ []

-- Processor 1 runs a sleepable script with a section in it. A tracing period of processor 0 looks at both words of each
-- processor, the plain one first, and so waits for both sections.
abbrev pub reader_of : List ℕ → List ℕ → List Log
reader_of first later =
    ordinary (entry.In Plain 1 ∷ entry.Out Plain 2 ∷ period Tracing 1 first later)
    ∷ ordinary
    (entry.In Tracing 1 ∷ entry.In Plain 1 ∷ entry.Out Plain 2 ∷ entry.Out Tracing 2 ∷ [])
    ∷ []

abbrev pub sleepable_reader : List Log
sleepable_reader = reader_of (2 ∷ 0 ∷ 1 ∷ 1 ∷ []) (2 ∷ 0 ∷ 2 ∷ 2 ∷ [])

-- A batch takes its stamp within a period. That one doesn't count, so it waits for the end of the next.
abbrev pub waits_for_next : List Log
waits_for_next =
    ordinary
    (entry.Begin Plain 1 ∷ batches 0 4 ++ ends Plain 2 (0 ∷ []) (0 ∷ [])
    ∷ period Plain 3 (0 ∷ []) (0 ∷ []) ++ sends 0 4 0)
    ∷ []

-- Unit 0 is freed with delay, and waits for a period. Behind the pass a handler takes unit 256 and frees it; then unit 0's
-- batch is sent, and unit 0 is given again with its seal.
abbrev pub interrupts : List Entry
interrupts = gives 256 (entry.Given 256 1) ++ frees 256 1 0

abbrev pub interrupted : List Log
interrupted =
    (ordinary
    (opens (256 ∷ []) ++ delays 0 1 0 ++ batches 0 2 ++ period Plain 1 (0 ∷ []) (0 ∷ [])
    ++ entry.Pass 10 Plain 2 ∷ [])
    ++ (at_level 1 interrupts
    ++ ordinary (entry.Send 10 0 (Whole (0 ∷ [])) ∷ entry.GivenAfter 0 2 2 2 ∷ []))) ∷ []
