-- The log of one processor that makes a block and drops it, with deferred work, and the parts that it is made of. Its units are of
-- class 10, and there are two pages, each with one unit.
use Rattle.std.specs.Prelude.{ℕ, List, [], ◌∷◌, ◌++◌, codes}
use Rattle.bm_journal.specs.declared.ids.Domain.TheVariants.{Plain, Tracing}
use Rattle.bm_journal.specs.declared.units.Units.TheVariants.{Whole}
use Rattle.bm_journal.specs.declared.period.Period.{Period}
use Rattle.bm_journal.specs.declared.entry.Entry.{Entry}
use Rattle.bm_journal.specs.declared.entry.Entry.TheVariants as entry
use Rattle.bm_law.specs.Lists.{Log}
use Rattle.bm_law.specs.Ordinary.{ordinary}

-- the opening, up to the first statement
abbrev pub begins : List Entry
begins = entry.Fill 10 (Whole (0 ∷ [])) ∷ entry.Script (codes "main") ∷ entry.In Plain 1 ∷ []

-- the call, which is given unit 0 and leaves Free empty
abbrev pub takes : List Entry
takes =
    entry.New (codes "block") [] ∷ entry.Enter 10 1 ∷ entry.Pop 10 0 ∷ entry.Count 10 0
    ∷ entry.Leave 10 0 ∷ entry.Raise 10 ∷ entry.Given 0 1 ∷ []

-- the drop, behind which Free has k units
abbrev pub drops : ℕ → List Entry
drops k =
    entry.Drop 0 1 ∷ entry.Last ∷ entry.Free 0 0 ∷ entry.Enter 10 1 ∷ entry.Push 10 0
    ∷ entry.Count 10 k ∷ entry.Leave 10 0 ∷ []

-- a work begins, and reads a count of k
abbrev pub work_reads : ℕ → List Entry
work_reads k = entry.Work 10 ∷ entry.Receive 10 (Whole []) ∷ entry.Read 10 k ∷ []

-- a refill fetches a batch of three, of which the stock has the unit of its second page, which Free counts as the k-th
abbrev pub refills : ℕ → List Entry
refills k =
    entry.Fetch 10 3 (Whole (256 ∷ [])) ∷ entry.Enter 10 1 ∷ entry.Push 10 256 ∷ entry.Count 10 k
    ∷ entry.Leave 10 0 ∷ []

-- the end of a work in which nothing was freed with delay and nothing received
abbrev pub work_ends : List Entry
work_ends = entry.Enter 10 1 ∷ entry.TakeDelayed 10 (Whole []) ∷ entry.Leave 10 0 ∷ []

-- the script ends
abbrev pub stops : List Entry
stops = entry.Out Plain 2 ∷ entry.Done (codes "main") ∷ []

-- the grace period after which what is swept goes back to the stock
abbrev pub sweep_period : Period
sweep_period = record { domain = Tracing; number = 2; first = 2 ∷ 0 ∷ []; later = 2 ∷ 0 ∷ [] }

-- the closing, in which these units are swept
abbrev pub closes : List ℕ → List Entry
closes units =
    entry.Ended ∷ entry.Close ∷
    entry.Sweep 10 (Whole units) ∷
    entry.Stamp 10 Tracing 2 ∷
    entry.Begin Tracing 1 ∷
    entry.Finish sweep_period ∷
    entry.Pass 10 Tracing 2 ∷
    entry.Return 10 (Whole units) ∷ []

-- One block. The call leaves Free empty, so it raises the flag, and the work behind it brings a unit. The drop makes two,
-- which is enough; the work behind the script brings none.
abbrev pub one_block_log : Log
one_block_log =
    ordinary
    (begins ++ takes ++ work_reads 0 ++ refills 1 ++ work_ends ++ drops 2 ++ stops
    ++ work_reads 2 ++ work_ends ++ closes (0 ∷ 256 ∷ []))
