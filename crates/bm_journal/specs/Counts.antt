-- How many units stand in each list of a cache and in hand, as the entries of a log tell it.
-- (The moves are this project's own; they restate those of kernel/bpf/memalloc.c.)
use Rattle.std.specs.Prelude.{ℕ, ◌+◌, ◌-◌, ◌^◌, ◌==◌, if◌then◌else◌, min, slice_index, slice_index_or, slice_set, replicate}
use Rattle.bm_journal.specs.declared.counts.Lengths.{Lengths}
use Rattle.bm_journal.specs.declared.counts.Counts.{Counts}
use Rattle.bm_journal.specs.declared.entry.Entry.{Entry}
use Rattle.bm_journal.specs.declared.entry.Entry.TheVariants as entry
use Rattle.bm_journal.specs.UnitCount.{unit_count}

-- so many more; a number stands still at the greatest of its type
abbrev pub more : ℕ → ℕ → ℕ
more n m = min (n + m) (2 ^ 64 - 1)

-- seven lists without units
abbrev pub no_lengths : Lengths
no_lengths =
    record { free = 0; extra = 0; extra_delayed = 0; delayed = 0; first = 0; ready = 0; second = 0 }

-- no unit stands anywhere: eleven classes, four levels
abbrev pub no_counts : Counts
no_counts = record { classes = replicate 11 no_lengths; hands = replicate 4 0 }

-- the lengths of a class's lists
abbrev pub lengths_of : Counts → ℕ → Lengths
lengths_of counts class = slice_index_or counts.classes class no_lengths

-- the units in hand at a level
abbrev pub hand_of : Counts → ℕ → ℕ
hand_of counts level = slice_index counts.hands level

-- the lists of a class change so
abbrev pub lists : ℕ → (Lengths → Lengths) → Counts → Counts
lists class change counts =
    record counts { classes = slice_set counts.classes class (change (lengths_of counts class)) }

-- the hand of a level changes so
abbrev pub hand : ℕ → (ℕ → ℕ) → Counts → Counts
hand level change counts =
    record counts { hands = slice_set counts.hands level (change (hand_of counts level)) }

-- the counts after an entry of this level
abbrev pub counts_after : ℕ → Entry → Counts → Counts
-- from the stock onto Free at the opening, and into the hand
counts_after l (entry.Fill c us) k =
    lists c (λ x. record x { free = more x.free (unit_count us) }) k
counts_after l (entry.Fetch c want us) k = hand l (λ n. more n (unit_count us)) k
-- one unit off a list into the hand
counts_after l (entry.Pop c u) k =
    hand l (λ n. more n 1) (lists c (λ x. record x { free = x.free - 1 }) k)
counts_after l (entry.Ready c u) k =
    hand l (λ n. more n 1) (lists c (λ x. record x { ready = x.ready - 1 }) k)
counts_after l (entry.Second c u) k =
    hand l (λ n. more n 1) (lists c (λ x. record x { second = x.second - 1 }) k)
-- one unit out of the hand onto a list
counts_after l (entry.Push c u) k =
    hand l (λ n. n - 1) (lists c (λ x. record x { free = more x.free 1 }) k)
counts_after l (entry.Delayed c u) k =
    hand l (λ n. n - 1) (lists c (λ x. record x { delayed = more x.delayed 1 }) k)
counts_after l (entry.Put c u) k =
    hand l (λ n. n - 1) (lists c (λ x. record x { extra = more x.extra 1 }) k)
counts_after l (entry.PutDelayed c u) k =
    hand l (λ n. n - 1) (lists c (λ x. record x { extra_delayed = more x.extra_delayed 1 }) k)
-- a unit is given out of the hand, and comes back into it by a free
counts_after l (entry.Given u life) k = hand l (λ n. n - 1) k
counts_after l (entry.GivenAfter u life s seen) k = hand l (λ n. n - 1) k
counts_after l (entry.Free u h) k = hand l (λ n. more n 1) k
counts_after l (entry.Delay u h) k = hand l (λ n. more n 1) k
-- all of a list: Extra into the hand, ExtraDelayed onto Delayed, Delayed onto First, Ready onto Second
counts_after l (entry.TakeExtra c us) k =
    hand l (λ n. more n (unit_count us)) (lists c (λ x. record x { extra = 0 }) k)
counts_after l (entry.TakeDelayed c us) k =
    lists c (λ x. record x { extra_delayed = 0; delayed = more x.delayed (unit_count us) }) k
counts_after l (entry.Batch c us) k =
    lists c (λ x. record x { delayed = 0; first = more x.first (unit_count us) }) k
counts_after l (entry.BeginSecond c us) k =
    lists c (λ x. record x { ready = 0; second = more x.second (unit_count us) }) k
-- a parcel goes out: all of the hand, or where that is empty all of First; one comes in onto Ready
counts_after l (entry.Send c p us) k =
    if hand_of k l == 0 then lists c (λ x. record x { first = 0 }) k else hand l (λ n. 0) k
counts_after l (entry.Receive c us) k =
    lists c (λ x. record x { ready = more x.ready (unit_count us) }) k
-- all of Second back to the stock
counts_after l (entry.Return c us) k = lists c (λ x. record x { second = 0 }) k
-- at the closing all units of the class, also those of its inbox, onto Second
counts_after l (entry.Sweep c us) k = lists c (λ x. record no_lengths { second = unit_count us }) k
-- all others move no unit
counts_after l _ k = k
