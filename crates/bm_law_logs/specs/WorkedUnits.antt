-- Worked logs of units that are given, freed, sent and taken out of an inbox, and wrong ones beside them.
use Rattle.std.specs.Prelude.{[], ◌∷◌}
use Rattle.bm_journal.specs.declared.units.Units.TheVariants.{Whole}
use Rattle.bm_journal.specs.declared.entry.Entry.TheVariants as entry
use Rattle.bm_law.specs.Lists.{Log}
use Rattle.bm_law.specs.Ordinary.{ordinary}

-- Unit 0 is given and freed, and given and freed with delay.
abbrev pub freed_each_time : Log
freed_each_time =
    ordinary (entry.Given 0 1 ∷ entry.Free 0 0 ∷ entry.GivenAfter 0 2 2 2 ∷ entry.Delay 0 0 ∷ [])

-- It is given and never freed; it is freed twice; another unit is freed.
abbrev pub never_freed : Log
never_freed = ordinary (entry.Given 0 1 ∷ [])

abbrev pub freed_twice : Log
freed_twice = ordinary (entry.Given 0 1 ∷ entry.Free 0 0 ∷ entry.Delay 0 0 ∷ [])

abbrev pub other_freed : Log
other_freed = ordinary (entry.Given 0 1 ∷ entry.Free 1 0 ∷ [])

-- The one unit that a class is opened with is given, so that the lists are empty behind it, and no free follows.
abbrev pub kept : Log
kept =
    ordinary
    (entry.Fill 10 (Whole (0 ∷ [])) ∷ entry.Enter 10 1 ∷ entry.Pop 10 0 ∷ entry.Count 10 0
    ∷ entry.Leave 10 0 ∷ entry.Given 0 1 ∷ [])
