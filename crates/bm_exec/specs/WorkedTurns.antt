-- What a turn of a script adds to a log, by an example.
use Rattle.std.specs.Prelude.{[], ◌∷◌, ◌++◌}
use Rattle.bm_journal.specs.declared.entry.Entry.TheVariants as entry
use Rattle.bm_journal.specs.declared.units.Units.TheVariants.{Whole}
use Rattle.bm_law.specs.Lists.{Log}

-- A drop, between whose lines a handler of level 2 runs that does nothing.
abbrev pub a_drop : Log
a_drop =
    (0, entry.Drop 0 1) ∷ (0, entry.Last) ∷ (2, entry.Handler []) ∷ (2, entry.Back [])
    ∷ (0, entry.Free 0 0) ∷ []

abbrev pub a_drop_then_yield : Log
a_drop_then_yield = a_drop ++ (0, entry.Yield) ∷ []

-- a line of level 2 is nothing to a script of level 0
abbrev pub yields_above : Log
yields_above = a_drop ++ (2, entry.Yield) ∷ []

-- a sweep is of the closing
abbrev pub sweeps_after : Log
sweeps_after = a_drop ++ (0, entry.Sweep 3 (Whole (0 ∷ []))) ∷ []
