-- The units that entries free and give. (unit_free, unit_free_rcu and unit_alloc of kernel/bpf/memalloc.c; that a journal
-- names them is this project's own.)
use Rattle.std.specs.Prelude.{◌≡◌, ℕ, List, [], ◌∷◌}
use Rattle.bm_journal.specs.declared.entry.Entry.{Entry}
use Rattle.bm_journal.specs.declared.entry.Entry.TheVariants as entry
use Rattle.bm_law.specs.Lists.{Log}
use Rattle.bm_law_lives.specs.Together.{named, times}

-- the unit whose free begins, plain or delayed
abbrev pub freed_units : Entry → List ℕ
freed_units (entry.Free u home) = u ∷ []
freed_units (entry.Delay u home) = u ∷ []
freed_units _ = []

-- the unit that is given
abbrev pub given_units : Entry → List ℕ
given_units (entry.Given u life) = u ∷ []
given_units (entry.GivenAfter u life stamp seen) = u ∷ []
given_units _ = []

-- All logs together free each unit as often as they give it. (This project's own.)
abbrev pub FreedAsGiven : List Log → Type 0
FreedAsGiven logs = (u : ℕ) → times u (named freed_units logs) ≡ times u (named given_units logs)
