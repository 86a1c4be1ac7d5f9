-- What logs say of units, each counted as often as it is named.
use Rattle.std.specs.Prelude.{ℕ, List, [], ◌∷◌, ◌++◌}
use Rattle.bm_journal.specs.declared.entry.Entry.{Entry}
use Rattle.bm_journal.specs.declared.entry.Entry.TheVariants as entry
use Rattle.bm_journal.specs.EntryText.{unit_list}
use Rattle.bm_law.specs.State.{State}
use Rattle.bm_law.specs.Lists.{Leaves, Log, brought, next}
use Rattle.bm_law.specs.Worked.{Emptied}
pub use Rattle.bm_law_lives.specs.Units.{FreedAsGiven, freed_units, given_units}

-- The units that an entry sends, to whichever processor. (This project's own: parcels are.)
abbrev pub sent_units : Entry → List ℕ
sent_units (entry.Send c to us) = unit_list us
sent_units _ = []

-- The units that an entry takes out of its processor's inbox: those received, and those that a sweep names behind the units
-- of the lists. (This project's own. In kernel/bpf/memalloc.c units lie on the list free_by_rcu_ttrace of the target's cache.)
abbrev pub arrived_units : Entry → State ℕ → List ℕ
arrived_units (entry.Receive c us) s = unit_list us
arrived_units (entry.Sweep c us) s = brought (entry.Sweep c us) s
arrived_units _ s = []

-- the same of a log that begins with these lists
abbrev pub arrived_by : State ℕ → Log → List ℕ
arrived_by s [] = []
arrived_by s (e ∷ es) = arrived_units e.1 s ++ arrived_by (next s e) es

-- The log of processor p names what is there, and leaves nothing in its lists and hands.
abbrev pub LeavesNothing : ℕ → Log → Type 0
LeavesNothing p log = (last : State ℕ) × Leaves p log last × Emptied last
