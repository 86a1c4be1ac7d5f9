-- What goes out of the stock and comes back, and what goes from processor to processor, in a whole journal. (In
-- kernel/bpf/memalloc.c __alloc takes from the slab allocator and free_one gives back, which drain_mem_cache does at the end
-- with all that a cache holds. Parcels are this project's own.)
use Rattle.std.specs.Prelude.{◌≡◌, ◌<◌, ℕ, ◌==◌, if◌then◌else◌, List, [], ◌∷◌, ◌++◌, length, map}
use Rattle.bm_journal.specs.declared.entry.Entry.{Entry}
use Rattle.bm_journal.specs.declared.entry.Entry.TheVariants as entry
use Rattle.bm_journal.specs.EntryText.{unit_list}
use Rattle.bm_law.specs.State.{State, opening}
use Rattle.bm_law.specs.Lists.{Log, brought, next}
use Rattle.bm_law_lives.specs.Together.{times, beside, Each, named, EachLog}

-- the units that an entry takes from the stock, and those that it gives back
abbrev pub taken_units : Entry → List ℕ
taken_units (entry.Fill c us) = unit_list us
taken_units (entry.Fetch c want us) = unit_list us
taken_units _ = []

abbrev pub returned_units : Entry → List ℕ
returned_units (entry.Return c us) = unit_list us
returned_units _ = []

-- units, each with its class
abbrev pub in_class : ℕ → List ℕ → List (ℕ × ℕ)
in_class c us = map (λ u. (c, u)) us

-- the units that an entry sends to processor p, by class, and the processor that it sends to
abbrev pub sent_to : ℕ → Entry → List (ℕ × ℕ)
sent_to p (entry.Send c to us) = if (to == p) then in_class c (unit_list us) else []
sent_to p _ = []

abbrev pub receiver : Entry → List ℕ
receiver (entry.Send c to us) = to ∷ []
receiver _ = []

-- The units that an entry takes out of its processor's inbox, by class: those received, and those that a sweep names behind
-- the units of the lists.
abbrev pub unpacked : Entry → State ℕ → List (ℕ × ℕ)
unpacked (entry.Receive c us) s = in_class c (unit_list us)
unpacked (entry.Sweep c us) s = in_class c (brought (entry.Sweep c us) s)
unpacked _ s = []

-- the same of a log that begins with these lists
abbrev pub unpacked_by : State ℕ → Log → List (ℕ × ℕ)
unpacked_by s [] = []
unpacked_by s (e ∷ es) = unpacked e.1 s ++ unpacked_by (next s e) es

-- Each unit of a class that all logs send to processor p is taken out of its inbox as often.
abbrev pub ParcelsArrive : List Log → ℕ → Log → Type 0
ParcelsArrive logs p log =
    (c u : ℕ)
    → times u (beside c (named (sent_to p) logs))
    ≡ times u (beside c (unpacked_by (opening p) log))

-- Each unit is given back as often as it was taken, and each parcel goes to a processor that there is, and arrives.
pub record ReturnsLaw (logs : List Log) : Type 0 where
  pub returned : (u : ℕ) → times u (named returned_units logs) ≡ times u (named taken_units logs)
  pub receivers : Each (λ p. p < length logs) (named receiver logs)
  pub arrive : EachLog (ParcelsArrive logs) logs
