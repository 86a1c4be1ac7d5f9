-- Parcels between processors, as far as one log tells them: where no other processor sends any, each parcel that is
-- received or swept is one that the log itself sent. (This project's own. In kernel/bpf/memalloc.c units are put on the
-- list free_by_rcu_ttrace of the target's cache, which any processor may do.)
use Rattle.std.specs.Prelude.{◌≡◌, ℕ, Bool, not, ◌||◌, nat_eq, [], ◌∷◌}
use Rattle.std.specs.List.{concat}
use Rattle.bm_journal.specs.declared.entry.Entry.{Entry}
use Rattle.bm_journal.specs.declared.entry.Entry.TheVariants as entry
use Rattle.bm_journal.specs.EntryText.{unit_list}
use Rattle.bm_lang.specs.declared.scenario.Parts.{Parts}
use Rattle.bm_law.specs.State.{State, opening}
use Rattle.bm_law.specs.Lists.{Log, brought, next}
use Rattle.bm_law.specs.Inboxes.{Inboxes, inboxes_after, oldest}

-- no inbox holds a parcel
abbrev pub no_parcels : Inboxes
no_parcels = λ c. []

-- Processor p sends to itself, as there is no other. It receives exactly the oldest parcel, and none exactly where there
-- is none. A sweep takes all parcels, behind the units of the lists.
abbrev pub ParcelFits : ℕ → Entry → State ℕ → Inboxes → Type 0
ParcelFits p (entry.Send c to us) s boxes = to ≡ p
ParcelFits p (entry.Receive c us) s boxes = unit_list us ≡ oldest (boxes c)
ParcelFits p (entry.Sweep c us) s boxes = brought (entry.Sweep c us) s ≡ concat (boxes c)
ParcelFits p _ s boxes = Unit {0}

-- all entries of a log fit, and at its end no parcel is left
abbrev pub ParcelsFit : ℕ → State ℕ → Inboxes → Log → Type 0
ParcelsFit p s boxes [] = (c : ℕ) → boxes c ≡ []
ParcelsFit p s boxes (e ∷ es) =
    ParcelFits p e.1 s boxes × ParcelsFit p (next s e) (inboxes_after p e.1 boxes) es

-- the law, over the log of processor p
abbrev pub ParcelLaw : ℕ → Log → Type 0
ParcelLaw p log = ParcelsFit p (opening p) no_parcels log

-- no other processor sends: there is none, or no deferred work runs
abbrev pub sends_alone : Parts → Bool
sends_alone s = not s.deferred || nat_eq s.processors 1
