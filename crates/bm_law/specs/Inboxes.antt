-- Parcels that come to a processor's inboxes and leave them, as entries of its own log tell it. (This project's own. In
-- kernel/bpf/memalloc.c units are put on the list free_by_rcu_ttrace of the target's cache.)
use Rattle.std.specs.Prelude.{ℕ, ◌==◌, if◌then◌else◌, List, [], ◌∷◌, ◌++◌, drop}
use Rattle.bm_journal.specs.declared.entry.Entry.{Entry}
use Rattle.bm_journal.specs.declared.entry.Entry.TheVariants as entry
use Rattle.bm_journal.specs.EntryText.{unit_list}

-- the parcels in a processor's inbox of each class, by the numbers of their units, the oldest first
abbrev pub Inboxes : Type 0
Inboxes = ℕ → List (List ℕ)

-- the inboxes with this one changed so
abbrev pub on_inbox : ℕ → (List (List ℕ) → List (List ℕ)) → Inboxes → Inboxes
on_inbox c f boxes = λ k. if (k == c) then f (boxes k) else boxes k

-- the units of the oldest parcel, if there is one
abbrev pub oldest : List (List ℕ) → List ℕ
oldest [] = []
oldest (parcel ∷ parcels) = parcel

-- The inboxes of processor p after an entry of its log: what is sent to p comes last, the oldest is received, and a sweep
-- leaves none.
abbrev pub inboxes_after : ℕ → Entry → Inboxes → Inboxes
inboxes_after p (entry.Send c to us) boxes =
    if (to == p) then on_inbox c (λ parcels. parcels ++ unit_list us ∷ []) boxes else boxes
inboxes_after p (entry.Receive c us) boxes = on_inbox c (λ parcels. drop 1 parcels) boxes
inboxes_after p (entry.Sweep c us) boxes = on_inbox c (λ parcels. []) boxes
inboxes_after p _ boxes = boxes
