-- Entries that neither send a parcel nor take one fit the law of parcels.
use Rattle.std.proofs.Common.{◌≡◌, ℕ, List, [], ◌∷◌, ◌++◌, sym, subst}
use Rattle.bm_journal.specs.declared.entry.Entry.{Entry}
use Rattle.bm_journal.specs.declared.entry.Entry.TheVariants as entry
use Rattle.bm_law.specs.State.{State}
use Rattle.bm_law.specs.Lists.{Log, next, after}
use Rattle.bm_law.specs.Inboxes.{Inboxes, inboxes_after}
use Rattle.bm_law_logs.proofs.QuietEntries.{AllQuiet, IsQuiet, after-quiet}
use Rattle.bm_law.specs.Ordinary.{ordinary}
use Rattle.bm_law_scenario.specs.Parcels.{ParcelFits, ParcelsFit}

quiet-fits : (e : Entry) (s : State ℕ) (boxes : Inboxes) → IsQuiet e → ParcelFits 0 e s boxes
quiet-fits (entry.Send c to us) s boxes q = absurd q
quiet-fits (entry.Receive c us) s boxes q = absurd q
quiet-fits (entry.Sweep c us) s boxes q = absurd q
quiet-fits _ s boxes q = tt

-- they come first, and what follows fits
pub fits-quiet : (s : State ℕ) (boxes : Inboxes) (es : List Entry) (rest : Log) → AllQuiet es → ParcelsFit 0 (after s (ordinary es)) boxes rest → ParcelsFit 0 s boxes (ordinary es ++ rest)
fits-quiet s boxes [] rest q k = k
fits-quiet s boxes (e ∷ es) rest q k =
    let same : inboxes_after 0 e boxes ≡ boxes = after-quiet 0 e boxes q.0 in
    (quiet-fits e s boxes q.0, subst (λ m. ParcelsFit 0 (next s (0, e)) m (ordinary es ++ rest)) (sym same) (fits-quiet (next s (0, e)) boxes es rest q.1 k))
