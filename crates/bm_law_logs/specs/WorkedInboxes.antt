-- Worked logs of parcels that come and leave, and logs that are each one step away from one.
use Rattle.std.specs.Prelude.{ℕ, List, [], ◌∷◌, ◌++◌}
use Rattle.bm_journal.specs.declared.units.Units.TheVariants.{Whole}
use Rattle.bm_journal.specs.declared.entry.Entry.TheVariants as entry
use Rattle.bm_law.specs.Lists.{Log}
use Rattle.bm_law.specs.Inboxes.{Inboxes, on_inbox}
use Rattle.bm_law_scenario.specs.Parcels.{no_parcels}
use Rattle.bm_law.specs.Ordinary.{ordinary}

-- these parcels in the inbox of class 10, and none in the others
abbrev pub waiting : List (List ℕ) → Inboxes
waiting parcels = on_inbox 10 (λ none. parcels) no_parcels

-- Processor 0 sends itself a parcel, and receives it; then there is none.
abbrev pub received_back : Log
received_back =
    ordinary
    (entry.Send 10 0 (Whole (256 ∷ [])) ∷ entry.Receive 10 (Whole (256 ∷ []))
    ∷ entry.Receive 10 (Whole []) ∷ [])

-- It sends itself two. The older one is received first; the newer one is.
abbrev pub two_sent : Log
two_sent = ordinary (entry.Send 10 0 (Whole (256 ∷ [])) ∷ entry.Send 10 0 (Whole (512 ∷ [])) ∷ [])

abbrev pub older_first : Log
older_first = two_sent ++ ordinary (entry.Receive 10 (Whole (256 ∷ [])) ∷ [])

abbrev pub newer_first : Log
newer_first = two_sent ++ ordinary (entry.Receive 10 (Whole (512 ∷ [])) ∷ [])

-- It sends a parcel to processor 1, which there isn't.
abbrev pub sent_away : Log
sent_away = ordinary (entry.Send 10 1 (Whole (256 ∷ [])) ∷ [])

-- It receives a unit that nobody sent; it receives none, though two parcels wait.
abbrev pub unit_received : Log
unit_received = ordinary (entry.Receive 10 (Whole (256 ∷ [])) ∷ [])

abbrev pub none_received : Log
none_received = two_sent ++ ordinary (entry.Receive 10 (Whole []) ∷ [])
