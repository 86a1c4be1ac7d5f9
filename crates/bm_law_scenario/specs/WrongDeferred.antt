-- Journals that are each one step away from a worked one with deferred work. Their totals are those of the log, and the
-- closing sweeps what stands in the lists then.
use Rattle.std.specs.Prelude.{ℕ, IsTrue, true, refl, [], ◌∷◌, ◌++◌}
use Rattle.bm_journal.specs.declared.ids.Domain.{Domain}
use Rattle.bm_journal.specs.declared.units.Units.TheVariants.{Whole}
use Rattle.bm_journal.specs.declared.entry.Entry.TheVariants as entry
use Rattle.bm_journal.specs.declared.journal.Journal.{Journal}
use Rattle.bm_journal.specs.Totals.{totals_of}
use Rattle.bm_journal.specs.WellFormed.{are_whole}
use Rattle.bm_law.specs.State.{State, on_row}
use Rattle.bm_law.specs.Lists.{Log}
use Rattle.bm_law.specs.Ordinary.{ordinary}
use Rattle.bm_law_scenario.specs.WorkedDeferred.{begins, takes, drops, work_reads, refills, work_ends, stops, closes, telling_work}

-- a journal of this log, with its totals
abbrev pub telling_wrong : (log : Log) → IsTrue (are_whole (log ∷ [])) → Journal
telling_wrong log whole = telling_work log whole (totals_of (log ∷ []))

-- One object: no work stands behind the call, which raised the flag.
abbrev pub left_out_log : Log
left_out_log =
    ordinary
    (begins ++ takes ++ drops 1 ++ stops ++ work_reads 1 ++ refills 2 ++ work_ends
    ++ closes (256 ∷ 0 ∷ []))

abbrev pub left_out : Journal
left_out = telling_wrong left_out_log refl

-- No object: a work stands behind the statement, though no flag is up.
abbrev pub not_asked_log : Log
not_asked_log =
    ordinary
    (begins ++ work_reads 1 ++ refills 2 ++ work_ends ++ stops ++ work_reads 2 ++ work_ends
    ++ closes (256 ∷ 0 ∷ []))

abbrev pub not_asked : Journal
not_asked = telling_wrong not_asked_log refl

-- No object: no work stands behind the script.
abbrev pub not_behind_log : Log
not_behind_log = ordinary (begins ++ stops ++ closes (0 ∷ []))

abbrev pub not_behind : Journal
not_behind = telling_wrong not_behind_log refl

-- ---- parcels

-- A drain sends a unit to this very processor.
abbrev pub sends : Log
sends =
    ordinary
    (entry.Fill 10 (Whole (0 ∷ 256 ∷ [])) ∷ entry.Enter 10 1 ∷ entry.Pop 10 256
    ∷ entry.Count 10 1 ∷ entry.Leave 10 0 ∷ entry.Send 10 0 (Whole (256 ∷ [])) ∷ [])

-- It is received, or swept with the units of the lists.
abbrev pub received : Log
received =
    sends
    ++ ordinary
    (entry.Receive 10 (Whole (256 ∷ [])) ∷ entry.Receive 10 (Whole [])
    ∷ entry.Sweep 10 (Whole (0 ∷ 256 ∷ [])) ∷ [])

abbrev pub swept_from_inbox : Log
swept_from_inbox = sends ++ ordinary (entry.Sweep 10 (Whole (0 ∷ 256 ∷ [])) ∷ [])

-- The sweep forgets the inbox; there is none; the parcel isn't received; another one is; it is received twice.
abbrev pub inbox_forgotten : Log
inbox_forgotten = sends ++ ordinary (entry.Sweep 10 (Whole (0 ∷ [])) ∷ [])

abbrev pub not_received : Log
not_received =
    sends ++ ordinary (entry.Receive 10 (Whole []) ∷ entry.Sweep 10 (Whole (0 ∷ 256 ∷ [])) ∷ [])

abbrev pub other_received : Log
other_received =
    sends
    ++ ordinary
    (entry.Receive 10 (Whole (512 ∷ [])) ∷ entry.Receive 10 (Whole [])
    ∷ entry.Sweep 10 (Whole (0 ∷ 512 ∷ [])) ∷ [])

abbrev pub received_twice : Log
received_twice =
    sends
    ++ ordinary
    (entry.Receive 10 (Whole (256 ∷ [])) ∷ entry.Receive 10 (Whole (256 ∷ []))
    ∷ entry.Sweep 10 (Whole (0 ∷ 256 ∷ 256 ∷ [])) ∷ [])

-- ---- flags and periods

-- the flag of a class is up
abbrev pub raised : ℕ → State ℕ → State ℕ
raised c s = on_row c (λ r. record r { raised = true }) s

-- a period of a domain begins with a number; one ends, and becomes this number
abbrev pub begun : Domain → ℕ → Log
begun d n = ordinary (entry.Begin d n ∷ [])

abbrev pub ends : Domain → ℕ → Log
ends d n =
    ordinary (entry.Finish (record { domain = d; number = n; first = 0 ∷ []; later = 0 ∷ [] }) ∷ [])
