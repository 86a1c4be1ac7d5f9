-- The closing of a processor, where the parcels are told that its inboxes hold by then. (drain_mem_cache in
-- kernel/bpf/memalloc.c empties free_by_rcu_ttrace with the other lists, and there the units of parcels are put. Parcels and
-- the order of the units are this project's own.)
use Rattle.std.specs.Prelude.{◌≡◌, ℕ, List, [], ◌∷◌, ◌++◌}
use Rattle.std.specs.List.{concat}
use Rattle.bm_journal.specs.declared.entry.Entry.TheVariants as entry
use Rattle.bm_law.specs.State.{seven_lists}
use Rattle.bm_law.specs.Lists.{Log}
use Rattle.bm_law_work.specs.Parts.{Part, Nothing, Stand, Then}
use Rattle.bm_law.specs.Inboxes.{Inboxes, on_inbox}
use Rattle.bm_law_scenario.specs.Closing.{close_of, EndsPeriods, SweepWhere}

-- One class after the other: where its lists or its inbox hold a unit, a sweep of exactly those; the inbox is empty then. An
-- inbox without a unit holds no parcel.
abbrev pub SweepsTold : List ℕ → Inboxes → Part
SweepsTold [] boxes s part = Nothing s part
SweepsTold (c ∷ cs) boxes s part =
    (concat (boxes c) ≡ [] → boxes c ≡ []) ×
    Then (SweepWhere c (seven_lists (s.rows c) ++ concat (boxes c)))
    (SweepsTold cs (on_inbox c (λ parcels. []) boxes)) s part

-- the closing of processor p after this log, which left these parcels
abbrev pub ClosingTold : ℕ → List ℕ → Log → Inboxes → Part
ClosingTold p classes log boxes =
    Then (Stand 0 (entry.Ended ∷ close_of p)) (Then (EndsPeriods log) (SweepsTold classes boxes))
