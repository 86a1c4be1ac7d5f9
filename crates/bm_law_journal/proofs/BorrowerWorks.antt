-- The deferred work of the processor that a unit is lent to, and where it stands in its log.
use Rattle.std.proofs.Common.{ℕ, inl, inr, List, [], ◌∷◌, ◌++◌, None, refl, arith, codes}
use Rattle.bm_class.specs.Sizes.{size_of_class}
use Rattle.bm_class.specs.Watermarks.{low_of_size, high_of_size, batch_of_size}
use Rattle.bm_journal.specs.declared.ids.Domain.TheVariants.{Plain}
use Rattle.bm_journal.specs.declared.units.Units.TheVariants.{Whole}
use Rattle.bm_journal.specs.declared.entry.Entry.{Entry}
use Rattle.bm_journal.specs.declared.entry.Entry.TheVariants as entry
use Rattle.bm_law.specs.State.{State, opening}
use Rattle.bm_law.specs.Lists.{after}
use Rattle.bm_law.specs.Ordinary.{ordinary}
use Rattle.bm_law_lives.specs.Worked.{batches, opens}
use Rattle.bm_law_lives.specs.WorkedBlock.{work_ends}
use Rattle.bm_law_scenario.specs.WorkedSlots.{call_of, exchanges}
use Rattle.bm_law_scenario.specs.Works.{UntilDown, WorkBehind}
use Rattle.bm_law_scenario.proofs.Ordinary.{says, stands, then-of}
use Rattle.bm_law_journal.specs.WorkedLoan.{begins_with, drops_to, ends_with, finds_none, goes_on, polls_with, refills_none, sends_seeing, takes_and_drops, the_unit}
use Rattle.bm_law_journal.proofs.LenderWorks.{gathers, leaves, no_parcel, reads, works}

-- ---- its log, cut where work stands

abbrev pub takes_begins : List Entry
takes_begins = entry.Script (codes "takes") ∷ entry.In Plain 1 ∷ []

abbrev pub takes_stops : List Entry
takes_stops = entry.Out Plain 2 ∷ entry.Done (codes "takes") ∷ []

abbrev pub takes_part : List Entry
takes_part = takes_begins ++ (takes_and_drops 0 ++ (takes_stops ++ begins_with goes_on))

abbrev pub waits_begins : List Entry
waits_begins = entry.Script (codes "waits") ∷ entry.In Plain 3 ∷ []

abbrev pub one_yield : List Entry
one_yield = entry.Yield ∷ []

abbrev pub waits_stops : List Entry
waits_stops = entry.Out Plain 4 ∷ entry.Done (codes "waits") ∷ []

abbrev pub waits_part : (first : List ℕ) → List Entry
waits_part first = waits_begins ++ (one_yield ++ (waits_stops ++ polls_with (sends_seeing first 0)))

-- the exchange
abbrev pub takes_it : List Entry
takes_it = exchanges None the_unit (call_of 0 2)

-- ---- the lists there: at the first script's statements, behind the exchange, behind the drop,
-- behind the script

abbrev pub at_scripts : State ℕ
at_scripts = after (opening 1) (ordinary (opens []))

abbrev pub at_takes : State ℕ
at_takes = after at_scripts (ordinary takes_begins)

abbrev pub takes_taken : State ℕ
takes_taken = after at_takes (ordinary takes_it)

abbrev pub takes_dropped : State ℕ
takes_dropped = after takes_taken (ordinary (drops_to 0))

abbrev pub takes_ended : State ℕ
takes_ended = after (after at_takes (ordinary (takes_and_drops 0))) (ordinary takes_stops)

-- and at the second script's, and behind it
abbrev pub at_waits : State ℕ
at_waits = after (after at_scripts (ordinary takes_part)) (ordinary waits_begins)

abbrev pub waits_ended : State ℕ
waits_ended = after (after at_waits (ordinary one_yield)) (ordinary waits_stops)

-- ---- the works

-- behind the drop: the unit becomes a batch, which takes its stamp
abbrev batch : List Entry
batch = entry.Batch 10 (Whole (0 ∷ [])) ∷ []

abbrev stamp : List Entry
stamp = entry.Stamp 10 Plain 2 ∷ []

abbrev pub batches_it : List Entry
batches_it = refills_none 0 ++ batches 0 2

pub batching-work : UntilDown (10 ∷ []) takes_dropped (ordinary batches_it)
unfolding size_of_class low_of_size high_of_size batch_of_size
batching-work = (
  1,
  then-of _ _ _ batches_it [] (
      then-of _ _ _ works (no_parcel ++ (reads 0 ++ (finds_none 3 ++ (batches 0 2)))) (says _ _ _ refl)
      (then-of _ _ _ no_parcel (reads 0 ++ (finds_none 3 ++ (batches 0 2)))
      ([], then-of _ _ _ no_parcel [] (says _ _ _ refl) refl)
      (then-of _ _ _ (reads 0 ++ finds_none 3) (batches 0 2) (
        0,
        then-of _ _ _ (reads 0) (finds_none 3) (says _ _ _ refl)
            ([], omega arith, then-of _ _ _ (finds_none 3) [] (says _ _ _ refl) refl),
      )
      (then-of _ _ _ (batches 0 2) []
      (then-of _ _ _ [] (batches 0 2) refl
      (then-of _ _ _ gathers (batch ++ (leaves ++ stamp)) (says _ _ _ ([], refl))
      (then-of _ _ _ batch (leaves ++ stamp) (says _ _ _ (0 ∷ [], refl))
      (then-of _ _ _ leaves stamp (says _ _ _ (0, refl)) (says _ _ _ (2, refl))))))
      (then-of _ _ _ [] [] refl refl))))
      ) (refl, refl),
)

-- behind the script: a period begins, and goes on
abbrev begins : List Entry
begins = entry.Begin Plain 1 ∷ []

abbrev begun : List Entry
begun = begins ++ goes_on

abbrev pub begins_it : List Entry
begins_it = begins_with goes_on

pub beginning-work : WorkBehind (10 ∷ []) takes_ended (ordinary begins_it)
unfolding size_of_class low_of_size high_of_size batch_of_size
beginning-work =
    then-of _ _ _ begins_it [] (then-of _ _ _ begins_it [] (
    then-of _ _ _ works (no_parcel ++ (reads 0 ++ (finds_none 3 ++ (begun ++ work_ends)))) (says _ _ _ refl)
    (then-of _ _ _ no_parcel (reads 0 ++ (finds_none 3 ++ (begun ++ work_ends)))
    ([], then-of _ _ _ no_parcel [] (says _ _ _ refl) refl)
    (then-of _ _ _ (reads 0 ++ finds_none 3) (begun ++ work_ends) (
      0,
      then-of _ _ _ (reads 0) (finds_none 3) (says _ _ _ refl)
          ([], omega arith, then-of _ _ _ (finds_none 3) [] (says _ _ _ refl) refl),
    )
    (then-of _ _ _ (begun ++ work_ends) []
    (then-of _ _ _ begun work_ends (
      begun,
      record {
        ended = [];
        begun = begins;
        seen = 1;
        own_is = refl;
        may_finish = inl refl;
        may_begin = inr (1, [], refl, inl refl);
      },
      then-of _ _ _ begun [] (stands _ _) refl,
    )
    (then-of _ _ _ gathers leaves (says _ _ _ ([], refl))
    (then-of _ _ _ [] leaves refl (then-of _ _ _ leaves [] (says _ _ _ (0, refl)) refl))))
    (then-of _ _ _ [] [] refl refl))))
    ) refl) (0, (refl, refl))

-- behind the second script: the period ends, and the batch is sent
abbrev ends : List ℕ → List Entry
ends first = ends_with first (2 ∷ 4 ∷ []) ∷ []

abbrev seen : List ℕ → List Entry
seen first = ends first ++ entry.Pass 10 Plain 2 ∷ []

abbrev parcel : List Entry
parcel = entry.Send 10 0 (Whole (0 ∷ [])) ∷ []

abbrev pub sends_it : List ℕ → List Entry
sends_it first = polls_with (sends_seeing first 0)

pub sending-work : (first : List ℕ) → WorkBehind (10 ∷ []) waits_ended (ordinary (sends_it first))
unfolding size_of_class low_of_size high_of_size batch_of_size
sending-work first =
    then-of _ _ _ (sends_it first) [] (then-of _ _ _ (sends_it first) [] (
    then-of _ _ _ works (no_parcel ++ (reads 0 ++ (finds_none 3 ++ (sends_seeing first 0 ++ work_ends)))) (says _ _ _ refl)
    (then-of _ _ _ no_parcel (reads 0 ++ (finds_none 3 ++ (sends_seeing first 0 ++ work_ends)))
    ([], then-of _ _ _ no_parcel [] (says _ _ _ refl) refl)
    (then-of _ _ _ (reads 0 ++ finds_none 3) (sends_seeing first 0 ++ work_ends) (
      0,
      then-of _ _ _ (reads 0) (finds_none 3) (says _ _ _ refl)
          ([], omega arith, then-of _ _ _ (finds_none 3) [] (says _ _ _ refl) refl),
    )
    (then-of _ _ _ (sends_seeing first 0 ++ work_ends) []
    (then-of _ _ _ (sends_seeing first 0) work_ends (
      seen first,
      record {
        ended = ends first;
        begun = [];
        seen = 2;
        own_is = refl;
        may_finish = inr (ends_with first (2 ∷ 4 ∷ []), refl, (_, refl, refl));
        may_begin = inl refl;
      },
      then-of _ _ _ (seen first) parcel (stands _ _) (says _ _ _ (0, 0 ∷ [], refl)),
    )
    (then-of _ _ _ gathers leaves (says _ _ _ ([], refl))
    (then-of _ _ _ [] leaves refl (then-of _ _ _ leaves [] (says _ _ _ (0, refl)) refl))))
    (then-of _ _ _ [] [] refl refl))))
    ) refl) (0, (refl, refl))
