-- The deferred work of the processor that lends a unit, and where it stands in its log.
use Rattle.std.proofs.Common.{ℕ, List, [], ◌∷◌, ◌++◌, refl, arith, codes}
use Rattle.bm_class.specs.Sizes.{size_of_class}
use Rattle.bm_class.specs.Watermarks.{low_of_size, high_of_size, batch_of_size}
use Rattle.bm_journal.specs.declared.ids.Domain.TheVariants.{Plain, Tracing}
use Rattle.bm_journal.specs.declared.units.Units.TheVariants.{Whole}
use Rattle.bm_journal.specs.declared.entry.Entry.{Entry}
use Rattle.bm_journal.specs.declared.entry.Entry.TheVariants as entry
use Rattle.bm_law.specs.State.{State, opening}
use Rattle.bm_law.specs.Lists.{after}
use Rattle.bm_law.specs.Ordinary.{ordinary}
use Rattle.bm_law_lives.specs.Worked.{opens, pushes}
use Rattle.bm_law_lives.specs.WorkedBlock.{work_ends}
use Rattle.bm_law_scenario.specs.Works.{UntilDown, WorkBehind}
use Rattle.bm_law_scenario.proofs.Ordinary.{says, then-of}
use Rattle.bm_law_journal.specs.WorkedLoan.{finds_none, holds_up, makes_and_drops, makes_and_puts, receives, sealed, takes_last, works_in_vain}

-- ---- the entries of works, one step each

abbrev pub works : List Entry
works = entry.Work 10 ∷ []

abbrev pub no_parcel : List Entry
no_parcel = entry.Receive 10 (Whole []) ∷ []

abbrev pub reads : ℕ → List Entry
reads k = entry.Read 10 k ∷ []

abbrev pub gathers : List Entry
gathers = entry.Enter 10 1 ∷ entry.TakeDelayed 10 (Whole []) ∷ []

abbrev pub leaves : List Entry
leaves = entry.Leave 10 0 ∷ []

-- ---- its log, cut where work stands

abbrev pub lends_begins : List Entry
lends_begins = entry.Script (codes "lends") ∷ entry.In Tracing 1 ∷ []

abbrev pub lends_body : List Entry
lends_body = makes_and_puts ++ holds_up []

abbrev pub lends_stops : List Entry
lends_stops = entry.Out Tracing 2 ∷ entry.Done (codes "lends") ∷ []

abbrev pub lends_part : List Entry
lends_part = lends_begins ++ (lends_body ++ (lends_stops ++ receives))

abbrev pub again_begins : List Entry
again_begins = entry.Script (codes "again") ∷ entry.In Plain 3 ∷ []

abbrev pub again_body : List Entry
again_body = makes_and_drops sealed

abbrev pub again_stops : List Entry
again_stops = entry.Out Plain 4 ∷ entry.Done (codes "again") ∷ []

abbrev pub again_part : List Entry
again_part = again_begins ++ (again_body ++ (again_stops ++ works_in_vain 1))

-- the call for an object, and for one of the other type
abbrev pub asks : List Entry
asks = entry.New (codes "big") [] ∷ takes_last (entry.Given 0 1)

abbrev pub asks_again : List Entry
asks_again = entry.New (codes "wide") [] ∷ takes_last sealed

-- ---- the lists there: at the first script's statements, behind its call, behind the script

abbrev pub at_scripts : State ℕ
at_scripts = after (opening 0) (ordinary (opens (0 ∷ [])))

abbrev pub at_lends : State ℕ
at_lends = after at_scripts (ordinary lends_begins)

abbrev pub lends_asked : State ℕ
lends_asked = after at_lends (ordinary asks)

abbrev pub lends_ended : State ℕ
lends_ended = after (after at_lends (ordinary lends_body)) (ordinary lends_stops)

-- the same of the second script
abbrev pub at_again : State ℕ
at_again = after (after at_scripts (ordinary lends_part)) (ordinary again_begins)

abbrev pub again_asked : State ℕ
again_asked = after at_again (ordinary asks_again)

abbrev pub again_ended : State ℕ
again_ended = after (after at_again (ordinary again_body)) (ordinary again_stops)

-- ---- the works

-- behind the call: no parcel, no unit in stock, and nothing that was freed with delay
pub first-work : UntilDown (10 ∷ []) lends_asked (ordinary (works_in_vain 0))
unfolding size_of_class low_of_size high_of_size batch_of_size
first-work = (
  1,
  then-of _ _ _ (works_in_vain 0) [] (
      then-of _ _ _ works (no_parcel ++ (reads 0 ++ (finds_none 3 ++ work_ends))) (says _ _ _ refl)
      (then-of _ _ _ no_parcel (reads 0 ++ (finds_none 3 ++ work_ends))
      ([], then-of _ _ _ no_parcel [] (says _ _ _ refl) refl)
      (then-of _ _ _ (reads 0 ++ finds_none 3) work_ends (
        0,
        then-of _ _ _ (reads 0) (finds_none 3) (says _ _ _ refl)
            ([], omega arith, then-of _ _ _ (finds_none 3) [] (says _ _ _ refl) refl),
      )
      (then-of _ _ _ work_ends []
      (then-of _ _ _ [] work_ends refl
      (then-of _ _ _ gathers leaves (says _ _ _ ([], refl))
      (then-of _ _ _ [] leaves refl (then-of _ _ _ leaves [] (says _ _ _ (0, refl)) refl))))
      (then-of _ _ _ [] [] refl refl))))
      ) (refl, refl),
)

-- behind the script: a parcel, whose unit comes back
abbrev parcel : List Entry
parcel = entry.Receive 10 (Whole (0 ∷ [])) ∷ []

abbrev brings : List Entry
brings = entry.Ready 10 0 ∷ pushes 0

abbrev refill : List Entry
refill = reads 0 ++ (brings ++ finds_none 2)

pub receiving-work : WorkBehind (10 ∷ []) lends_ended (ordinary receives)
unfolding size_of_class low_of_size high_of_size batch_of_size
receiving-work =
    then-of _ _ _ receives [] (then-of _ _ _ receives [] (
    then-of _ _ _ works (parcel ++ (no_parcel ++ (refill ++ work_ends))) (says _ _ _ refl)
    (then-of _ _ _ (parcel ++ no_parcel) (refill ++ work_ends) (
      0 ∷ [],
      then-of _ _ _ parcel no_parcel (says _ _ _ refl)
          ([], then-of _ _ _ no_parcel [] (says _ _ _ refl) refl),
    )
    (then-of _ _ _ refill work_ends (
      0,
      then-of _ _ _ (reads 0) (brings ++ finds_none 2) (says _ _ _ refl)
          (then-of _ _ _ brings (finds_none 2)
          (then-of _ _ _ (entry.Ready 10 0 ∷ []) (pushes 0) (says _ _ _ refl) (says _ _ _ (1, 0, refl)))
          ([], omega arith, then-of _ _ _ (finds_none 2) [] (says _ _ _ refl) refl)),
    )
    (then-of _ _ _ work_ends []
    (then-of _ _ _ [] work_ends refl
    (then-of _ _ _ gathers leaves (says _ _ _ ([], refl))
    (then-of _ _ _ [] leaves refl (then-of _ _ _ leaves [] (says _ _ _ (0, refl)) refl))))
    (then-of _ _ _ [] [] refl refl))))
    ) refl) (0, (refl, refl))

-- behind the second call
pub second-work : UntilDown (10 ∷ []) again_asked (ordinary (works_in_vain 0))
unfolding size_of_class low_of_size high_of_size batch_of_size
second-work = (
  1,
  then-of _ _ _ (works_in_vain 0) [] (
      then-of _ _ _ works (no_parcel ++ (reads 0 ++ (finds_none 3 ++ work_ends))) (says _ _ _ refl)
      (then-of _ _ _ no_parcel (reads 0 ++ (finds_none 3 ++ work_ends))
      ([], then-of _ _ _ no_parcel [] (says _ _ _ refl) refl)
      (then-of _ _ _ (reads 0 ++ finds_none 3) work_ends (
        0,
        then-of _ _ _ (reads 0) (finds_none 3) (says _ _ _ refl)
            ([], omega arith, then-of _ _ _ (finds_none 3) [] (says _ _ _ refl) refl),
      )
      (then-of _ _ _ work_ends []
      (then-of _ _ _ [] work_ends refl
      (then-of _ _ _ gathers leaves (says _ _ _ ([], refl))
      (then-of _ _ _ [] leaves refl (then-of _ _ _ leaves [] (says _ _ _ (0, refl)) refl))))
      (then-of _ _ _ [] [] refl refl))))
      ) (refl, refl),
)

-- behind the second script, where the unit stands on Free
pub last-work : WorkBehind (10 ∷ []) again_ended (ordinary (works_in_vain 1))
unfolding size_of_class low_of_size high_of_size batch_of_size
last-work =
    then-of _ _ _ (works_in_vain 1) [] (then-of _ _ _ (works_in_vain 1) [] (
    then-of _ _ _ works (no_parcel ++ (reads 1 ++ (finds_none 3 ++ work_ends))) (says _ _ _ refl)
    (then-of _ _ _ no_parcel (reads 1 ++ (finds_none 3 ++ work_ends))
    ([], then-of _ _ _ no_parcel [] (says _ _ _ refl) refl)
    (then-of _ _ _ (reads 1 ++ finds_none 3) work_ends (
      1,
      then-of _ _ _ (reads 1) (finds_none 3) (says _ _ _ refl)
          ([], omega arith, then-of _ _ _ (finds_none 3) [] (says _ _ _ refl) refl),
    )
    (then-of _ _ _ work_ends []
    (then-of _ _ _ [] work_ends refl
    (then-of _ _ _ gathers leaves (says _ _ _ ([], refl))
    (then-of _ _ _ [] leaves refl (then-of _ _ _ leaves [] (says _ _ _ (0, refl)) refl))))
    (then-of _ _ _ [] [] refl refl))))
    ) refl) (0, (refl, refl))
