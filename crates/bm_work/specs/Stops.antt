-- Where deferred work stops for want of memory: handlers may have run at the point, and the entry doesn't come. (This
-- project's own.)
use Rattle.std.specs.Prelude.{ℕ, ◌≤◌, ◌<◌, ◌⊎◌, Option, Some, None, []}
use Rattle.bm_class.specs.Sizes.{size_of_class}
use Rattle.bm_class.specs.Watermarks.{low_of_size, high_of_size, batch_of_size}
use Rattle.bm_journal.specs.declared.ids.Domain.{Domain}
use Rattle.bm_journal.specs.declared.ids.Domain.TheVariants.{Plain, Tracing}
use Rattle.bm_journal.specs.declared.entry.Entry.TheVariants as entry
use Rattle.bm_law.specs.Lists.{is_unstamped}
use Rattle.bm_law_work.specs.Parts.{Part, Say, Stand, Then, When}
use Rattle.bm_law_work.specs.WorkPhrases.{Balance, FirstStage, IsBatch, IsGathering, IsLeave, IsOne, IsReturn, IsSecond, IsSend, IsStamp, IsTakeExtra, Passing, Receive, Unloads, may_batch, may_begin, middle_of_class}
use Rattle.bm_work_lists.specs.FromLists.{FromLists}
use Rattle.bm_work.specs.Periods.{Sees}

-- one part or another
abbrev pub Or : Part → Part → Part
Or one other s part = one s part ⊎ other s part

-- the entry of this level doesn't come
abbrev pub Missing : ℕ → Part
Missing l = Stand l []

-- What happens to the batches of a class, if one is in progress.
abbrev pub PassFirst : ℕ → ℕ → Part
PassFirst l c s = Passing l c Plain (s.rows c).deferred.plain (Say l (IsSend c)) s

abbrev pub PassSecond : ℕ → ℕ → Part
PassSecond l c s = Passing l c Tracing (s.rows c).deferred.tracing (Say l (IsReturn c)) s

-- What becomes a batch, if none is in progress, and its stamp.
abbrev pub BeginFirst : ℕ → ℕ → Part
BeginFirst l c =
    Then (Say l (IsGathering c))
    (Then (When (may_batch c) (Say l (IsBatch c)))
    (Then (Say l (IsLeave c))
    (When (λ t. is_unstamped (t.rows c).deferred.plain) (Say l (IsStamp c Plain)))))

abbrev pub BeginSecond : ℕ → ℕ → Part
BeginSecond l c = When (may_begin c) (Then (Say l (IsSecond c)) (Say l (IsStamp c Tracing)))

-- a number was seen that passes the stamp, and the parcel, or the return, doesn't come
abbrev pub StopPassed : ℕ → ℕ → Domain → Option ℕ → Part
StopPassed l c d None s part = ⊥
StopPassed l c d (Some stamp) s part =
    (n : ℕ) × (stamp ≤ n) × Then (Say l (Sees c d n)) (Missing l) s part

abbrev pub FirstStop : ℕ → ℕ → Part
FirstStop l c s = StopPassed l c Plain (s.rows c).deferred.plain s

abbrev pub SecondStop : ℕ → ℕ → Part
SecondStop l c s = StopPassed l c Tracing (s.rows c).deferred.tracing s

-- The fetch of a refill of so many units, or the parcel of a drain, doesn't come.
abbrev pub RefillStop : ℕ → ℕ → ℕ → Part
RefillStop l c want s part =
    (left : ℕ) × (0 < left) × Then (FromLists l c want left) (Missing l) s part

abbrev pub DrainStop : ℕ → ℕ → Part
DrainStop l c =
    Then (Then (Say l (Unloads c (middle_of_class c))) (Say l (IsTakeExtra c))) (Missing l)

-- by the count that was read
abbrev pub StopAt : ℕ → ℕ → ℕ → Part
StopAt l c count s part =
    ((count < low_of_size (size_of_class c))
    × RefillStop l c (batch_of_size (size_of_class c)) s part)
    ⊎ ((high_of_size (size_of_class c) < count) × DrainStop l c s part)

abbrev pub BalanceStop : ℕ → ℕ → Part
BalanceStop l c s part =
    (count : ℕ) × Then (Say l (IsOne (entry.Read c count))) (StopAt l c count) s part

-- The work of a class stops at a refill's fetch, at a drain's parcel, at the first stage's parcel or at the return.
abbrev pub WorkStop : ℕ → ℕ → Part
WorkStop l c =
    Then (Say l (IsOne (entry.Work c))) (Then (Receive l c 64)
    (Or (BalanceStop l c)
    (Then (Balance l c) (Or (FirstStop l c)
    (Then (FirstStage l c) (SecondStop l c))))))
