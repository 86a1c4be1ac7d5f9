-- The phrases of deferred work. (bpf_mem_refill, alloc_bulk, free_bulk, check_free_by_rcu and do_call_rcu in
-- kernel/bpf/memalloc.c. Parcels, the order of a refill's sources, stamps, polling, and the place of the second stage are
-- this project's own.)
use Rattle.std.specs.Prelude.{◌≡◌, ◌⊎◌, ◌<◌, ◌≤◌, ℕ, zero, suc, ◌+◌, ◌/◌, Bool, true, false, not, ◌&&◌, nat_lt, nat_le, is_none, Option, Some, None, List, [], ◌∷◌, ◌++◌, length}
use Rattle.std.specs.List.{All}
use Rattle.bm_class.specs.Sizes.{size_of_class}
use Rattle.bm_class.specs.Watermarks.{low_of_size, high_of_size, batch_of_size}
use Rattle.bm_journal.specs.declared.ids.Domain.{Domain}
use Rattle.bm_journal.specs.declared.ids.Domain.TheVariants.{Plain, Tracing}
use Rattle.bm_journal.specs.declared.units.Units.TheVariants.{Whole}
use Rattle.bm_journal.specs.declared.entry.Entry.{Entry}
use Rattle.bm_journal.specs.declared.entry.Entry.TheVariants as entry
use Rattle.bm_law.specs.State.{State}
use Rattle.bm_law.specs.Lists.{is_unstamped}
use Rattle.bm_law.specs.Phrases.{AddPhrase}
use Rattle.bm_law.specs.SweepPhrases.{PollPhrase}
use Rattle.bm_law_work.specs.Parts.{Part, Nothing, Stand, Say, Then, If, When}

-- one entry
abbrev pub IsOne : Entry → List Entry → Type 0
IsOne e own = own ≡ e ∷ []

-- whether a list holds a unit
abbrev pub is_empty : List ℕ → Bool
is_empty [] = true
is_empty (u ∷ us) = false

-- Refill. A unit comes from one of the lists, and is added to Free.
abbrev pub Brings : ℕ → ℕ → Entry → ℕ → Part
Brings l c e u = Then (Say l (IsOne e)) (Say l (AddPhrase c u))

-- these units in hand are added to Free, one after the other
abbrev pub AddAll : ℕ → ℕ → List ℕ → Part
AddAll l c [] = Nothing
AddAll l c (u ∷ us) = Then (Say l (AddPhrase c u)) (AddAll l c us)

-- one fetch of so many units from the stock, which may give fewer, but not more
abbrev pub Fetches : ℕ → ℕ → ℕ → Part
Fetches l c want s part =
    (units : List ℕ) × (length units ≤ want)
    × Then (Say l (IsOne (entry.Fetch c want (Whole units)))) (AddAll l c units) s part

-- A refill goes on, with so many units left to bring: by one from the top of Ready, if there is one, else by one from the
-- top of Second, and then by the rest of the refill; and where both are empty by one fetch of all that are left.
abbrev pub RefillBy : ℕ → ℕ → ℕ → Part → List ℕ → List ℕ → Part
RefillBy l c left rest (u ∷ us) second = Then (Brings l c (entry.Ready c u) u) rest
RefillBy l c left rest [] (u ∷ us) = Then (Brings l c (entry.Second c u) u) rest
RefillBy l c left rest [] [] = Fetches l c left

-- A refill of so many units.
abbrev pub Refill : ℕ → ℕ → ℕ → Part
Refill l c zero = Nothing
Refill l c (suc n) =
    λ s. RefillBy l c (suc n) (Refill l c n) (s.rows c).deferred.ready (s.rows c).deferred.second s

-- Drain. A unit that was moved, with the free count and the active number that its count and its leave name.
pub record Moved : Type 0 where
  pub unit : ℕ
  pub count : ℕ
  pub active : ℕ

-- a take off Free, and one that finds Free empty
abbrev pub take_of : ℕ → Moved → List Entry
take_of c x =
    entry.Enter c 1 ∷ entry.Pop c x.unit ∷ entry.Count c x.count ∷ entry.Leave c x.active ∷ []

abbrev pub empty_take : ℕ → ℕ → List Entry
empty_take c a = entry.Enter c 1 ∷ entry.PopNone c ∷ entry.Leave c a ∷ []

abbrev pub takes : ℕ → List Moved → List Entry
takes c [] = []
takes c (x ∷ xs) = take_of c x ++ takes c xs

-- the last take of a drain leaves at most the middle, or finds Free empty
abbrev pub IsLastTake : ℕ → ℕ → List Entry → Type 0
IsLastTake c middle own =
    ((x : Moved) × (x.count ≤ middle) × (own ≡ take_of c x)) ⊎ ((a : ℕ) × (own ≡ empty_take c a))

-- the takes of a drain, each of which but the last leaves more than the middle
pub record Unloads (c middle : ℕ) (own : List Entry) : Type 0 where
  pub over : List Moved
  pub above : All (λ (x : Moved). middle < x.count) over
  pub last : List Entry
  pub is_last : IsLastTake c middle last
  pub own_is : own ≡ takes c over ++ last

-- the middle between the marks of a class
abbrev pub middle_of_class : ℕ → ℕ
middle_of_class c = (high_of_size (size_of_class c) + low_of_size (size_of_class c)) / 2

abbrev pub has_hand : ℕ → State ℕ → Bool
has_hand l s = not (is_empty (s.sides l).hand)

-- all of Extra, and a parcel
abbrev pub IsTakeExtra : ℕ → List Entry → Type 0
IsTakeExtra c own = (units : List ℕ) × IsOne (entry.TakeExtra c (Whole units)) own

abbrev pub IsSend : ℕ → List Entry → Type 0
IsSend c own = (to : ℕ) × (units : List ℕ) × IsOne (entry.Send c to (Whole units)) own

-- Units are taken off Free down to the middle, then all of Extra; what is in hand then goes to the target as one parcel.
abbrev pub Drain : ℕ → ℕ → Part
Drain l c =
    Then (Say l (Unloads c (middle_of_class c)))
    (Then (Say l (IsTakeExtra c)) (When (has_hand l) (Say l (IsSend c))))

-- The free count is read: below the low mark a refill follows, above the high mark a drain.
abbrev pub BalanceAt : ℕ → ℕ → ℕ → Part
BalanceAt l c count =
    If (nat_lt count (low_of_size (size_of_class c))) (Refill l c (batch_of_size (size_of_class c)))
    (If (nat_lt (high_of_size (size_of_class c)) count) (Drain l c) Nothing)

abbrev pub Balance : ℕ → ℕ → Part
Balance l c s part =
    (count : ℕ) × Then (Say l (IsOne (entry.Read c count))) (BalanceAt l c count) s part

-- after a parcel of these units the rest follows; after none nothing
abbrev pub AfterParcel : List ℕ → Part → Part
AfterParcel [] rest = Nothing
AfterParcel (u ∷ us) rest = rest

-- Parcels are received until there is none, at most so many.
abbrev pub Receive : ℕ → ℕ → ℕ → Part
Receive l c zero = Nothing
Receive l c (suc n) = λ s part.
    (units : List ℕ)
    × Then (Say l (IsOne (entry.Receive c (Whole units)))) (AfterParcel units (Receive l c n)) s
    part

-- a poll of a domain, and what follows the number that it sees
abbrev pub Polled : ℕ → ℕ → Domain → (ℕ → Part) → Part
Polled l c d rest s part =
    (own : List Entry) × (poll : PollPhrase c d own) × Then (Stand l own) (rest poll.seen) s part

-- what happens to a batch of this domain, if one is in progress: where the number seen is at least its stamp, this part
abbrev pub Passing : ℕ → ℕ → Domain → Option ℕ → Part → Part
Passing l c d None passed = Nothing
Passing l c d (Some stamp) passed = Polled l c d (λ seen. If (nat_le stamp seen) passed Nothing)

-- a new batch takes its stamp
abbrev pub IsStamp : ℕ → Domain → List Entry → Type 0
IsStamp c d own = (stamp : ℕ) × IsOne (entry.Stamp c d stamp) own

abbrev pub IsBatch : ℕ → List Entry → Type 0
IsBatch c own = (units : List ℕ) × IsOne (entry.Batch c (Whole units)) own

abbrev pub IsLeave : ℕ → List Entry → Type 0
IsLeave c own = (a : ℕ) × IsOne (entry.Leave c a) own

-- ExtraDelayed is moved onto Delayed
abbrev pub IsGathering : ℕ → List Entry → Type 0
IsGathering c own =
    (units : List ℕ) × (own ≡ entry.Enter c 1 ∷ entry.TakeDelayed c (Whole units) ∷ [])

-- Delayed holds a unit, and no plain batch is in progress
abbrev pub may_batch : ℕ → State ℕ → Bool
may_batch c s = not (is_empty (s.rows c).delayed) && is_none (s.rows c).deferred.plain

-- Ready holds a unit, and no tracing batch is in progress
abbrev pub may_begin : ℕ → State ℕ → Bool
may_begin c s = not (is_empty (s.rows c).deferred.ready) && is_none (s.rows c).deferred.tracing

-- First stage: a batch whose grace period has passed is sent; then what was freed with delay becomes a batch, if none is
-- in progress.
abbrev pub FirstStage : ℕ → ℕ → Part
FirstStage l c s part =
    Then (Passing l c Plain (s.rows c).deferred.plain (Say l (IsSend c)))
    (Then (Say l (IsGathering c))
    (Then (When (may_batch c) (Say l (IsBatch c)))
    (Then (Say l (IsLeave c))
    (When (λ t. is_unstamped (t.rows c).deferred.plain) (Say l (IsStamp c Plain)))))) s part

-- Second stage: a batch whose grace period has passed returns to the stock; then Ready becomes a batch, if none is in
-- progress.
abbrev pub IsReturn : ℕ → List Entry → Type 0
IsReturn c own = (units : List ℕ) × IsOne (entry.Return c (Whole units)) own

abbrev pub IsSecond : ℕ → List Entry → Type 0
IsSecond c own = (units : List ℕ) × IsOne (entry.BeginSecond c (Whole units)) own

abbrev pub SecondStage : ℕ → ℕ → Part
SecondStage l c s part =
    Then (Passing l c Tracing (s.rows c).deferred.tracing (Say l (IsReturn c)))
    (When (may_begin c) (Then (Say l (IsSecond c)) (Say l (IsStamp c Tracing)))) s part

-- The work of a class.
abbrev pub Work : ℕ → ℕ → Part
Work l c =
    Then (Say l (IsOne (entry.Work c)))
    (Then (Receive l c 64)
    (Then (Balance l c)
    (Then (FirstStage l c) (SecondStage l c))))
