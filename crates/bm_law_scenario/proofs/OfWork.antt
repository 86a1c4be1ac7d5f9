-- Each phrase of the work of a class is of entries of that work.
use Rattle.std.proofs.Common.{ℕ, zero, suc, Bool, List, [], ◌∷◌, ◌++◌, Option, Some, None, refl, sym, subst, inl, inr, nat_lt, nat_le}
use Rattle.bm_class.specs.Sizes.{size_of_class}
use Rattle.bm_class.specs.Watermarks.{low_of_size, high_of_size, batch_of_size}
use Rattle.bm_journal.specs.declared.ids.Domain.{Domain}
use Rattle.bm_journal.specs.declared.ids.Domain.TheVariants.{Plain, Tracing}
use Rattle.bm_journal.specs.declared.units.Units.TheVariants.{Whole}
use Rattle.bm_journal.specs.declared.entry.Entry.{Entry}
use Rattle.bm_journal.specs.declared.entry.Entry.TheVariants as entry
use Rattle.bm_law.specs.Lists.{is_unstamped}
use Rattle.bm_law.specs.State.{State}
use Rattle.bm_law.specs.Phrases.{AddPhrase}
use Rattle.bm_law.specs.SweepPhrases.{MayBegin, MayFinish, PollPhrase}
use Rattle.bm_law_work.specs.Parts.{Part, Nothing, Stand, Say, Then, If, When}
use Rattle.bm_law_work.specs.WorkPhrases.{AddAll, AfterParcel, Balance, BalanceAt, Brings, Drain, Fetches, FirstStage, IsBatch, IsGathering, IsLeave, IsOne, IsReturn, IsSecond, IsSend, IsStamp, IsTakeExtra, Moved, Passing, Receive, Refill, RefillBy, SecondStage, Unloads, Work, has_hand, may_batch, may_begin, middle_of_class, take_of, takes}
use Rattle.bm_law_work.proofs.Each.{AllOf, PartOf, of-append, of-map, part-if, part-map, part-nothing, part-say, part-stand, part-then, part-when}
use Rattle.bm_law_scenario.specs.WorkEntries.{IsOfWork, KeepsBatch}

-- it is of the work of a class, and leaves the tracing batches
abbrev pub IsCalm : ℕ → Entry → Type 0
IsCalm c e = IsOfWork c e × KeepsBatch e

abbrev Writes : ℕ → List Entry → Type 0
Writes c es = AllOf (IsCalm c) es

abbrev pub WritesPart : ℕ → ℕ → Part → Type 0
WritesPart l c P = PartOf (IsCalm c) l P

pub one : (l c : ℕ) (e : Entry) → IsCalm c e → WritesPart l c (Say l (IsOne e))
one l c e q = part-say (IsCalm c) l (IsOne e) (λ own h. subst (Writes c) (sym h) (q, tt))

add : (l c u : ℕ) → WritesPart l c (Say l (AddPhrase c u))
add l c u = part-say (IsCalm c) l (AddPhrase c u) (λ own h. subst (Writes c) (sym h.2) ((refl, tt), ((refl, tt), ((refl, tt), ((refl, tt), tt)))))

brings : (l c : ℕ) (e : Entry) (u : ℕ) → IsCalm c e → WritesPart l c (Brings l c e u)
brings l c e u q = part-then (IsCalm c) l (Say l (IsOne e)) (Say l (AddPhrase c u)) (one l c e q) (add l c u)

add-all : (l c : ℕ) (us : List ℕ) → WritesPart l c (AddAll l c us)
add-all l c [] = part-nothing (IsCalm c) l
add-all l c (u ∷ us) = part-then (IsCalm c) l (Say l (AddPhrase c u)) (AddAll l c us) (add l c u) (add-all l c us)

fetches : (l c want : ℕ) → WritesPart l c (Fetches l c want)
fetches l c want s part h =
    let e : Entry = entry.Fetch c want (Whole h.0) in
    part-then (IsCalm c) l (Say l (IsOne e)) (AddAll l c h.0) (one l c e (refl, tt)) (add-all l c h.0) s part h.2

refill-by : (l c left : ℕ) (rest : Part) (ready second : List ℕ) → WritesPart l c rest → WritesPart l c (RefillBy l c left rest ready second)
refill-by l c left rest (u ∷ us) second q = part-then (IsCalm c) l (Brings l c (entry.Ready c u) u) rest (brings l c (entry.Ready c u) u (refl, tt)) q
refill-by l c left rest [] (u ∷ us) q = part-then (IsCalm c) l (Brings l c (entry.Second c u) u) rest (brings l c (entry.Second c u) u (refl, tt)) q
refill-by l c left rest [] [] q = fetches l c left

refill : (l c n : ℕ) → WritesPart l c (Refill l c n)
refill l c zero = part-nothing (IsCalm c) l
refill l c (suc n) = λ s part h. refill-by l c (suc n) (Refill l c n) (s.rows c).deferred.ready (s.rows c).deferred.second (refill l c n) s part h

all-takes : (c : ℕ) (xs : List Moved) → Writes c (takes c xs)
all-takes c [] = tt
all-takes c (x ∷ xs) = of-append (IsCalm c) (take_of c x) (takes c xs) ((refl, tt), ((refl, tt), ((refl, tt), ((refl, tt), tt)))) (all-takes c xs)

unloads : (c middle : ℕ) (own : List Entry) → Unloads c middle own → Writes c own
unloads c middle own h = subst (Writes c) (sym h.own_is) (of-append (IsCalm c) (takes c h.over) h.last (all-takes c h.over) last)
  where
    last : Writes c h.last
    last = elim h.is_last [
      | inl a ↦ subst (Writes c) (sym a.2) ((refl, tt), ((refl, tt), ((refl, tt), ((refl, tt), tt))))
      | inr a ↦ subst (Writes c) (sym a.1) ((refl, tt), ((refl, tt), ((refl, tt), tt)))
    ]

drain : (l c : ℕ) → WritesPart l c (Drain l c)
drain l c =
    let takes : Part = Say l (Unloads c (middle_of_class c)) in
    let extra : Part = Say l (IsTakeExtra c) in
    let send : Part = When (has_hand l) (Say l (IsSend c)) in
    let sent : WritesPart l c (Say l (IsSend c)) = part-say (IsCalm c) l (IsSend c) (λ own h. subst (Writes c) (sym h.2) ((refl, tt), tt)) in
    let taken : WritesPart l c extra = part-say (IsCalm c) l (IsTakeExtra c) (λ own h. subst (Writes c) (sym h.1) ((refl, tt), tt)) in
    part-then (IsCalm c) l takes (Then extra send) (part-say (IsCalm c) l (Unloads c (middle_of_class c)) (unloads c (middle_of_class c)))
    (part-then (IsCalm c) l extra send taken (part-when (IsCalm c) l (has_hand l) (Say l (IsSend c)) sent))

pub balance : (l c : ℕ) → WritesPart l c (Balance l c)
balance l c s part h =
    let size = size_of_class c in
    let e : Entry = entry.Read c h.0 in
    part-then (IsCalm c) l (Say l (IsOne e)) (BalanceAt l c h.0) (one l c e (refl, tt))
    (part-if (IsCalm c) l (nat_lt h.0 (low_of_size size)) (Refill l c (batch_of_size size)) (If (nat_lt (high_of_size size) h.0) (Drain l c) Nothing) (refill l c (batch_of_size size))
    (part-if (IsCalm c) l (nat_lt (high_of_size size) h.0) (Drain l c) Nothing (drain l c) (part-nothing (IsCalm c) l))) s part h.1

after-parcel : (l c : ℕ) (us : List ℕ) (rest : Part) → WritesPart l c rest → WritesPart l c (AfterParcel us rest)
after-parcel l c [] rest q = part-nothing (IsCalm c) l
after-parcel l c (u ∷ us) rest q = q

pub receive : (l c n : ℕ) → WritesPart l c (Receive l c n)
receive l c zero = part-nothing (IsCalm c) l
receive l c (suc n) = λ s part h.
    let e : Entry = entry.Receive c (Whole h.0) in
    part-then (IsCalm c) l (Say l (IsOne e)) (AfterParcel h.0 (Receive l c n)) (one l c e (refl, tt)) (after-parcel l c h.0 (Receive l c n) (receive l c n)) s part h.1

finishes : (c : ℕ) (d : Domain) (own : List Entry) → MayFinish d own → Writes c own
finishes c d own (inl h) = subst (Writes c) (sym h) tt
finishes c d own (inr (e, h, (period, n, f))) = subst (Writes c) (sym h) (subst (IsCalm c) (sym f) (tt, tt), tt)

begins : (c : ℕ) (d : Domain) (own : List Entry) → MayBegin d own → Writes c own
begins c d own (inl h) = subst (Writes c) (sym h) tt
begins c d own (inr (n, rest, h, f)) = subst (Writes c) (sym h) ((tt, tt), finishes c d rest f)

pub poll : (c : ℕ) (d : Domain) (own : List Entry) → PollPhrase c d own → Writes c own
poll c d own h = subst (Writes c) (sym h.own_is) (of-append (IsCalm c) h.ended (h.begun ++ entry.Pass c d h.seen ∷ []) (finishes c d h.ended h.may_finish) (of-append (IsCalm c) h.begun (entry.Pass c d h.seen ∷ []) (begins c d h.begun h.may_begin) ((refl, tt), tt)))

passing : (I : Entry → Type 0) (l c : ℕ) (d : Domain) (batch : Option ℕ) (P : Part) → ((e : Entry) → IsCalm c e → I e) → PartOf I l P → PartOf I l (Passing l c d batch P)
passing I l c d None P f q = part-nothing I l
passing I l c d (Some stamp) P f q = λ s part h.
    let rest : Part = If (nat_le stamp h.1.seen) P Nothing in
    part-then I l (Stand l h.0) rest (part-stand I l h.0 (of-map (IsCalm c) I f h.0 (poll c d h.0 h.1))) (part-if I l (nat_le stamp h.1.seen) P Nothing q (part-nothing I l)) s part h.2

pub first : (l c : ℕ) → WritesPart l c (FirstStage l c)
first l c s part h =
    let passed : Part = Passing l c Plain (s.rows c).deferred.plain (Say l (IsSend c)) in
    let gather : Part = Say l (IsGathering c) in
    let batch : Part = When (may_batch c) (Say l (IsBatch c)) in
    let leave : Part = Say l (IsLeave c) in
    let test : State ℕ → Bool = λ t. is_unstamped (t.rows c).deferred.plain in
    let stamped : Part = When test (Say l (IsStamp c Plain)) in
    let a : WritesPart l c (Say l (IsSend c)) = part-say (IsCalm c) l (IsSend c) (λ own g. subst (Writes c) (sym g.2) ((refl, tt), tt)) in
    let b : WritesPart l c gather = part-say (IsCalm c) l (IsGathering c) (λ own g. subst (Writes c) (sym g.1) ((refl, tt), ((refl, tt), tt))) in
    let d : WritesPart l c batch = part-when (IsCalm c) l (may_batch c) (Say l (IsBatch c)) (part-say (IsCalm c) l (IsBatch c) (λ own g. subst (Writes c) (sym g.1) ((refl, tt), tt))) in
    let e : WritesPart l c leave = part-say (IsCalm c) l (IsLeave c) (λ own g. subst (Writes c) (sym g.1) ((refl, tt), tt)) in
    let f : WritesPart l c stamped = part-when (IsCalm c) l test (Say l (IsStamp c Plain)) (part-say (IsCalm c) l (IsStamp c Plain) (λ own g. subst (Writes c) (sym g.1) ((refl, refl), tt))) in
    part-then (IsCalm c) l passed (Then gather (Then batch (Then leave stamped))) (passing (IsCalm c) l c Plain (s.rows c).deferred.plain (Say l (IsSend c)) (λ e w. w) a)
    (part-then (IsCalm c) l gather (Then batch (Then leave stamped)) b (part-then (IsCalm c) l batch (Then leave stamped) d (part-then (IsCalm c) l leave stamped e f))) s part h

second : (l c : ℕ) → PartOf (IsOfWork c) l (SecondStage l c)
second l c s part h =
    let passed : Part = Passing l c Tracing (s.rows c).deferred.tracing (Say l (IsReturn c)) in
    let begin : Part = Say l (IsSecond c) in
    let stamped : Part = Say l (IsStamp c Tracing) in
    let W : List Entry → Type 0 = λ es. AllOf (IsOfWork c) es in
    let a : PartOf (IsOfWork c) l (Say l (IsReturn c)) = part-say (IsOfWork c) l (IsReturn c) (λ own g. subst W (sym g.1) (refl, tt)) in
    let b : PartOf (IsOfWork c) l begin = part-say (IsOfWork c) l (IsSecond c) (λ own g. subst W (sym g.1) (refl, tt)) in
    let d : PartOf (IsOfWork c) l stamped = part-say (IsOfWork c) l (IsStamp c Tracing) (λ own g. subst W (sym g.1) (refl, tt)) in
    part-then (IsOfWork c) l passed (When (may_begin c) (Then begin stamped)) (passing (IsOfWork c) l c Tracing (s.rows c).deferred.tracing (Say l (IsReturn c)) (λ e w. w.0) a)
    (part-when (IsOfWork c) l (may_begin c) (Then begin stamped) (part-then (IsOfWork c) l begin stamped b d)) s part h

pub work-writes : (l c : ℕ) → PartOf (IsOfWork c) l (Work l c)
work-writes l c =
    let calm : (P : Part) → WritesPart l c P → PartOf (IsOfWork c) l P = λ P q. part-map (IsCalm c) (IsOfWork c) (λ e w. w.0) l P q in
    let stages : Part = Then (FirstStage l c) (SecondStage l c) in
    part-then (IsOfWork c) l (Say l (IsOne (entry.Work c))) (Then (Receive l c 64) (Then (Balance l c) stages)) (calm (Say l (IsOne (entry.Work c))) (one l c (entry.Work c) (refl, tt)))
    (part-then (IsOfWork c) l (Receive l c 64) (Then (Balance l c) stages) (calm (Receive l c 64) (receive l c 64))
    (part-then (IsOfWork c) l (Balance l c) stages (calm (Balance l c) (balance l c)) (part-then (IsOfWork c) l (FirstStage l c) (SecondStage l c) (calm (FirstStage l c) (first l c)) (second l c))))
