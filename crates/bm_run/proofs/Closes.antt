-- The closing's entries.
use Rattle.std.proofs.Common.{◌≡◌, ◌∙◌, ◌+◌, ◌==◌, ◌⊎◌, ℕ, true, false, cond, List, [], ◌∷◌, ◌++◌, Option, Some, None, refl, sym, ap, subst, inl, inr, append_assoc, append-nil}
use Rattle.std.specs.List.{concat}
use Rattle.bm_journal.specs.declared.ids.Domain.{Domain}
use Rattle.bm_journal.specs.declared.ids.Domain.TheVariants.{Plain, Tracing}
use Rattle.bm_journal.specs.declared.units.Units.TheVariants.{Whole}
use Rattle.bm_journal.specs.declared.entry.Entry.{Entry}
use Rattle.bm_journal.specs.declared.entry.Entry.TheVariants as entry
use Rattle.bm_journal.specs.declared.total.Total.TheVariants as total
use Rattle.bm_journal.specs.Totals.{counts_of, share_of}
use Rattle.bm_grace.specs.Known.{Known, side}
use Rattle.bm_lang.specs.declared.scenario.Parts.{Parts}
use Rattle.bm_law.specs.Alone.{AllAt, at_level}
use Rattle.bm_law.specs.Lists.{Log}
use Rattle.bm_law.specs.Spans.{own_entries}
use Rattle.bm_law.specs.State.{seven_lists}
use Rattle.bm_law.specs.SweepPhrases.{MayBegin, MayFinish, PollPhrase, SweepPhrase}
use Rattle.bm_law.proofs.Alone.{at-own}
use Rattle.bm_cache.specs.Steps.{steps_in}
use Rattle.bm_law.specs.Begun.{begun_by}
use Rattle.bm_law.specs.Inboxes.{Inboxes, on_inbox}
use Rattle.bm_law_order.specs.Calls.{lock_after, lock_over}
use Rattle.bm_law_work.specs.Parts.{Then}
use Rattle.bm_law_work.proofs.Each.{AllOf, PartOf, of-append, part-nothing, part-say, part-then}
use Rattle.bm_due.specs.Due.{due_handler}
use Rattle.bm_due.specs.Plan.{Plan, due_of}
use Rattle.bm_due.specs.Standing.{Stays, Steps, kind_of, step_or_not}
use Rattle.bm_law_scenario.specs.Closing.{EndsOne, EndsPeriods, SweepOf, SweepWhere, in_progress}
use Rattle.bm_law_scenario.specs.Handlers.{HandlersDone}
use Rattle.bm_law_scenario.proofs.GoneBack.{done-grow}
use Rattle.bm_plan.specs.Position.{Position, StandsAt, level_in}
use Rattle.bm_plan.proofs.Positions.{asks-none, stays-here, steps-here}
use Rattle.bm_law_logs.specs.SweepsTold.{SweepsTold}
use Rattle.bm_exec_levels.specs.Growing.{IsInner, no-back}
use Rattle.bm_closing.specs.EndsBegun.{EndsBegun}

-- ---- behind its begin

-- it is of ordinary code, which has ended: it neither begins a handler nor ends one, begins and ends no section, frees nothing with delay
-- and sends nothing
abbrev pub IsLate : Entry → Type 0
IsLate (entry.Handler name) = ⊥
IsLate entry.Ended = ⊥
IsLate (entry.Given u life) = ⊥
IsLate (entry.GivenAfter u life stamp seen) = ⊥
IsLate (entry.Delay u home) = ⊥
IsLate (entry.Send c to us) = ⊥
IsLate (entry.Get u life place value) = ⊥
IsLate (entry.Xchg name put was by) = ⊥
IsLate (entry.Lock name) = ⊥
IsLate (entry.Unlock name) = ⊥
IsLate (entry.PushFront name u life pos) = ⊥
IsLate (entry.PushBack name u life pos) = ⊥
IsLate (entry.Add name u life pos) = ⊥
IsLate (entry.PushFrontAlready name u life owner pos) = ⊥
IsLate (entry.PushBackAlready name u life owner pos) = ⊥
IsLate (entry.AddAlready name u life owner pos) = ⊥
IsLate (entry.PopFront name item pos) = ⊥
IsLate (entry.PopBack name item pos) = ⊥
IsLate (entry.First name item pos) = ⊥
IsLate (entry.Remove name u life pos) = ⊥
IsLate e = IsInner e

finish-late : (d : Domain) (own : List Entry) → MayFinish d own → AllOf IsLate own
finish-late d own (inl e) = subst (AllOf IsLate) (sym e) tt
finish-late d own (inr x) = subst (AllOf IsLate) (sym x.1) (subst (λ (e : Entry). AllOf IsLate (e ∷ [])) (sym x.2.2) (tt, tt))

begin-late : (d : Domain) (own : List Entry) → MayBegin d own → AllOf IsLate own
begin-late d own (inl e) = subst (AllOf IsLate) (sym e) tt
begin-late d own (inr x) = subst (AllOf IsLate) (sym x.2) (tt, finish-late d x.1 x.3)

poll-late : (c : ℕ) (own : List Entry) → PollPhrase c Tracing own → AllOf IsLate own
poll-late c own p = subst (AllOf IsLate) (sym p.own_is) (of-append IsLate p.ended (p.begun ++ entry.Pass c Tracing p.seen ∷ []) (finish-late Tracing p.ended p.may_finish) (of-append IsLate p.begun (entry.Pass c Tracing p.seen ∷ []) (begin-late Tracing p.begun p.may_begin) (tt, tt)))

sweep-late : (c : ℕ) (own : List Entry) → SweepPhrase c own → AllOf IsLate own
sweep-late c own p = subst (AllOf IsLate) (sym p.own_is) (tt, (tt, of-append IsLate p.poll (entry.Return c (Whole p.returned) ∷ []) (poll-late c p.poll p.polls) (tt, tt)))

pub ends-late : (d : Domain) (begun : Option ℕ) → PartOf IsLate 0 (EndsOne d begun)
ends-late d None = part-nothing IsLate 0
ends-late d (Some n) = part-say IsLate 0 _ (λ own h. subst (AllOf IsLate) (sym h.3) (tt, tt))

where-late : (c : ℕ) (us : List ℕ) → PartOf IsLate 0 (SweepWhere c us)
where-late c [] = part-nothing IsLate 0
where-late c (u ∷ us) = part-say IsLate 0 (SweepOf c (u ∷ us)) (λ own h. sweep-late c own h.phrase)

pub sweeps-late : (cs : List ℕ) (boxes : Inboxes) → PartOf IsLate 0 (SweepsTold cs boxes)
sweeps-late [] boxes s part h = part-nothing IsLate 0 s part h
sweeps-late (c ∷ cs) boxes s part h = part-then IsLate 0 (SweepWhere c (seven_lists (s.rows c) ++ concat (boxes c))) (SweepsTold cs (on_inbox c (λ parcels. []) boxes)) (where-late c (seven_lists (s.rows c) ++ concat (boxes c))) (sweeps-late cs (on_inbox c (λ parcels. []) boxes)) s part h.1

-- ---- no lock is taken or given back then

late-unlocked : (e : Entry) → IsLate e → (held : Option (List ℕ)) → lock_after held e ≡ held
late-unlocked (entry.Lock name) h held = absurd h
late-unlocked (entry.Unlock name) h held = absurd h
late-unlocked _ h held = refl

all-late-unlocked : (es : List Entry) → AllOf IsLate es → (held : Option (List ℕ)) → lock_over held (at_level 0 es) ≡ held
all-late-unlocked [] h held = refl
all-late-unlocked (e ∷ es) h held = ap (λ k. lock_over k (at_level 0 es)) (late-unlocked e h.0 held) ∙ all-late-unlocked es h.1 held

pub late-log-unlocked : (log : Log) → AllAt 0 log → AllOf IsLate (own_entries 0 log) → (held : Option (List ℕ)) → lock_over held log ≡ held
late-log-unlocked log at late held = ap (lock_over held) (at-own 0 log at) ∙ all-late-unlocked (own_entries 0 log) late held

-- ---- how the log goes on then

-- The log of processor p stands at this position, and each handler that has gone back left its phrase there.
pub record LawfulSoFar (p : ℕ) (x : Position) (s : Parts) (log : Log) : Type 0 where
  pub stands : StandsAt x log
  pub done : HandlersDone s p log

late-inner : (e : Entry) → IsLate e → IsInner e
late-inner (entry.Handler name) h = absurd h
late-inner entry.Ended h = absurd h
late-inner (entry.Given u life) h = absurd h
late-inner (entry.GivenAfter u life stamp seen) h = absurd h
late-inner (entry.Delay u home) h = absurd h
late-inner (entry.Send c to us) h = absurd h
late-inner (entry.Get u life place value) h = absurd h
late-inner (entry.Xchg name put was by) h = absurd h
late-inner (entry.Lock name) h = absurd h
late-inner (entry.Unlock name) h = absurd h
late-inner (entry.PushFront name u life pos) h = absurd h
late-inner (entry.PushBack name u life pos) h = absurd h
late-inner (entry.Add name u life pos) h = absurd h
late-inner (entry.PushFrontAlready name u life owner pos) h = absurd h
late-inner (entry.PushBackAlready name u life owner pos) h = absurd h
late-inner (entry.AddAlready name u life owner pos) h = absurd h
late-inner (entry.PopFront name item pos) h = absurd h
late-inner (entry.PopBack name item pos) h = absurd h
late-inner (entry.First name item pos) h = absurd h
late-inner (entry.Remove name u life pos) h = absurd h
late-inner e h = h

by-count : (n : ℕ) → (step_or_not n ≡ Steps) ⊎ (step_or_not n ≡ Stays)
by-count n = elim (n == 0) as (λ b. (cond b Stays Steps ≡ Steps) ⊎ (cond b Stays Steps ≡ Stays)) [
  | true ↦ inr refl
  | false ↦ inl refl
]

late-kind : (e : Entry) → IsLate e → (kind_of e ≡ Steps) ⊎ (kind_of e ≡ Stays)
late-kind (entry.Handler name) h = absurd h
late-kind (entry.Back name) h = absurd h
late-kind entry.Ended h = absurd h
late-kind e h = by-count (share_of total.Steps (counts_of e))

-- no handler is due once the processor has ended
late-due : (n l : ℕ) (plan : Plan) → plan.ended ≡ true → due_of n l plan ≡ None
late-due n l plan e = ap (λ b. due_handler b n l plan.left) e

late-stands : (x : Position) (log : Log) (e : Entry) → x.running ≡ [] → x.plan.ended ≡ true → IsLate e → StandsAt x log → StandsAt x (log ++ (0, e) ∷ [])
late-stands x log e none ended late h =
    let level : level_in x.running ≡ 0 = ap level_in none in
    let F : ℕ → Type 0 = λ l. StandsAt x (log ++ (l, e) ∷ []) in
    subst F level (elim (late-kind e late) [
      | inl k ↦ steps-here x log e k (asks-none x log (record { standing = h.standing; reaches = h.reaches }) (late-due (steps_in log + 1) (level_in x.running) x.plan ended))
      | inr k ↦ stays-here x log e k h
    ])

late-one : (p : ℕ) (x : Position) (s : Parts) (log : Log) (e : Entry) → x.running ≡ [] → x.plan.ended ≡ true → IsLate e → LawfulSoFar p x s log → LawfulSoFar p x s (log ++ (0, e) ∷ [])
late-one p x s log e none ended late h =
    let inner : IsInner e = late-inner e late in
    record {
      stands = late-stands x log e none ended late h.stands;
      done = done-grow s p log 0 e (no-back e inner) h.done;
    }

late-all : (p : ℕ) (x : Position) (s : Parts) (log : Log) (es : List Entry) → x.running ≡ [] → x.plan.ended ≡ true → AllOf IsLate es → LawfulSoFar p x s log → LawfulSoFar p x s (log ++ at_level 0 es)
late-all p x s log [] none ended late h = subst (LawfulSoFar p x s) (sym (append-nil log)) h
late-all p x s log (e ∷ es) none ended late h = subst (LawfulSoFar p x s) (append_assoc log ((0, e) ∷ []) (at_level 0 es)) (late-all p x s (log ++ (0, e) ∷ []) es none ended late.1 (late-one p x s log e none ended late.0 h))

-- entries of ordinary code that has ended
pub late-goes-on : (p : ℕ) (x : Position) (s : Parts) (log more : Log) → x.running ≡ [] → x.plan.ended ≡ true → AllAt 0 more → AllOf IsLate (own_entries 0 more) → LawfulSoFar p x s log → LawfulSoFar p x s (log ++ more)
late-goes-on p x s log more none ended at late h = subst (λ z. LawfulSoFar p x s (log ++ z)) (sym (at-own 0 more at)) (late-all p x s log (own_entries 0 more) none ended late h)

-- ---- what is said of the inboxes gives the closing

-- ---- the periods that end

pub ends-are : (known : Known) (front : Log) → ((d : Domain) → begun_by (side d known).number ≡ in_progress d None front) → EndsBegun known ≡ EndsPeriods front
ends-are known front e = ends-by (e Plain) (e Tracing)
  where
    ends-by : {a b c d : Option ℕ} → a ≡ b → c ≡ d → Then (EndsOne Plain a) (EndsOne Tracing c) ≡ Then (EndsOne Plain b) (EndsOne Tracing d)
    ends-by {a} {b} {c} {d} p q = rw (p, q) refl
