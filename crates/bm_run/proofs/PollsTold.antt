-- The polls of a log that is tied since a time have rested, and its periods were begun for a batch that waited.
use Rattle.std.specs.Prelude.{◌≢◌, ◌⊎◌, ◌≤◌, ◌+◌, ◌%◌, eqb, length}
use Rattle.bm_world.specs.ToldLiving.{knows_living}
use Rattle.std.proofs.Common.{◌≡◌, ℕ, zero, suc, Bool, true, false, List, [], ◌∷◌, ◌++◌, Option, None, Some, refl, sym, ◌∙◌, ap, subst, append-nil, append_assoc, arith, inl, inr, eq-eqb}
use Rattle.std.proofs.lemmas.List.{append_cancel_left}
use Rattle.std.proofs.lemmas.Bool.Decides.{eqb_tells}
use Rattle.bm_journal.specs.declared.ids.Domain.{Domain}
use Rattle.bm_journal.specs.declared.ids.Domain.TheVariants.{Plain, Tracing}
use Rattle.bm_journal.specs.declared.period.Period.{Period}
use Rattle.bm_journal.specs.declared.entry.Entry.{Entry}
use Rattle.bm_journal.specs.declared.entry.Entry.TheVariants as entry
use Rattle.bm_law.specs.Lists.{Log, after, stamp_of}
use Rattle.bm_law.specs.Spans.{AllFrom}
use Rattle.bm_law.specs.State.{State, opening}
use Rattle.bm_page.specs.declared.units.Seal.{Seal}
use Rattle.bm_graph.specs.Entries.{call_entry}
use Rattle.bm_journal.specs.declared.past.PastCall.{PastCall}
use Rattle.bm_journal.specs.declared.past.PastCall.TheVariants as past
use Rattle.bm_law_order.specs.Act.{Act}
use Rattle.bm_law_order.specs.Act as act
use Rattle.bm_law_order.specs.Acts.{ActsFit, LooksAt, act_after, acts_over}
use Rattle.bm_law_order.specs.ByDomain.{of}
use Rattle.bm_law_order.specs.Chunk.{Chunk, acts_of, entries_of}
use Rattle.bm_law_order.specs.Chunk as chunk
use Rattle.bm_law_order.specs.Looks.{Passes}
use Rattle.bm_law_order.specs.Numbers.{Numbers, begun, ended, next, numbers_after}
use Rattle.bm_law_order.specs.Orders.{AllFit, AllShared, Leads, Order, by, over, part_of, shared_over}
use Rattle.bm_law_order.specs.Polls.{AtSome, HasPolled, HasRested, IsPolled, PollFits, Polling, no_polls, polling_after}
use Rattle.bm_law_order.specs.Quiet.{is_quiet}
use Rattle.bm_law_order.specs.Shared.{Fits, Shared, found, fresh, shared_after}
use Rattle.bm_law_order.specs.Story.{AllJudged, Steady, Story, at_level, deeds, lines, lines_of, plainly}
use Rattle.bm_law_order.specs.Tie.{Tied, whatever}
use Rattle.bm_law_order.proofs.ActsJoin.{acts-append, acts-later}
use Rattle.bm_law_order.proofs.Along.{by-append, fit-append, fit-front, fit-rest, leads-join, over-append}
use Rattle.bm_law_order.proofs.Ties.{tie-judged}
use Rattle.bm_grace.specs.Answers.{ArePassed}
use Rattle.bm_grace.specs.Known.{side}
use Rattle.bm_work.specs.Rested.{Fails, IsIdle}
use Rattle.bm_world.specs.LivingState.{LivingState, known_living}
use Rattle.bm_world.specs.Told.{IsSideOf}
use Rattle.bm_world.specs.ToldLiving.{LivingDoes, living-join, living-same, told_living}
use Rattle.bm_exec_levels.specs.AtPolls.{Idle, Idles, IsDue, WaitsIn, WasIdle, home, polled, tied-bare, waits-whole}
use Rattle.bm_exec_levels.specs.AtPolls as idle
use Rattle.bm_run.proofs.AddedParts.{lists-step, order-apart, part-added}
use Rattle.bm_run.proofs.Laid.{added-lines, tied-led-since}
use Rattle.bm_run.proofs.StampsBound.{order-bound}

-- ---- words that pass

passes-are : (xs ys : List ℕ) → Passes xs ys → ArePassed (length ys) xs ys
passes-are [] [] h i lt = absurd (omega (arith, lt))
passes-are [] (y ∷ ys) h i lt = absurd h
passes-are (x ∷ xs) [] h i lt = absurd h
passes-are (x ∷ xs) (y ∷ ys) h zero lt = h.0
passes-are (x ∷ xs) (y ∷ ys) h (suc i) lt = passes-are xs ys h.1 i (omega (arith, lt))

-- ---- what a side knows of a domain, and what is told of it

side-first : (p : ℕ) (d : Domain) (w : LivingState) → w.side.grace.processor ≡ p → (of d (told_living w).numbers).driver ≡ Some p → (side d (known_living w)).first ≡ (of d (told_living w).looks).first
side-first p Plain w q e = rw (q, e) (rw (eq-eqb p p refl) refl)
side-first p Tracing w q e = rw (q, e) (rw (eq-eqb p p refl) refl)

side-number : (p : ℕ) (d : Domain) (w : LivingState) → w.side.grace.processor ≡ p → (of d (told_living w).numbers).driver ≡ Some p → (side d (known_living w)).number ≡ (of d (told_living w).numbers).number
side-number p Plain w q e = rw (q, e) (rw (eq-eqb p p refl) refl)
side-number p Tracing w q e = rw (q, e) (rw (eq-eqb p p refl) refl)

-- looks are no matter for a poll that has rested
rested-plainly : (p : ℕ) (d : Domain) (x : ℕ) (s : Shared) → HasRested p d x s → HasRested p d x (plainly s)
rested-plainly p Plain x s h = record { waits = h.waits; idle = h.idle }
rested-plainly p Tracing x s h = record { waits = h.waits; idle = h.idle }

-- a look in vain
look-rested : (p : ℕ) (d : Domain) (x : ℕ) (ws : List ℕ) (s : Shared) (w : LivingState) → IsSideOf p w.side → LooksAt p d ws s → act_after p (act.Looks d ws) s ≡ told_living w → Fails (side d (known_living w)).first ws → HasRested p d x (told_living w)
look-rested p d x ws s w o f e fails =
    let numbers : s.numbers ≡ (told_living w).numbers = ap (λ (z : Shared). z.numbers) e in
    let driver : (of d (told_living w).numbers).driver ≡ Some p = ap (λ (z : Numbers). (of d z).driver) (sym numbers) ∙ f.driver in
    let words : ws ≡ found (told_living w) d = f.words_are ∙ ap (λ (z : Shared). found z d) e in
    let first = side-first p d w o.grace_is driver in
    record {
      waits = λ k h. fails (subst (λ z. ArePassed (length ws) z ws) (sym first) (passes-are (of d (told_living w).looks).first ws (subst (Passes (of d (told_living w).looks).first) (sym words) h)));
      idle = λ k. absurd (k driver);
    }

-- no period is in progress here, and the number is odd or has reached the stamp
read-rested : (p : ℕ) (d : Domain) (x n : ℕ) (s : Shared) (w : LivingState) → IsSideOf p w.side → n ≡ (of d s.numbers).number → s ≡ told_living w → IsIdle x n → (side d (known_living w)).number ≡ 0 → ((of d (told_living w).numbers).driver ≢ None → (of d (told_living w).numbers).number % 2 ≡ 1) → HasRested p d x (told_living w)
read-rested p d x n s w o f e i z odd =
    let number : n ≡ (of d (told_living w).numbers).number = f ∙ ap (λ (k : Shared). (of d k.numbers).number) e in
    let even : (m : ℕ) → m ≡ 0 → m % 2 ≡ 1 → ⊥ = λ m a b. omega (arith, a, b) in
    record {
      waits = λ k h. even (of d (told_living w).numbers).number (sym (side-number p d w o.grace_is k) ∙ z) (odd (λ q. absurd (let r = sym k ∙ q in cc)));
      idle = λ k. subst (λ m. (m % 2 ≡ 1) ⊎ (x ≤ m)) number i;
    }

-- a period that began and ended
whole-numbers : (p l n : ℕ) (d : Domain) (q : Period) (numbers : Numbers) → q.domain ≡ d → of d (numbers_after p l (entry.Finish q) (numbers_after p l (entry.Begin d n) numbers)) ≡ ended (begun p (of d numbers))
whole-numbers p l n d q numbers e = go q.domain d e
  where
    go : (k j : Domain) → k ≡ j → of j (numbers_after p l (entry.Finish (record q { domain = k })) (numbers_after p l (entry.Begin j n) numbers)) ≡ ended (begun p (of j numbers))
    go Plain Plain e = refl
    go Tracing Tracing e = refl
    go Plain Tracing e = absurd (cc)
    go Tracing Plain e = absurd (cc)

whole-rested : (n pages p l : ℕ) (d : Domain) (x m i : ℕ) (q : Period) (o : Order) → q.domain ≡ d → WaitsIn p i d x (part_of p o) → AllShared (o ++ by p ((l, entry.Begin d m) ∷ (l, entry.Finish q) ∷ [])) (fresh n pages) →
    HasRested p d x (shared_over (o ++ by p ((l, entry.Begin d m) ∷ (l, entry.Finish q) ∷ [])) (fresh n pages))
whole-rested n pages p l d x m i q o e a f =
    let es : Order = by p ((l, entry.Begin d m) ∷ (l, entry.Finish q) ∷ []) in
    let start = fresh n pages in
    let there = shared_over o start in
    let bound = order-bound n pages p o (fit-front shared_after Fits o es start f) in
    let begins = (fit-rest shared_after Fits o es start f).0.numbers in
    let numbers : of d (shared_over (o ++ es) start).numbers ≡ ended (begun p (of d there.numbers)) = ap (λ (s : Shared). of d s.numbers) (over-append shared_after Fits o es start) ∙ whole-numbers p l m d q there.numbers e in
    let most : x ≤ next (of d there.numbers).number = bound.stamps d i x a in
    let reached : (k : ℕ) → k % 2 ≡ 0 → x ≤ next k → x ≤ k + 1 + 1 = λ k b h. omega (arith, b, h) in
    record {
      waits = λ k h. absurd (let z = sym (ap (λ c. c.driver) numbers) ∙ k in cc);
      idle = λ k. rw numbers (inr (reached (of d there.numbers).number begins.even most));
    }

-- ---- along an order

abbrev polls_over : Order → Polling → Polling
polls_over o m = over polling_after o m

shared-along : (o : Order) (m : Polling) → (polls_over o m).shared ≡ shared_over o m.shared
shared-along [] m = refl
shared-along (e ∷ o) m = shared-along o (polling_after e.processor e.level e.entry m)

lists-along : (q : ℕ) (o : Order) (m : Polling) → (polls_over o m).lists q ≡ after (m.lists q) (part_of q o)
lists-along q [] m = refl
lists-along q (e ∷ o) m = lists-along q o (polling_after e.processor e.level e.entry m) ∙ lists-step q e o m.lists

-- what is shared now is the last place of each processor
abbrev IsLast : ℕ → Polling → Type 0
IsLast q m = (before : List Shared) × (m.places q ≡ m.shared ∷ before)

last-along : (q : ℕ) (o : Order) (m : Polling) → IsLast q m → IsLast q (polls_over o m)
last-along q [] m h = h
last-along q (e ∷ o) m h = last-along q o (polling_after e.processor e.level e.entry m) (_, refl)

-- entries of higher levels leave the places
above-zero : (l : ℕ) → 1 ≤ l → eqb l 0 ≡ false
above-zero l h = elim (eqb_tells l 0) [
  | inl y ↦ absurd (let z = y.1 in omega (arith, z, h))
  | inr y ↦ y.0
]

places-stay : (p : ℕ) (P : Shared → Type 0) (log : Log) (m : Polling) → AllFrom 1 log → AtSome P (m.places p) → AtSome P ((polls_over (by p log) m).places p)
places-stay p P [] m f h = h
places-stay p P (e ∷ log) m f h = places-stay p P log (polling_after p e.0 e.1 m) f.1 (rw (eq-eqb p p refl, above-zero e.0 f.0) (inr h))

from-one : (l : ℕ) (log : Log) → AllFrom (l + 1) log → AllFrom 1 log
from-one l [] f = tt
from-one l (e ∷ log) f = ((let z = f.0 in omega (arith, z)), from-one l log f.1)

quiet-fits : (p l : ℕ) (e : Entry) (m : Polling) → is_quiet e ≡ true → PollFits p l e m
quiet-fits p l (entry.Begin d n) m q = absurd (cc)
quiet-fits p l (entry.Pass c d n) m q = absurd (cc)
quiet-fits p l _ m q = tt

abbrev FitsAt : ℕ → Log → Polling → Type 0
FitsAt p log m = AllFit polling_after PollFits (by p log) m

called-fits : (p l : ℕ) (graph : List ℕ) (position : ℕ) (owner : List ℕ) (call : PastCall) (m : Polling) → FitsAt p ((l, call_entry graph position owner call) ∷ []) m
called-fits p l graph position owner (past.PushFront id) m = (tt, tt)
called-fits p l graph position owner _ m = (tt, tt)

made-fits : (p l u life type : ℕ) (values : List ℕ) (seal : Option Seal) (m : Polling) → FitsAt p (at_level l (entries_of (chunk.Making u life type values seal))) m
made-fits p l u life type values None m = (tt, tt)
made-fits p l u life type values (Some x) m = (tt, tt)

-- ---- a log of a processor, behind an order that leads to what the world told when it was tied

module _ (n pages p : ℕ) (o : Order) (since : Log) (start : LivingState) (leads : Leads o (fresh n pages) (plainly (told_living start))) (steady : Steady (told_living start)) (own : IsSideOf p start.side) (part : part_of p o ≡ since) where
  -- what the last acts found, and what they left
  record Lasts (done : List Act) (w : LivingState) : Type 0 where
    from : Shared
    fit : ActsFit p done from
    now_is : acts_over p done from ≡ told_living w
    stays : IsSideOf p w.side

  lasts : (l : ℕ) (done : List Act) (es : List Entry) (log : Log) (w : LivingState) → Tied whatever LivingDoes since start l done es log w → Lasts done w
  lasts l done es log w t =
      let first = told_living start in
      let did = t.done_is.did p own in
      record {
        from = acts_over p (deeds t.story) first;
        fit = acts-later p (deeds t.story) done first did.leads.fit;
        now_is = sym (acts-append p (deeds t.story) done first) ∙ did.leads.now_is;
        stays = did.stays;
      }

  part-so : (added : Log) → part_of p (o ++ by p added) ≡ since ++ added
  part-so added = part-added p o added ∙ ap (λ (z : Log). z ++ added) part

  -- a poll has rested where its log is that one
  record RestsAt (d : Domain) (x : ℕ) (log : Log) : Type 0 where
    added : Log
    log_is : log ≡ since ++ added
    rested : HasRested p d x (shared_over (o ++ by p added) (fresh n pages))

  -- all that was tied since, one after the other
  record LedTo (log : Log) (w : LivingState) : Type 0 where
    added : Log
    log_is : log ≡ since ++ added
    led : Leads (o ++ by p added) (fresh n pages) (plainly (told_living w))

  led-chunk : (l : ℕ) (c : Chunk) (log : Log) (w : LivingState) → Tied whatever LivingDoes since start l (acts_of c) (entries_of c) log w → LedTo log w
  led-chunk l c log w t =
      let closed = tie-judged whatever (λ k z y q. tt) LivingDoes living-same living-join since start l (acts_of c) (entries_of c) log w c refl refl (λ b q. tt) t in
      let r = tied-led-since whatever p l since log start w own steady closed in
      record { added = r.added; log_is = r.log_is; led = leads-join o (by p r.added) (fresh n pages) (plainly (told_living start)) (plainly (told_living w)) leads r.leads }

  told-rested : (l : ℕ) (d : Domain) (x : ℕ) (c : Chunk) (log : Log) (w : LivingState) → Tied whatever LivingDoes since start l (acts_of c) (entries_of c) log w →
      ((to : Order) → AllShared to (fresh n pages) → (told_living w).numbers ≡ (shared_over to (fresh n pages)).numbers → HasRested p d x (told_living w)) → RestsAt d x log
  told-rested l d x c log w t h =
      let r = led-chunk l c log w t in
      record {
        added = r.added;
        log_is = r.log_is;
        rested = subst (HasRested p d x) (sym r.led.now_is) (rested-plainly p d x (told_living w) (h (o ++ by p r.added) r.led.fit (ap (λ (s : Shared). s.numbers) (sym r.led.now_is))));
      }

  -- a period that began and ended at once
  ended-rested : (l : ℕ) (d : Domain) (x m i : ℕ) (ws : List ℕ) (q : Period) (log : Log) (w : LivingState) → q.domain ≡ d → WaitsIn p i d x log →
      Tied whatever LivingDoes since start l (act.Begins d m ∷ act.Looks d ws ∷ act.Finishes q ∷ []) (entry.Begin d m ∷ entry.Finish q ∷ []) log w → RestsAt d x log
  ended-rested l d x m i ws q log w e a t =
      let T : Domain → Type 0 = λ j. Tied whatever LivingDoes since start l (act.Begins j m ∷ act.Looks j ws ∷ act.Finishes q ∷ []) (entry.Begin j m ∷ entry.Finish q ∷ []) log w in
      let r = led-chunk l (chunk.WholePeriod m ws q) log w (subst T (sym e) t) in
      let es : Log = (l, entry.Begin d m) ∷ (l, entry.Finish q) ∷ [] in
      let mid = lines t.story in
      let added : r.added ≡ mid ++ es = append_cancel_left since r.added (mid ++ es) (sym r.log_is ∙ t.log_is) in
      let apart : o ++ by p (mid ++ es) ≡ (o ++ by p mid) ++ by p es = order-apart p o mid es in
      let all : AllShared ((o ++ by p mid) ++ by p es) (fresh n pages) = subst (λ z. AllShared z (fresh n pages)) apart (subst (λ z. AllShared (o ++ by p z) (fresh n pages)) added r.led.fit) in
      let before : log ≡ (since ++ mid) ++ es = t.log_is ∙ sym (append_assoc since mid es) in
      let waits : WaitsIn p i d x (part_of p (o ++ by p mid)) = subst (WaitsIn p i d x) (sym (part-so mid)) (waits-whole p l i d x m q (since ++ mid) (subst (WaitsIn p i d x) before a)) in
      record {
        added = mid ++ es;
        log_is = t.log_is;
        rested = subst (λ z. HasRested p d x (shared_over z (fresh n pages))) (sym apart) (whole-rested n pages p l d x m i q (o ++ by p mid) e waits all);
      }

  idle-rested : (l : ℕ) (d : Domain) (x : ℕ) (log : Log) (w : LivingState) → Idle knows_living since start l d x log w → RestsAt d x log
  idle-rested l d x log w i = go i.done i.es i.idle (tied-bare knows_living whatever since start l i.done i.es log w i.tied)
    where
      here : (known_living w).grace.processor ≡ p
      here = i.tied.done_is.1 ∙ own.grace_is

      go : (done : List Act) (es : List Entry) → Idles knows_living d x log w done es → Tied whatever LivingDoes since start l done es log w → RestsAt d x log
      go _ _ (idle.Looked fails) t =
          let ws = (side d (known_living w)).later in
          let k = lasts l (act.Looks d ws ∷ []) [] log w t in
          told-rested l d x (chunk.Looking d ws) log w t (λ to f e. look-rested p d x ws k.from w k.stays k.fit.0 k.now_is fails)
      go _ _ (idle.Begun m b a fails) t =
          let ws = (side d (known_living w)).later in
          let k = lasts l (act.Begins d m ∷ act.Looks d ws ∷ []) (entry.Begin d m ∷ []) log w t in
          told-rested l d x (chunk.Beginning d m ws) log w t (λ to f e. look-rested p d x ws (act_after p (act.Begins d m) k.from) w k.stays k.fit.1.0 k.now_is fails)
      go _ _ (idle.Read m i z) t =
          let k = lasts l (act.Reads d x m ∷ []) [] log w t in
          told-rested l d x (chunk.Asking d x m) log w t (λ to f e.
          let bound = order-bound n pages p to f in
          read-rested p d x m k.from w k.stays k.fit.0 k.now_is i z (subst (λ (c : Numbers). (of d c).driver ≢ None → (of d c).number % 2 ≡ 1) (sym e) (bound.odd d)))
      go _ _ (idle.Missed even m) t =
          let k = lasts l (act.Reads d x even ∷ act.Misses d even m ∷ []) [] log w t in
          absurd (k.fit.1.0.1 (k.fit.1.0.0 ∙ sym k.fit.0))
      go _ _ (idle.Ended m ws q e b a) t = ended-rested l d x m a.0 ws q log w e (subst (λ r. WaitsIn r a.0 d x log) here a.1) t

  -- what the order and the entries added so far leave
  abbrev polls_at : Log → Polling
  polls_at added = polls_over (o ++ by p added) (no_polls n pages)

  polls-apart : (one two : Log) → polls_at (one ++ two) ≡ polls_over (by p two) (polls_at one)
  polls-apart one two = ap (λ z. polls_over z (no_polls n pages)) (order-apart p o one two) ∙ over-append polling_after PollFits (o ++ by p one) (by p two) (no_polls n pages)

  waits-so : (i : ℕ) (d : Domain) (x : ℕ) (added : Log) → WaitsIn (home knows_living start) i d x (since ++ added) → stamp_of d (((polls_at added).lists p).rows i).deferred ≡ Some x
  waits-so i d x added w =
      ap (λ (s : State ℕ). stamp_of d (s.rows i).deferred) (lists-along p (o ++ by p added) (no_polls n pages) ∙ ap (after (opening p)) (part-so added))
      ∙ subst (λ q. WaitsIn q i d x (since ++ added)) own.grace_is w

  pass-fits : (l c : ℕ) (d : Domain) (x m : ℕ) (added : Log) → WasIdle knows_living since start l c d x (since ++ added) → PollFits p l (entry.Pass c d m) (polls_at added)
  pass-fits l c d x m added w =
      let P : Shared → Type 0 = HasRested p d x in
      let r = idle-rested l d x w.before w.at w.idle in
      let there = polls_at r.added in
      let last = last-along p (o ++ by p r.added) (no_polls n pages) ([], refl) in
      let rested : P there.shared = subst P (sym (shared-along (o ++ by p r.added) (no_polls n pages))) r.rested in
      let at : AtSome P (there.places p) = subst (AtSome P) (sym last.1) (inl rested) in
      let log_is : added ≡ r.added ++ w.added = append_cancel_left since added (r.added ++ w.added) (w.log_is ∙ (ap (λ (z : Log). z ++ w.added) r.log_is ∙ append_assoc since r.added w.added)) in
      let stays : AtSome P ((polls_at added).places p) = subst (λ z. AtSome P (z.places p)) (sym (ap polls_at log_is ∙ polls-apart r.added w.added)) (places-stay p P w.added there (from-one l w.added w.from) at) in
      subst (λ z. HasPolled p d z ((polls_at added).places p)) (sym (waits-so c d x added w.waits)) stays

  begin-fits : (l : ℕ) (d : Domain) (m : ℕ) (added : Log) → IsDue (home knows_living start) d m (since ++ added) → PollFits p l (entry.Begin d m) (polls_at added)
  begin-fits l d m added i = record {
    class = i.awaited.0;
    stamp = i.stamp;
    waits = waits-so i.awaited.0 d i.stamp added i.awaited.1;
    below = i.below;
  }

  chunk-fits : (closing : Bool) (l : ℕ) (added : Log) (c : Chunk) → polled knows_living closing since start l (since ++ added) c → FitsAt p (at_level l (entries_of c)) (polls_at added)
  chunk-fits closing l added (chunk.Quiet e q) h = (quiet-fits p l e (polls_at added) q, tt)
  chunk-fits closing l added (chunk.Looking d ws) h = tt
  chunk-fits closing l added (chunk.Asking d x m) h = tt
  chunk-fits closing l added (chunk.Missing d even m) h = tt
  chunk-fits closing l added (chunk.FindingNone c) h = tt
  chunk-fits closing l added (chunk.Passing c d x m) h = (pass-fits l c d x m added h, tt)
  chunk-fits closing l added (chunk.Beginning d m ws) h = (begin-fits l d m added h, tt)
  chunk-fits closing l added (chunk.WholePeriod m ws q) h = (begin-fits l q.domain m added h, (tt, tt))
  chunk-fits closing l added (chunk.Making u life type values seal) h = made-fits p l u life type values seal (polls_at added)
  chunk-fits closing l added (chunk.Acquiring u life seen) h = (tt, tt)
  chunk-fits closing l added (chunk.Finding u life place value) h = (tt, tt)
  chunk-fits closing l added (chunk.Exchanging name put was from tag) h = (tt, tt)
  chunk-fits closing l added (chunk.Locking graph) h = (tt, tt)
  chunk-fits closing l added (chunk.Unlocking graph) h = (tt, tt)
  chunk-fits closing l added (chunk.Calling graph position call owner tag) h = called-fits p l graph position owner call (polls_at added)
  chunk-fits closing l added (chunk.GivingUp u life seen) h = (tt, (tt, tt))
  chunk-fits closing l added (chunk.Ending u life home true) h = (tt, (tt, (tt, tt)))
  chunk-fits closing l added (chunk.Ending u life home false) h = (tt, (tt, (tt, tt)))
  chunk-fits closing l added (chunk.Entering d w) h = (tt, tt)
  chunk-fits closing l added (chunk.Leaving d w) h = (tt, tt)
  chunk-fits closing l added (chunk.Stamping c d x) h = (tt, tt)
  chunk-fits closing l added (chunk.Finishing ws q) h = (tt, tt)
  chunk-fits closing l added (chunk.Filling c us) h = (tt, tt)
  chunk-fits closing l added (chunk.Fetching c want us) h = (tt, tt)
  chunk-fits closing l added (chunk.Returning c us) h = (tt, tt)
  chunk-fits closing l added (chunk.Sending c to us) h = (tt, tt)
  chunk-fits closing l added (chunk.Draining c to us) h = (tt, tt)
  chunk-fits closing l added (chunk.Releasing c to us x m) h = (tt, tt)
  chunk-fits closing l added (chunk.GivingBack c us) h = (tt, tt)
  chunk-fits closing l added (chunk.Receiving c us) h = (tt, tt)
  chunk-fits closing l added (chunk.Sweeping c us parcels) h = (tt, tt)

  story-fits : (closing : Bool) (added : Log) (ts : Story) → AllJudged (polled knows_living closing since start) (since ++ added) ts → FitsAt p (lines ts) (polls_at added)
  story-fits closing added [] j = tt
  story-fits closing added (t ∷ ts) j =
      let first = lines_of t in
      let judged = subst (λ z. AllJudged (polled knows_living closing since start) z ts) (append_assoc since added first) j.1 in
      let rest = subst (FitsAt p (lines ts)) (polls-apart added first) (story-fits closing (added ++ first) ts judged) in
      subst (λ z. AllFit polling_after PollFits z (polls_at added)) (sym (by-append p first (lines ts)))
      (fit-append polling_after PollFits (by p first) (by p (lines ts)) (polls_at added) (chunk-fits closing t.level added t.chunk j.0) rest)

  -- where the order so far is polled, it is with the entries that were added
  pub tied-polled-since : (closing : Bool) (added log : Log) (now : LivingState) → log ≡ since ++ added → Tied (polled knows_living closing since start) LivingDoes since start 0 [] [] log now → IsPolled n pages o → IsPolled n pages (o ++ by p added)
  tied-polled-since closing added log now log_is t h =
      let said = added-lines (polled knows_living closing since start) since added log start now log_is t in
      let judged = subst (λ z. AllJudged (polled knows_living closing since start) z t.story) (sym (append-nil since)) t.judged in
      let here = subst (λ z. FitsAt p (lines t.story) (polls_over z (no_polls n pages))) (append-nil o) (story-fits closing [] t.story judged) in
      fit-append polling_after PollFits o (by p added) (no_polls n pages) h (subst (λ z. FitsAt p z (polls_over o (no_polls n pages))) (sym said) here)

-- ---- a log that is tied since the outset
