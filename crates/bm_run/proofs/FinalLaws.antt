-- The logs of a run and their whole order keep the laws of journals.
use Rattle.std.specs.Prelude.{None, Option, Some, get_or, length, map, nat_eq}
use Rattle.std.proofs.Common.{◌≡◌, ◌<◌, ◌+◌, ℕ, zero, suc, Bool, true, false, List, [], ◌∷◌, ◌++◌, arith, refl, sym, ◌∙◌, ap, subst, append_assoc, inl, inr}
use Rattle.std.proofs.lemmas.Bool.{cases_lt}
use Rattle.std.proofs.lemmas.Bool.Decides.{eqb_tells}
use Rattle.bm_journal.specs.declared.ids.Domain.{Domain}
use Rattle.bm_journal.specs.declared.ids.Domain.TheVariants.{Plain, Tracing}
use Rattle.bm_journal.specs.declared.entry.Entry.{Entry}
use Rattle.bm_journal.specs.declared.entry.Entry.TheVariants as entry
use Rattle.bm_journal.specs.declared.past.Past.{Past}
use Rattle.bm_lang.specs.declared.scenario.MapDeclaration.{MapDeclaration}
use Rattle.bm_lang.specs.declared.scenario.Parts.{Parts}
use Rattle.bm_law.specs.Alone.{AllAt}
use Rattle.bm_law.specs.Lists.{Log, after}
use Rattle.bm_law.specs.Spans.{own_entries}
use Rattle.bm_law.specs.State.{State, opening}
use Rattle.bm_law.proofs.Spans.{own-append}
use Rattle.bm_law_laid.specs.OrderOf.{AllBelow, IsOrderOf}
use Rattle.bm_law_lives.specs.Together.{EachLog, LogsFrom}
use Rattle.bm_law_order.specs.ByDomain.{of}
use Rattle.bm_law_order.specs.Orders.{AllFit, IsLaid, Order, by, over, shared_over}
use Rattle.bm_law_order.specs.Parcels.{BoxesFit, boxes_after}
use Rattle.bm_law_laid.proofs.Parts.{boxes-fit}
use Rattle.bm_law_logs.specs.LeavesParcels.{no_boxes}
use Rattle.bm_law_order.specs.Polls.{IsPolled}
use Rattle.bm_law_order.specs.Seals.{GivesNo, IsSealed, SealFits, Waiting, nobody_waits, waiting_after}
use Rattle.bm_law_order.specs.Shared.{Shared, fresh}
use Rattle.bm_law_order.specs.Whole.{whole}
use Rattle.bm_law_order.proofs.Along.{fit-append}
use Rattle.bm_law_work.proofs.Each.{AllOf, of-append, of-map, part-then}
use Rattle.bm_law_scenario.specs.CallEntries.{IsOfHandler}
use Rattle.bm_law_scenario.specs.Closing.{EndsOne, in_progress}
use Rattle.bm_law_scenario.specs.Opened.{opened_classes}
use Rattle.bm_law_scenario.specs.Parcels.{ParcelLaw, sends_alone}
use Rattle.bm_law_scenario.specs.Grammar.{lines_of, stock_for}
use Rattle.bm_law_scenario.proofs.EachLevel.{above-map, handlers-above}
use Rattle.bm_law_places.specs.Placed.{IsPlaced}
use Rattle.bm_law_places.specs.World.{AllFound, SweepsInbox, World, outset, world_after, world_over}
use Rattle.bm_law_places.proofs.Standing.{all-placed, shared-of}
use Rattle.bm_law_seals.specs.Answered.{AreAnswered, ArePut}
use Rattle.bm_law_seals.specs.Batches.{BatchFits, GivesNoMore, SweepsLast, WaitsInBatches}
use Rattle.bm_run.specs.Between.{AllClosed, GivesFirst, all_openings}
use Rattle.bm_run.specs.InTurns.{one_by_one}
use Rattle.bm_run.specs.Seated.{opening_lists, opening_log}
use Rattle.bm_law_graphs.specs.Shelves.{IsShelved, Shelves, nothing_shelved, shelved_after}
use Rattle.bm_law_objects.specs.Objects.{IsOwned}
use Rattle.bm_law_order.specs.Graphs.{Standing, history_in, standing_from}
use Rattle.bm_world.specs.LivingState.{living_of}
use Rattle.bm_world.specs.Slots.{object_at}
use Rattle.bm_world.specs.declared.slots.Object.{Object}
use Rattle.bm_world.specs.ToldLiving.{life_of}
use Rattle.bm_law_scenario.specs.Declared.{declared_in}
use Rattle.bm_run.proofs.GivenClosing.{AllGiven, given-all-batches, given-no-more}
use Rattle.bm_run.proofs.GivenLaws.{given-unsent}
use Rattle.bm_run.proofs.GivenLogs.{given-log-puts}
use Rattle.bm_run.proofs.BatchesTold.{all-answered, handler-sends, late-batches, late-none, no-more, no-more-append, sweeps-last}
use Rattle.bm_run.proofs.Closes.{IsLate, ends-late, sweeps-late}
use Rattle.bm_run.proofs.FinalLog.{final-front, opening-said}
use Rattle.bm_run.proofs.FinalOrder.{closing_order, final_order, whole-is}
use Rattle.bm_run.proofs.OwnParcels.{AllSendApart, IsUnsent, OrderUnsent, one-sends-apart, own-parcels, unsent-apart}
use Rattle.bm_run.proofs.PiecesKnown.{IsFill, opening-own}
use Rattle.bm_run.proofs.SealsTold.{LowSend}
use Rattle.bm_run.proofs.OrderEntries.{AllHave, OrderHas, have-all, no-log, order-has, part-any}
use Rattle.bm_run.proofs.Unsent.{scripts-unsent}

-- ---- orders

-- what stands behind an order and gives no unit
none-fits : (o : Order) (m : Waiting) → GivesNoMore o → AllFit waiting_after SealFits o m
none-fits [] m h = tt
none-fits (e ∷ o) m h = (one e.processor e.level e.entry m h.0, none-fits o (waiting_after e.processor e.level e.entry m) h.1)
  where
    one : (p l : ℕ) (e : Entry) (m : Waiting) → GivesNo e → SealFits p l e m
    one p l (entry.Given u life) m h = absurd h
    one p l (entry.GivenAfter u life stamp seen) m h = absurd h
    one p l _ m h = tt

found-inbox : (o : Order) (w : World) → AllFound o w → AllFit world_after SweepsInbox o w
found-inbox [] w h = tt
found-inbox (e ∷ o) w h = (h.0.inbox, found-inbox o (world_after e.processor e.level e.entry w) h.1)

-- ---- stretches one after the other

-- a log that is late: of ordinary code, which has ended
abbrev IsLateLog : Log → Type 0
IsLateLog log = AllAt 0 log × AllOf IsLate (own_entries 0 log)

each-no-more : (k : ℕ) (logs : List Log) → ((p : ℕ) → p < length logs → IsLateLog (get_or logs p [])) → GivesNoMore (one_by_one k logs)
each-no-more k [] h = tt
each-no-more k (log ∷ logs) h =
    no-more-append (by k log) (one_by_one (k + 1) logs) (no-more k log (late-none log (h 0 (omega arith)).0 (h 0 (omega arith)).1)) (each-no-more (k + 1) logs (λ p lt. h (suc p) (omega (arith, lt))))

each-batches : (k : ℕ) (logs : List Log) (m : Waiting) → ((p : ℕ) → p < length logs → IsLateLog (get_or logs p [])) → AllFit waiting_after BatchFits (one_by_one k logs) m
each-batches k [] m h = tt
each-batches k (log ∷ logs) m h =
    fit-append waiting_after BatchFits (by k log) (one_by_one (k + 1) logs) m (late-batches k log m (h 0 (omega arith)).0 (h 0 (omega arith)).1)
    (each-batches (k + 1) logs (over waiting_after (by k log) m) (λ p lt. h (suc p) (omega (arith, lt))))

-- ---- entries of the order

order-unsent : (o : Order) → OrderHas IsUnsent o → OrderUnsent o
order-unsent [] h = tt
order-unsent (e ∷ o) h = (h.0, order-unsent o h.1)

-- ---- a closed run

late-unsent : (e : Entry) → IsLate e → IsUnsent e
late-unsent (entry.Send c to us) h = absurd h
late-unsent _ h = tt

fill-unsent : (e : Entry) → IsFill e → IsUnsent e
fill-unsent (entry.Send c to us) h = absurd h
fill-unsent _ h = tt

low-unsent : (e : Entry) → LowSend e → IsUnsent e
low-unsent (entry.Send c to us) h = absurd h
low-unsent _ h = tt

-- where no object is known none is told
none-there : (object : Option Object) → living_of object ≡ None → life_of object ≡ None
none-there None e = refl
none-there (Some object) e = cc

module _ (s : Parts) (turns : List ℕ) (finals : List Log) (histories : List (List ℕ × List Past)) (h : AllClosed s turns finals histories) where
  abbrev n : ℕ
  n = s.processors

  abbrev o : Order
  o = final_order s turns finals histories h

  abbrev front : Order
  front = all_openings s ++ h.order

  -- the whole order of the logs
  in-whole : (P : Order → Type 0) → P o → P (whole turns finals)
  in-whole P x = subst P (sym (whole-is s turns finals histories h)) x

  pub order-is : IsOrderOf finals (whole turns finals)
  order-is = in-whole (IsOrderOf finals) h.so_far.order_of

  pub found-is : AllFound (whole turns finals) (outset n s.pages)
  found-is = in-whole (λ z. AllFound z (outset n s.pages)) h.so_far.found

  pub laid-is : IsLaid n s.pages (whole turns finals)
  laid-is = in-whole (IsLaid n s.pages) h.so_far.so_far.leads.fit

  pub placed-is : IsPlaced n s.pages (whole turns finals)
  placed-is = all-placed n s.pages (whole turns finals) found-is

  pub polled-is : IsPolled n s.pages (whole turns finals)
  polled-is = in-whole (IsPolled n s.pages) h.so_far.so_far.polled

  pub owned-is : IsOwned (whole turns finals)
  owned-is = in-whole IsOwned h.so_far.so_far.owned

  pub inbox-is : AllFit world_after SweepsInbox (whole turns finals) (outset n s.pages)
  inbox-is = found-inbox (whole turns finals) (outset n s.pages) found-is

  -- what stands behind the turns is late
  finish-late : (p : ℕ) → p < length h.finishes → IsLateLog (get_or h.finishes p [])
  finish-late p lt =
      let f = h.logs p (subst (λ k. p < k) h.finishes_many lt) in
      let plain = in_progress Plain None (opening_log s p ++ f.scripts) in
      let tracing = in_progress Tracing None (opening_log s p ++ f.scripts) in
      (f.closes.finishes_at, part-then IsLate 0 (EndsOne Plain plain) (EndsOne Tracing tracing) (ends-late Plain plain) (ends-late Tracing tracing) (after f.lists (get_or h.given p [])) (get_or h.finishes p []) f.closes.finishes_are)

  sweep-late : (p : ℕ) → p < length h.sweeps → IsLateLog (get_or h.sweeps p [])
  sweep-late p lt =
      let f = h.logs p (subst (λ k. p < k) h.sweeps_many lt) in
      (f.closes.sweeps_at, sweeps-late (opened_classes s.types) f.closes.boxes (after (after f.lists (get_or h.given p [])) (get_or h.finishes p [])) (get_or h.sweeps p []) f.closes.sweeps_are)

  -- what is given up before
  all-given : AllGiven (declared_in s) 0 h.given
  all-given i lt =
      let f = h.logs i (subst (λ k. i < k) h.given_many lt) in
      let same : i ≡ 0 + i = omega arith in
      (subst (λ k. (t : State ℕ) × GivesFirst (declared_in s) k t (get_or h.given i [])) same (f.lists, f.given_is), f.given_at)

  none-given : GivesNoMore (one_by_one 0 h.given ++ closing_order s turns finals histories h)
  none-given = no-more-append (one_by_one 0 h.given) (closing_order s turns finals histories h) (given-no-more (declared_in s) 0 h.given all-given) (no-more-append (one_by_one 0 h.finishes) (one_by_one 0 h.sweeps) (each-no-more 0 h.finishes finish-late) (each-no-more 0 h.sweeps sweep-late))

  apart : o ≡ front ++ (one_by_one 0 h.given ++ closing_order s turns finals histories h)
  apart = append_assoc front (one_by_one 0 h.given) (closing_order s turns finals histories h)

  pub sealed-is : IsSealed (whole turns finals)
  sealed-is = in-whole IsSealed (subst (λ (z : Order). IsSealed z) (sym apart) (fit-append waiting_after SealFits front (one_by_one 0 h.given ++ closing_order s turns finals histories h) nobody_waits h.waits.sealed.sealed (none-fits (one_by_one 0 h.given ++ closing_order s turns finals histories h) (over waiting_after front nobody_waits) none-given)))

  closing-batches : (m : Waiting) → AllFit waiting_after BatchFits (one_by_one 0 h.given ++ closing_order s turns finals histories h) m
  closing-batches m =
      let G = one_by_one 0 h.given in
      let P = one_by_one 0 h.finishes in
      let W = one_by_one 0 h.sweeps in
      let m1 = over waiting_after G m in
      fit-append waiting_after BatchFits G (P ++ W) m (given-all-batches (declared_in s) 0 h.given m all-given) (fit-append waiting_after BatchFits P W m1 (each-batches 0 h.finishes m1 finish-late) (each-batches 0 h.sweeps (over waiting_after P m1) sweep-late))

  -- the log of a processor, by its front, its end with what it gave up, and what is late
  abbrev ended_at_last : ℕ → Log
  ended_at_last p = (0, entry.Ended) ∷ get_or h.given p []

  abbrev late_of : ℕ → Log
  late_of p = get_or h.finishes p [] ++ get_or h.sweeps p []

  final-parts : (p : ℕ) (lt : p < n) → get_or finals p [] ≡ ((opening_log s p ++ (h.logs p lt).scripts) ++ ended_at_last p) ++ late_of p
  final-parts p lt = (h.logs p lt).final_is ∙ sym (append_assoc (opening_log s p ++ (h.logs p lt).scripts) (ended_at_last p) (late_of p))

  late-at : (p : ℕ) → p < n → AllAt 0 (late_of p)
  late-at p lt = at-both (get_or h.finishes p []) (get_or h.sweeps p []) (h.logs p lt).closes.finishes_at (h.logs p lt).closes.sweeps_at
    where
      at-both : (a b : Log) → AllAt 0 a → AllAt 0 b → AllAt 0 (a ++ b)
      at-both [] b x y = y
      at-both (e ∷ a) b x y = (x.0, at-both a b x.1 y)

  late-own : (p : ℕ) → p < n → AllOf IsLate (own_entries 0 (late_of p))
  late-own p lt =
      let f = (finish-late p (subst (λ k. p < k) (sym h.finishes_many) lt)).1 in
      let w = (sweep-late p (subst (λ k. p < k) (sym h.sweeps_many) lt)).1 in
      subst (AllOf IsLate) (sym (own-append 0 (get_or h.finishes p []) (get_or h.sweeps p []))) (of-append IsLate (own_entries 0 (get_or h.finishes p [])) (own_entries 0 (get_or h.sweeps p [])) f w)

  final-put : (p l : ℕ) → p < n → ArePut (own_entries l (get_or finals p []))
  final-put p l lt =
      let f = h.logs p lt in
      given-log-puts s p f.lists (get_or finals p []) (opening_log s p ++ f.scripts) (get_or h.given p []) (late_of p) (final-parts p lt) (final-front s p _ _ _ _ f) f.front_stands f.front_done f.given_is f.given_at (late-at p lt) (late-own p lt) l

  puts-any : (p l : ℕ) → ArePut (own_entries l (get_or finals p []))
  puts-any p l = elim (cases_lt p (length finals)) [
    | inl lt ↦ final-put p l (subst (λ k. p < k) h.so_far.many lt)
    | inr le ↦ subst (λ (z : Log). ArePut (own_entries l z)) (sym (no-log p finals le)) tt
  ]

  pub batched-is : WaitsInBatches (whole turns finals)
  batched-is = in-whole WaitsInBatches (record {
    answered = λ p. subst AreAnswered (sym (part-any finals o h.so_far.order_of p)) (all-answered (get_or finals p []) (h.so_far.answers p));
    put = λ p l. subst (λ (z : Log). ArePut (own_entries l z)) (sym (part-any finals o h.so_far.order_of p)) (puts-any p l);
    batches = subst (λ (z : Order). AllFit waiting_after BatchFits z nobody_waits) (sym apart) (fit-append waiting_after BatchFits front (one_by_one 0 h.given ++ closing_order s turns finals histories h) nobody_waits h.waits.batches (closing-batches (over waiting_after front nobody_waits)));
    swept = subst SweepsLast (sym apart) (sweeps-last front (one_by_one 0 h.given ++ closing_order s turns finals histories h) h.waits.unswept none-given);
  })

  -- ---- lists and trees

  abbrev names : List (List ℕ)
  names = map (λ (m : MapDeclaration). m.name) s.maps

  -- the histories and the places of objects that the order makes are those that the world tells
  abbrev shelves_by : List (List ℕ) → Shelves
  shelves_by ns = (over (shelved_after ns) o nothing_shelved).shelves

  pub shelved-is : IsShelved names (whole turns finals)
  shelved-is = in-whole (IsShelved names) (subst (λ ns. IsShelved ns o) h.names h.so_far.so_far.shelved)

  pub histories-are : (name : List ℕ) → (over (shelved_after names) (whole turns finals) nothing_shelved).shelves.histories name ≡ history_in h.world.graphs name
  histories-are name =
      let there : (shelves_by names).histories ≡ history_in h.world.graphs = subst (λ ns. (shelves_by ns).histories ≡ history_in h.world.graphs) h.names h.so_far.so_far.histories in
      in-whole (λ z. (over (shelved_after names) z nothing_shelved).shelves.histories name ≡ history_in h.world.graphs name) (ap (λ (f : List ℕ → List Past). f name) there)

  -- nothing is in any at last
  pub none-within : (u : ℕ) → (over (shelved_after names) (whole turns finals) nothing_shelved).shelves.within u ≡ None
  none-within u =
      let there : (shelves_by names).within ≡ standing_from 0 h.world.graphs = subst (λ ns. (shelves_by ns).within ≡ standing_from 0 h.world.graphs) h.names h.so_far.so_far.within in
      in-whole (λ z. (over (shelved_after names) z nothing_shelved).shelves.within u ≡ None) (ap (λ (f : ℕ → Option Standing). f u) there ∙ h.bare u)

  -- no unit is alive at last
  pub none-alive : (u : ℕ) → (shared_over (whole turns finals) (fresh n s.pages)).lives.holds u ≡ None
  none-alive u =
      let last = ap (λ (x : Shared). x.lives.holds u) h.so_far.so_far.leads.now_is ∙ none-there (object_at h.world.slots u) (h.lives u) in
      in-whole (λ z. (shared_over z (fresh n s.pages)).lives.holds u ≡ None) last

  -- .. and no drop is under way
  pub none-dropping : (p l : ℕ) → (shared_over (whole turns finals) (fresh n s.pages)).lives.dropping p l ≡ None
  none-dropping p l = in-whole (λ z. (shared_over z (fresh n s.pages)).lives.dropping p l ≡ None) (ap (λ (x : Shared). x.lives.dropping p l) h.so_far.so_far.leads.now_is)

  -- ---- parcels

  final-unsent : (p : ℕ) → p < n → s.deferred ≡ false → AllHave IsUnsent (get_or finals p [])
  final-unsent p lt off =
      let f = h.logs p lt in
      let op : Log = opening_log s p in
      let E : Log → List Entry = own_entries 0 in
      let opened = of-map IsFill IsUnsent fill-unsent (E op) (opening-own (opened_classes s.types) (stock_for s p) (opening p) op (opening-said s p (opening p))) in
      let ran : AllOf IsUnsent (E f.scripts) = scripts-unsent s off (lines_of p s.runs) (opening_lists s p) f.scripts f.are_scripts in
      let ended : AllOf IsUnsent (E (ended_at_last p)) = (tt, given-unsent (declared_in s) p f.lists (get_or h.given p []) f.given_is) in
      let late = of-map IsLate IsUnsent late-unsent (E (late_of p)) (late-own p lt) in
      let one : AllOf IsUnsent (E (op ++ f.scripts)) = subst (AllOf IsUnsent) (sym (own-append 0 op f.scripts)) (of-append IsUnsent (E op) (E f.scripts) opened ran) in
      let two : AllOf IsUnsent (E ((op ++ f.scripts) ++ ended_at_last p)) = subst (AllOf IsUnsent) (sym (own-append 0 (op ++ f.scripts) (ended_at_last p))) (of-append IsUnsent (E (op ++ f.scripts)) (E (ended_at_last p)) one ended) in
      let all : AllOf IsUnsent (E (get_or finals p [])) = subst (λ (z : Log). AllOf IsUnsent (E z)) (sym (final-parts p lt)) (subst (AllOf IsUnsent) (sym (own-append 0 ((op ++ f.scripts) ++ ended_at_last p) (late_of p))) (of-append IsUnsent (E ((op ++ f.scripts) ++ ended_at_last p)) (E (late_of p)) two late)) in
      let above = above-map LowSend IsUnsent low-unsent (get_or finals p []) (above-map IsOfHandler LowSend handler-sends (get_or finals p []) (handlers-above s p (get_or finals p []) f.stands f.done)) in
      have-all IsUnsent (get_or finals p []) all above

  unsent-any : (p : ℕ) → s.deferred ≡ false → AllHave IsUnsent (get_or finals p [])
  unsent-any p off = elim (cases_lt p (length finals)) [
    | inl lt ↦ final-unsent p (subst (λ k. p < k) h.so_far.many lt) off
    | inr le ↦ subst (AllHave IsUnsent) (sym (no-log p finals le)) tt
  ]

  sends-apart : (p : ℕ) → p < n → (b : Bool) → s.deferred ≡ b → sends_alone s ≡ true → AllSendApart p o
  sends-apart p lt false off alone = unsent-apart p o (order-unsent o (order-has IsUnsent o (λ q. subst (AllHave IsUnsent) (sym (part-any finals o h.so_far.order_of q)) (unsent-any q off))))
  sends-apart p lt true on alone =
      let one : n ≡ 1 = elim (eqb_tells n 1) [
        | inl y ↦ y.1
        | inr y ↦ absurd (let h : nat_eq n 1 ≡ true = rw on at alone in let k : nat_eq n 1 ≡ false = y.0 in different (sym h ∙ k))
      ] in
      let first : p ≡ 0 = omega (arith, lt, one) in
      let below = subst (λ k. AllBelow k o) (h.so_far.many ∙ one) h.so_far.order_of.below in
      let fit = subst (λ k. AllFit boxes_after (BoxesFit k) o no_boxes) one (boxes-fit o (fresh n s.pages) h.so_far.so_far.leads.fit) in
      subst (λ q. AllSendApart q o) (sym first) (one-sends-apart o no_boxes below fit)
    where
      different : true ≡ false → ⊥
      different e = cc

  none-left : (p c : ℕ) → (world_over o (outset n s.pages)).shared.boxes p c ≡ []
  none-left p c = ap (λ z. z.boxes p c) (shared-of o (outset n s.pages)) ∙ h.inboxes p c

  pub parcels-are : (p : ℕ) → p < n → sends_alone s ≡ true → ParcelLaw p (get_or finals p [])
  parcels-are p lt alone = subst (ParcelLaw p) (part-any finals o h.so_far.order_of p) (own-parcels n s.pages p o h.so_far.found (sends-apart p lt s.deferred refl alone) (none-left p))

-- ---- each log

from-each : (P : ℕ → Log → Type 0) (k : ℕ) (logs : List Log) → ((i : ℕ) → i < length logs → P (k + i) (get_or logs i [])) → LogsFrom k P logs
from-each P k [] h = tt
from-each P k (log ∷ logs) h =
    let first : k + 0 ≡ k = omega arith in
    (subst (λ q. P q log) first (h 0 (omega arith)), from-each P (k + 1) logs (λ i lt. subst (λ q. P q (get_or logs i [])) (later k i) (h (suc i) (omega (arith, lt)))))
  where
    later : (k i : ℕ) → k + suc i ≡ (k + 1) + i
    later k i = omega arith

pub each-log : (P : ℕ → Log → Type 0) (logs : List Log) → ((p : ℕ) → p < length logs → P p (get_or logs p [])) → EachLog P logs
each-log P logs h = from-each P 0 logs (λ i lt. (let same : i ≡ 0 + i = omega arith in subst (λ q. P q (get_or logs i [])) same (h i lt)))

at-each : (P : ℕ → Log → Type 0) (k : ℕ) (logs : List Log) → LogsFrom k P logs → (i : ℕ) → i < length logs → P (k + i) (get_or logs i [])
at-each P k [] h i lt = absurd (omega (arith, lt))
at-each P k (log ∷ logs) h zero lt = (let first : k ≡ k + 0 = omega arith in subst (λ q. P q log) first h.0)
at-each P k (log ∷ logs) h (suc i) lt = (let more : (k + 1) + i ≡ k + suc i = omega arith in subst (λ q. P q (get_or logs i [])) more (at-each P (k + 1) logs h.1 i (omega (arith, lt))))

pub log-of-each : (P : ℕ → Log → Type 0) (logs : List Log) → EachLog P logs → (p : ℕ) → p < length logs → P p (get_or logs p [])
log-of-each P logs h p lt = (let same : 0 + p ≡ p = omega arith in subst (λ q. P q (get_or logs p [])) same (at-each P 0 logs h p lt))

-- ---- what is left at the end

pub idle-is : (s : Parts) (turns : List ℕ) (finals : List Log) (histories : List (List ℕ × List Past)) (h : AllClosed s turns finals histories) (d : Domain) → (of d (shared_over (whole turns finals) (fresh s.processors s.pages)).numbers).driver ≡ None
idle-is s turns finals histories h d = subst (λ (o : Order). (of d (shared_over o (fresh s.processors s.pages)).numbers).driver ≡ None) (sym (whole-is s turns finals histories h)) (h.idle d)

pub inboxes-are : (s : Parts) (turns : List ℕ) (finals : List Log) (histories : List (List ℕ × List Past)) (h : AllClosed s turns finals histories) (p c : ℕ) → (shared_over (whole turns finals) (fresh s.processors s.pages)).boxes p c ≡ []
inboxes-are s turns finals histories h p c = subst (λ (o : Order). (shared_over o (fresh s.processors s.pages)).boxes p c ≡ []) (sym (whole-is s turns finals histories h)) (h.inboxes p c)
