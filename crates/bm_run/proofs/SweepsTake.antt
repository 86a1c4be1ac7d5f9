-- Along an order sweeps take what waits in their inboxes: where nothing is swept, and in the sweeps of a processor's closing.
use Rattle.std.specs.Prelude.{◌&&◌, eqb, if◌then◌else◌}
use Rattle.std.specs.List.{concat}
use Rattle.std.proofs.Common.{◌≡◌, ℕ, List, [], ◌∷◌, ◌++◌, length, drop, refl, sym, ◌∙◌, ap, subst, inl, inr, eq-eqb}
use Rattle.std.proofs.lemmas.Bool.Decides.{eqb_tells}
use Rattle.std.proofs.Math.Seq.{drop-append_seam}
use Rattle.bm_journal.specs.declared.ids.Domain.TheVariants.{Tracing}
use Rattle.bm_journal.specs.declared.units.Units.TheVariants.{Whole}
use Rattle.bm_journal.specs.declared.entry.Entry.{Entry}
use Rattle.bm_journal.specs.declared.entry.Entry.TheVariants as entry
use Rattle.bm_law.specs.Alone.{AllAt, at_level}
use Rattle.bm_law.specs.Inboxes.{Inboxes, on_inbox}
use Rattle.bm_law.specs.Lists.{Log, after, brought}
use Rattle.bm_law.specs.State.{State, seven_lists}
use Rattle.bm_law.proofs.Alone.{at-own}
use Rattle.bm_law_scenario.specs.Closing.{SweepOf, SweepWhere}
use Rattle.bm_law_order.specs.Orders.{AllFit, Order, by}
use Rattle.bm_law_order.specs.Parcels.{Boxes, boxes_after}
use Rattle.bm_law_order.proofs.Along.{by-append, fit-append}
use Rattle.bm_law_logs.specs.SweepsTold.{SweepsTold}
use Rattle.bm_law_logs.proofs.Quiet.{quiet-behind}
use Rattle.bm_law_logs.proofs.QuietEntries.{AllQuiet, IsQuiet}
use Rattle.bm_law_places.specs.World.{SweepsInbox, World, world_after, world_over}
use Rattle.bm_law_places.proofs.Standing.{lists-of}
use Rattle.bm_run.specs.LogsSoFar.{OrderUnswept}
use Rattle.bm_run.proofs.AddedParts.{own-log}
use Rattle.bm_run.specs.LeftAlone.{IsUnswept}

-- ---- nothing is swept

none-swept : (p l : ℕ) (e : Entry) (w : World) → IsUnswept e → SweepsInbox p l e w
none-swept p l (entry.Sweep c us) w h = absurd h
none-swept p l _ w h = tt

pub unswept-take : (o : Order) (w : World) → OrderUnswept o → AllFit world_after SweepsInbox o w
unswept-take [] w h = tt
unswept-take (e ∷ o) w h = (none-swept e.processor e.level e.entry w h.0, unswept-take o (world_after e.processor e.level e.entry w) h.1)

-- ---- entries that neither send a parcel nor take one

quiet-unswept : (e : Entry) → IsQuiet e → IsUnswept e
quiet-unswept (entry.Sweep c us) h = absurd h
quiet-unswept _ h = tt

by-quiet : (p : ℕ) (es : List Entry) → AllQuiet es → OrderUnswept (by p (at_level 0 es))
by-quiet p [] h = tt
by-quiet p (e ∷ es) h = (quiet-unswept e h.0, by-quiet p es h.1)

quiet-boxes : (p l : ℕ) (e : Entry) (boxes : Boxes) → IsQuiet e → boxes_after p l e boxes ≡ boxes
quiet-boxes p l (entry.Send c to us) boxes h = absurd h
quiet-boxes p l (entry.Receive c us) boxes h = absurd h
quiet-boxes p l (entry.Sweep c us) boxes h = absurd h
quiet-boxes p l _ boxes h = refl

all-quiet-boxes : (p : ℕ) (es : List Entry) (w : World) → AllQuiet es → (world_over (by p (at_level 0 es)) w).shared.boxes ≡ w.shared.boxes
all-quiet-boxes p [] w h = refl
all-quiet-boxes p (e ∷ es) w h = all-quiet-boxes p es (world_after p 0 e w) h.1 ∙ quiet-boxes p 0 e w.shared.boxes h.0

-- ---- the sweeps of a closing

at-front : (a b : Log) → AllAt 0 (a ++ b) → AllAt 0 a
at-front [] b h = tt
at-front (e ∷ a) b h = (h.0, at-front a b h.1)

at-back : (a b : Log) → AllAt 0 (a ++ b) → AllAt 0 b
at-back [] b h = h
at-back (e ∷ a) b h = at-back a b h.1

-- the inbox's units in a sweep that took these
brought-is : (c : ℕ) (s : State ℕ) (swept more : List ℕ) → swept ≡ seven_lists (s.rows c) ++ more → brought (entry.Sweep c (Whole swept)) s ≡ more
brought-is c s swept more e = ap (λ us. drop (length (seven_lists (s.rows c))) us) e ∙ drop-append_seam (seven_lists (s.rows c)) more

back-empty : (v w : List ℕ) → v ++ w ≡ [] → w ≡ []
back-empty [] w e = e
back-empty (x ∷ v) w e = absurd (cc)

-- A processor's sweep of a class, or none where there is no unit, takes what waits there, and leaves its other inboxes.
record Takes (p c : ℕ) (boxes : Inboxes) (one : Log) (w : World) : Type 0 where
  fit : AllFit world_after SweepsInbox (by p one) w
  left : (k : ℕ) → on_inbox c (λ parcels. []) boxes k ≡ (world_over (by p one) w).shared.boxes p k

no-unit : (p c : ℕ) (boxes : Inboxes) (w : World) → boxes c ≡ [] → ((k : ℕ) → boxes k ≡ w.shared.boxes p k) → Takes p c boxes [] w
no-unit p c boxes w none same = record { fit = tt; left = left }
  where
    left : (k : ℕ) → on_inbox c (λ parcels. []) boxes k ≡ w.shared.boxes p k
    left k = elim (eqb_tells k c) [
      | inl y ↦ rw y.0 (sym none ∙ (ap boxes (sym y.1) ∙ same k))
      | inr y ↦ rw y.0 (same k)
    ]

some-units : (p c : ℕ) (units : List ℕ) (boxes : Inboxes) (s : State ℕ) (own : List Entry) (w : World) → seven_lists (s.rows c) ++ concat (boxes c) ≡ units → SweepOf c units own → w.lists p ≡ s → ((k : ℕ) → boxes k ≡ w.shared.boxes p k) → Takes p c boxes (at_level 0 own) w
some-units p c units boxes s own w e y lists same =
    let x = y.phrase in
    let first : Entry = entry.Sweep c (Whole x.swept) in
    let tail : List Entry = entry.Stamp c Tracing x.stamp ∷ x.poll ++ entry.Return c (Whole x.returned) ∷ [] in
    let quiet : AllQuiet tail = quiet-behind c x.stamp x.poll x.returned x.polls in
    let now : World = world_after p 0 first w in
    let takes : brought first (w.lists p) ≡ concat (w.shared.boxes p c) = ap (brought first) lists ∙ (brought-is c s x.swept (concat (boxes c)) (y.taken ∙ sym e) ∙ ap concat (same c)) in
    let there : Takes p c boxes (at_level 0 (first ∷ tail)) w = record {
      fit = (takes, unswept-take (by p (at_level 0 tail)) now (by-quiet p tail quiet));
      left = λ k. emptied k ∙ sym (ap (λ (b : Boxes). b p k) (all-quiet-boxes p tail now quiet));
    } in
    subst (λ z. Takes p c boxes (at_level 0 z) w) (sym x.own_is) there
  where
    emptied : (k : ℕ) → on_inbox c (λ parcels. []) boxes k ≡ (if eqb p p && eqb k c then [] else w.shared.boxes p k)
    emptied k = rw (eq-eqb p p refl) (elim (eqb_tells k c) [ inl z ↦ rw z.0 refl | inr z ↦ rw z.0 (same k) ])

sweep-takes : (p c : ℕ) (units : List ℕ) (boxes : Inboxes) (s : State ℕ) (one : Log) (w : World) → seven_lists (s.rows c) ++ concat (boxes c) ≡ units → (concat (boxes c) ≡ [] → boxes c ≡ []) → AllAt 0 one → SweepWhere c units s one → w.lists p ≡ s → ((k : ℕ) → boxes k ≡ w.shared.boxes p k) → Takes p c boxes one w
sweep-takes p c [] boxes s one w e none at h lists same = subst (λ z. Takes p c boxes z w) (sym h) (no-unit p c boxes w (none (back-empty (seven_lists (s.rows c)) (concat (boxes c)) e)) same)
sweep-takes p c (u ∷ us) boxes s one w e none at h lists same =
    subst (λ z. Takes p c boxes z w) (sym (at-own 0 one at ∙ ap (at_level 0) h.2.own_is)) (some-units p c (u ∷ us) boxes s h.0 w e h.1 lists same)

-- The sweeps of a processor's closing, where its inboxes are told as they are, take what waits in them.
pub sweeps-take : (p : ℕ) (classes : List ℕ) (boxes : Inboxes) (s : State ℕ) (part : Log) (w : World) → AllAt 0 part → SweepsTold classes boxes s part → w.lists p ≡ s → ((k : ℕ) → boxes k ≡ w.shared.boxes p k) → AllFit world_after SweepsInbox (by p part) w
sweeps-take p [] boxes s part w at h lists same = subst (λ z. AllFit world_after SweepsInbox (by p z) w) (sym h) tt
sweeps-take p (c ∷ cs) boxes s part w at h lists same =
    let t = h.1 in
    let both : AllAt 0 (t.one ++ t.two) = subst (AllAt 0) t.part_is at in
    let x = sweep-takes p c (seven_lists (s.rows c) ++ concat (boxes c)) boxes s t.one w refl h.0 (at-front t.one t.two both) t.is_first lists same in
    let now : World = world_over (by p t.one) w in
    let left : now.lists p ≡ after s t.one = lists-of p (by p t.one) w ∙ (ap (after (w.lists p)) (own-log p t.one) ∙ ap (λ (z : State ℕ). after z t.one) lists) in
    let rest = sweeps-take p cs (on_inbox c (λ parcels. []) boxes) (after s t.one) t.two now (at-back t.one t.two both) t.is_second left x.left in
    subst (λ z. AllFit world_after SweepsInbox (by p z) w) (sym t.part_is)
    (subst (λ o. AllFit world_after SweepsInbox o w) (sym (by-append p t.one t.two)) (fit-append world_after SweepsInbox (by p t.one) (by p t.two) w x.fit rest))
