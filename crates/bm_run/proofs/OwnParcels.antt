-- The parcels of a processor to which no other one sends fit the law of parcels, where an order finds what it needs and leaves none.
use Rattle.std.specs.Prelude.{◌≢◌, ◌&&◌, eqb, if◌then◌else◌}
use Rattle.std.specs.List.{concat}
use Rattle.std.proofs.Common.{◌≡◌, ◌<◌, ℕ, true, List, [], ◌∷◌, ◌++◌, arith, drop, refl, sym, ◌∙◌, ap, subst, inl, inr, eq-eqb, ne_eqb}
use Rattle.std.proofs.lemmas.Bool.Decides.{eqb_tells}
use Rattle.bm_journal.specs.EntryText.{unit_list}
use Rattle.bm_journal.specs.declared.entry.Entry.{Entry}
use Rattle.bm_journal.specs.declared.entry.Entry.TheVariants as entry
use Rattle.bm_law.specs.Inboxes.{Inboxes, inboxes_after, oldest}
use Rattle.bm_law.specs.Lists.{next}
use Rattle.bm_law.specs.State.{State}
use Rattle.bm_law_laid.specs.OrderOf.{AllBelow}
use Rattle.bm_law_order.specs.Orders.{AllFit, Order, part_of}
use Rattle.bm_law_order.specs.Parcels.{Boxes, BoxesFit, boxes_after}
use Rattle.bm_law_places.specs.World.{AllFound, Finds, SweepsInbox, World, outset, world_after, world_over}
use Rattle.bm_law_scenario.specs.Parcels.{ParcelFits, ParcelLaw, ParcelsFit, no_parcels}

-- What processor q sends: processor p's parcels go to itself, and those of others don't go to it.
abbrev pub SendsApart : (p q : ℕ) → Entry → Type 0
SendsApart p q (entry.Send c to us) = (q ≡ p → to ≡ p) × (q ≢ p → to ≢ p)
SendsApart p q _ = Unit {0}

abbrev pub AllSendApart : ℕ → Order → Type 0
AllSendApart p [] = Unit {0}
AllSendApart p (e ∷ o) = SendsApart p e.processor e.entry × AllSendApart p o

-- ---- what an entry makes of the inboxes of processor p

changed : (p k c : ℕ) (f : List (List ℕ) → List (List ℕ)) (boxes : Inboxes) (all : Boxes) → boxes c ≡ all p c → (if eqb c k then f (boxes c) else boxes c) ≡ (if eqb p p && eqb c k then f (all p c) else all p c)
changed p k c f boxes all same = rw (eq-eqb p p refl) (elim (eqb_tells c k) [ inl y ↦ rw y.0 (ap f same) | inr y ↦ rw y.0 same ])

after-own : (p l : ℕ) (e : Entry) (boxes : Inboxes) (all : Boxes) → SendsApart p p e → ((c : ℕ) → boxes c ≡ all p c) → (c : ℕ) → inboxes_after p e boxes c ≡ boxes_after p l e all p c
after-own p l (entry.Send k to us) boxes all h same c =
    subst (λ t. inboxes_after p (entry.Send k t us) boxes c ≡ boxes_after p l (entry.Send k t us) all p c) (sym (h.0 refl))
    (rw (eq-eqb p p refl) (elim (eqb_tells c k) [ inl y ↦ rw y.0 (ap (λ (z : List (List ℕ)). z ++ unit_list us ∷ []) (same c)) | inr y ↦ rw y.0 (same c) ]))
after-own p l (entry.Receive k us) boxes all h same c = changed p k c (λ z. drop 1 z) boxes all (same c)
after-own p l (entry.Sweep k us) boxes all h same c = changed p k c (λ z. []) boxes all (same c)
after-own p l _ boxes all h same c = same c

after-other : (p q l : ℕ) (e : Entry) (all : Boxes) → q ≢ p → SendsApart p q e → (c : ℕ) → boxes_after q l e all p c ≡ all p c
after-other p q l (entry.Send k to us) all ne h c = rw (ne_eqb p to (λ z. h.1 ne (sym z))) refl
after-other p q l (entry.Receive k us) all ne h c = rw (ne_eqb p q (λ z. ne (sym z))) refl
after-other p q l (entry.Sweep k us) all ne h c = rw (ne_eqb p q (λ z. ne (sym z))) refl
after-other p q l _ all ne h c = refl

-- ---- an entry of the processor's

entry-fits : (p l n : ℕ) (e : Entry) (w : World) (boxes : Inboxes) → SendsApart p p e → BoxesFit n p l e w.shared.boxes → SweepsInbox p l e w → ((c : ℕ) → boxes c ≡ w.shared.boxes p c) → ParcelFits p e (w.lists p) boxes
entry-fits p l n (entry.Send k to us) w boxes h f i same = h.0 refl
entry-fits p l n (entry.Receive k us) w boxes h f i same = f ∙ ap oldest (sym (same k))
entry-fits p l n (entry.Sweep k us) w boxes h f i same = i ∙ ap concat (sym (same k))
entry-fits p l n _ w boxes h f i same = tt

-- ---- the order

parcels-fit : (p : ℕ) (o : Order) (w : World) (boxes : Inboxes) → AllFound o w → AllSendApart p o → ((c : ℕ) → boxes c ≡ w.shared.boxes p c) → ((c : ℕ) → (world_over o w).shared.boxes p c ≡ []) → ParcelsFit p (w.lists p) boxes (part_of p o)
parcels-fit p [] w boxes f h same none = λ c. same c ∙ none c
parcels-fit p (e ∷ o) w boxes f h same none =
    let now : World = world_after e.processor e.level e.entry w in
    elim (eqb_tells e.processor p) [
      | inl y ↦ own y.0 y.1 (λ more here. parcels-fit p o now more f.1 h.1 here none)
      | inr y ↦
          let lists : now.lists p ≡ w.lists p = rw (ne_eqb p e.processor (λ z. y.1 (sym z))) refl in
          let rest = parcels-fit p o now boxes f.1 h.1 (λ c. same c ∙ sym (after-other p e.processor e.level e.entry w.shared.boxes y.1 h.0 c)) none in
          rw y.0 (subst (λ (t : State ℕ). ParcelsFit p t boxes (part_of p o)) lists rest)
    ]
  where
    own : eqb e.processor p ≡ true → e.processor ≡ p → ((more : Inboxes) → ((c : ℕ) → more c ≡ (world_after e.processor e.level e.entry w).shared.boxes p c) → ParcelsFit p ((world_after e.processor e.level e.entry w).lists p) more (part_of p o)) →
        ParcelsFit p (w.lists p) boxes (part_of p (e ∷ o))
    own told is further =
        let now : World = world_after e.processor e.level e.entry w in
        let lists : now.lists p ≡ next (w.lists p) (e.level, e.entry) = rw (eq-eqb p e.processor (sym is)) refl in
        let apart : SendsApart p p e.entry = subst (λ q. SendsApart p q e.entry) is h.0 in
        let finds : Finds p e.level e.entry w = subst (λ q. Finds q e.level e.entry w) is f.0 in
        let boxes_now : (c : ℕ) → inboxes_after p e.entry boxes c ≡ now.shared.boxes p c = λ c. after-own p e.level e.entry boxes w.shared.boxes apart same c ∙ ap (λ q. boxes_after q e.level e.entry w.shared.boxes p c) (sym is) in
        let rest = further (inboxes_after p e.entry boxes) boxes_now in
        rw told (entry-fits p e.level w.shared.processors e.entry w boxes apart finds.shared.boxes finds.inbox same, subst (λ (t : State ℕ). ParcelsFit p t (inboxes_after p e.entry boxes) (part_of p o)) lists rest)

pub own-parcels : (n pages p : ℕ) (o : Order) → AllFound o (outset n pages) → AllSendApart p o → ((c : ℕ) → (world_over o (outset n pages)).shared.boxes p c ≡ []) → ParcelLaw p (part_of p o)
own-parcels n pages p o f h none = parcels-fit p o (outset n pages) no_parcels f h (λ c. refl) none

-- ---- who sends to whom

-- of one processor alone
pub one-sends-apart : (o : Order) (boxes : Boxes) → AllBelow 1 o → AllFit boxes_after (BoxesFit 1) o boxes → AllSendApart 0 o
one-sends-apart [] boxes b f = tt
one-sends-apart (e ∷ o) boxes b f = (one e.processor e.level e.entry boxes b.0 f.0, one-sends-apart o (boxes_after e.processor e.level e.entry boxes) b.1 f.1)
  where
    one : (q l : ℕ) (e : Entry) (boxes : Boxes) → q < 1 → BoxesFit 1 q l e boxes → SendsApart 0 q e
    one q l (entry.Send c to us) boxes lt h = (λ _. (let k = h.there in omega (arith, k)), λ ne. absurd (ne (omega (arith, lt))))
    one q l _ boxes lt h = tt

-- no entry sends
abbrev pub IsUnsent : Entry → Type 0
IsUnsent (entry.Send c to us) = ⊥
IsUnsent _ = Unit {0}

abbrev pub OrderUnsent : Order → Type 0
OrderUnsent [] = Unit {0}
OrderUnsent (e ∷ o) = IsUnsent e.entry × OrderUnsent o

pub unsent-apart : (p : ℕ) (o : Order) → OrderUnsent o → AllSendApart p o
unsent-apart p [] h = tt
unsent-apart p (e ∷ o) h = (none e.processor e.entry h.0, unsent-apart p o h.1)
  where
    none : (q : ℕ) (e : Entry) → IsUnsent e → SendsApart p q e
    none q (entry.Send c to us) h = absurd h
    none q _ h = tt
