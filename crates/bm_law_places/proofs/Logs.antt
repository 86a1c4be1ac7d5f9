-- What each log names, an order of logs finds; and a log of the one processor that there is, with its parcels.
use Rattle.std.specs.Prelude.{◌≡◌, ◌<◌, ◌≤◌, ◌+◌, ℕ, zero, suc, List, [], ◌∷◌, ◌++◌, length, get_or, drop}
use Rattle.std.specs.List.{concat}
use Rattle.std.proofs.Common.{refl, sym, ◌∙◌, ap, subst, arith, inl, inr, eq-eqb, ne_eqb}
use Rattle.std.proofs.lemmas.Bool.{cases_eq, cases_lt}
use Rattle.std.proofs.lemmas.Bool.Decides.{eqb_tells}
use Rattle.bm_journal.specs.EntryText.{unit_list}
use Rattle.bm_journal.specs.declared.entry.Entry.{Entry}
use Rattle.bm_journal.specs.declared.entry.Entry.TheVariants as entry
use Rattle.bm_law.specs.Inboxes.{Inboxes, inboxes_after}
use Rattle.bm_law.specs.Lists.{AllName, Leaves, Log, Names, brought, next}
use Rattle.bm_law.specs.State.{State, opening}
use Rattle.bm_law_laid.specs.OrderOf.{AllBelow, IsOrderOf}
use Rattle.bm_law_lives.specs.Together.{EachLog, LogsFrom}
use Rattle.bm_law_order.specs.Orders.{AllFit, AllShared, IsLaid, Order, by, part_of}
use Rattle.bm_law_order.specs.Parcels.{Boxes, boxes_after}
use Rattle.bm_law_scenario.specs.Parcels.{ParcelFits, ParcelLaw, ParcelsFit, no_parcels}
use Rattle.bm_law_places.specs.Placed.{IsPlaced}
use Rattle.bm_law_places.specs.World.{AllFound, Finds, SweepsInbox, World, outset, world_after, world_over}
use Rattle.bm_law_order.proofs.Along.{fit-append}
use Rattle.bm_law_places.proofs.Apart.{others-part}
use Rattle.bm_law_places.proofs.Standing.{all-placed, found-in-parts}

-- ---- any number of logs

pub below-none : (n p : ℕ) (o : Order) → AllBelow n o → n ≤ p → part_of p o ≡ []
below-none n p [] b le = refl
below-none n p (e ∷ o) b le =
    let here = b.0 in
    rw (ne_eqb e.processor p (λ q. omega (arith, q, here, le))) (below-none n p o b.1 le)

-- where the entries are of the first n processors, what is so of each of their parts names what is there in all
pub parts-name : (n : ℕ) (o : Order) → AllBelow n o → ((p : ℕ) → p < n → AllName (opening p) (part_of p o)) → (p : ℕ) → AllName (opening p) (part_of p o)
parts-name n o b h p =
    elim (cases_lt p n) [
      | inl lt ↦ h p lt
      | inr le ↦ subst (AllName (opening p)) (sym (below-none n p o b le)) tt
    ]

each-at : (P : ℕ → Log → Type 0) (q i p : ℕ) (logs : List Log) → LogsFrom q P logs → i < length logs → p ≡ q + i → P p (get_or logs i [])
each-at P q i p [] h lt e = absurd (omega (arith, lt))
each-at P q zero p (log ∷ logs) h lt e = (let same : q ≡ p = omega (arith, e) in subst (λ k. P k log) same h.0)
each-at P q (suc i) p (log ∷ logs) h lt e = each-at P (q + 1) i p logs h.1 (omega (arith, lt)) (omega (arith, e))

pub logs-placed : (processors pages : ℕ) (logs : List Log) (o : Order) → IsOrderOf logs o → IsLaid processors pages o → EachLog (λ p log. AllName (opening p) log) logs → AllFit world_after SweepsInbox o (outset processors pages) → IsPlaced processors pages o
logs-placed processors pages logs o is laid names sweeps =
    all-placed processors pages o (found-in-parts o (outset processors pages) laid (parts-name (length logs) o is.below (λ p lt. subst (AllName (opening p)) (sym (is.parts p lt)) (each-at (λ p log. AllName (opening p) log) 0 p p logs names lt (omega arith)))) sweeps)

-- ---- one stretch after the other

own-log : (p : ℕ) (log : Log) → part_of p (by p log) ≡ log
own-log p [] = refl
own-log p (e ∷ log) = rw (eq-eqb p p refl) (ap (λ (x : Log). e ∷ x) (own-log p log))

-- a stretch of a processor's log finds what it needs where that log goes on naming what is there
pub stretch-found : (p : ℕ) (log : Log) (w : World) → AllShared (by p log) w.shared → AllName (w.lists p) log → AllFit world_after SweepsInbox (by p log) w → AllFound (by p log) w
stretch-found p log w shared names sweeps =
    found-in-parts (by p log) w shared (λ q. elim (cases_eq q p) [
      | inl same ↦ subst (λ k. AllName (w.lists k) (part_of k (by p log))) (sym same) (subst (AllName (w.lists p)) (sym (own-log p log)) names)
      | inr other ↦ subst (AllName (w.lists q)) (sym (others-part p q log other)) tt
    ]) sweeps

pub found-join : (a b : Order) (w : World) → AllFound a w → AllFound b (world_over a w) → AllFound (a ++ b) w
found-join a b w f g = fit-append world_after Finds a b w f g

-- ---- the log of the one processor that there is

-- its own inboxes go on as those of all processors do
inboxes-on : (p l c : ℕ) (e : Entry) (s : State ℕ) (boxes : Inboxes) (all : Boxes) → ParcelFits p e s boxes → ((c : ℕ) → boxes c ≡ all p c) → inboxes_after p e boxes c ≡ boxes_after p l e all p c
inboxes-on p l c (entry.Send k to us) s boxes all f same = rw (eq-eqb to p f, eq-eqb p to (sym f)) (elim (eqb_tells c k) [ inl y ↦ rw y.0 (ap (λ b. b ++ unit_list us ∷ []) (same c)) | inr y ↦ rw y.0 (same c) ])
inboxes-on p l c (entry.Receive k us) s boxes all f same = rw (eq-eqb p p refl) (elim (eqb_tells c k) [ inl y ↦ rw y.0 (ap (drop 1) (same c)) | inr y ↦ rw y.0 (same c) ])
inboxes-on p l c (entry.Sweep k us) s boxes all f same = rw (eq-eqb p p refl) (elim (eqb_tells c k) [ inl y ↦ rw y.0 refl | inr y ↦ rw y.0 (same c) ])
inboxes-on p l c _ s boxes all f same = same c

sweeps-so : (p l : ℕ) (e : Entry) (s : State ℕ) (boxes : Inboxes) (w : World) → ParcelFits p e s boxes → w.lists p ≡ s → ((c : ℕ) → boxes c ≡ w.shared.boxes p c) → SweepsInbox p l e w
sweeps-so p l (entry.Sweep c us) s boxes w f is same = ap (brought (entry.Sweep c us)) is ∙ (f ∙ ap concat (same c))
sweeps-so p l _ s boxes w f is same = tt

own-next : (p : ℕ) (e : ℕ × Entry) (w : World) → (world_after p e.0 e.1 w).lists p ≡ next (w.lists p) e
own-next p e w = rw (eq-eqb p p refl) refl

log-found : (p : ℕ) (log : Log) (s : State ℕ) (boxes : Inboxes) (w : World) → w.lists p ≡ s → ((c : ℕ) → boxes c ≡ w.shared.boxes p c) → AllShared (by p log) w.shared → AllName s log → ParcelsFit p s boxes log → AllFound (by p log) w
log-found p [] s boxes w is same h n f = tt
log-found p (e ∷ es) s boxes w is same h n f = (
  record { shared = h.0; lists = subst (λ (t : State ℕ). Names e.0 e.1 t) (sym is) n.0; inbox = sweeps-so p e.0 e.1 s boxes w f.0 is same },
  log-found p es (next s e) (inboxes_after p e.1 boxes) (world_after p e.0 e.1 w) (own-next p e w ∙ ap (λ (t : State ℕ). next t e) is) (λ c. inboxes-on p e.0 c e.1 s boxes w.shared.boxes f.0 same) h.1 n.1 f.1,
)

-- .. from the outset on
pub log-finds : (pages : ℕ) (log : Log) (last : State ℕ) → IsLaid 1 pages (by 0 log) → Leaves 0 log last → ParcelLaw 0 log → AllFound (by 0 log) (outset 1 pages)
log-finds pages log last laid leaves parcels = log-found 0 log (opening 0) no_parcels (outset 1 pages) refl (λ c. refl) laid leaves.named parcels

pub log-placed : (pages : ℕ) (log : Log) (last : State ℕ) → IsLaid 1 pages (by 0 log) → Leaves 0 log last → ParcelLaw 0 log → IsPlaced 1 pages (by 0 log)
log-placed pages log last laid leaves parcels =
    all-placed 1 pages (by 0 log) (log-finds pages log last laid leaves parcels)
