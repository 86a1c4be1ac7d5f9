-- Each unit is in exactly one place, along an order.
use Rattle.std.specs.Prelude.{◌≡◌, ◌≢◌, ℕ, [], ◌∷◌}
use Rattle.std.proofs.Common.{refl, sym, ◌∙◌, ap, subst, arith, inl, inr, eq-eqb, ne_eqb}
use Rattle.std.proofs.lemmas.Bool.Decides.{eqb_tells}
use Rattle.bm_journal.specs.declared.entry.Entry.{Entry}
use Rattle.bm_law.specs.Lists.{AllName, after, next}
use Rattle.bm_law.specs.State.{State}
use Rattle.bm_law_laid.specs.UnitsOut.{IsSettled}
use Rattle.bm_law_laid.proofs.Settled.{none-out, settled-fresh}
use Rattle.bm_law_order.specs.Orders.{AllFit, AllShared, Event, Order, part_of, shared_over}
use Rattle.bm_law_order.specs.Pages.{fresh_pages}
use Rattle.bm_law_order.proofs.Along.{fit-front}
use Rattle.bm_law_places.specs.Place.{Place, Stock, Inbox, Cache, Hand, Living, Ending, times_at}
use Rattle.bm_law_places.specs.Placed.{IsPlaced, IsWellPlaced}
use Rattle.bm_law_places.specs.World.{AllFound, Finds, SweepsInbox, World, outset, world_after, world_over}
use Rattle.bm_law_places.proofs.Caches.{cache-balanced}
use Rattle.bm_law_places.proofs.Hands.{hand-balanced}
use Rattle.bm_law_places.proofs.Inboxes.{inbox-balanced}
use Rattle.bm_law_places.proofs.Lived.{ending-balanced, life-balanced}
use Rattle.bm_law_places.proofs.MoveOf.{move_of}
use Rattle.bm_law_places.proofs.Moved.{Balanced, once-moved, once-one, one-once}
use Rattle.bm_law_places.proofs.Stocked.{in-or-out, settled-on, stock-balanced}

-- ---- one entry

balanced : (u p l : ℕ) (e : Entry) (w : World) → IsSettled w.shared.pool → Finds p l e w → Balanced u (move_of p l e w) (λ x. times_at u x w) (λ x. times_at u x (world_after p l e w))
balanced u p l e w s f Stock = stock-balanced u p l e w s f.shared.pages
balanced u p l e w s f (Inbox q c) = inbox-balanced u w.shared.processors p l q c e w f.shared.boxes
balanced u p l e w s f (Cache q c) = cache-balanced u p l q c e w f
balanced u p l e w s f (Hand q j) = hand-balanced u p l q j e w f.lists
balanced u p l e w s f Living = life-balanced u p l e w f.shared.lives
balanced u p l e w s f (Ending q j) = ending-balanced u p l q j e w f.shared.lives

pub standing-on : (p l : ℕ) (e : Entry) (w : World) → IsWellPlaced w → Finds p l e w → IsWellPlaced (world_after p l e w)
standing-on p l e w s f = record {
  placed = λ u. once-one u (world_after p l e w) (once-moved _ _ u (move_of p l e w) (balanced u p l e w s.settled f) (one-once u w (s.placed u)));
  settled = settled-on p l e w.shared.pool s.settled f.shared.pages;
}

-- ---- an order

pub standing-over : (o : Order) (w : World) → IsWellPlaced w → AllFound o w → IsWellPlaced (world_over o w)
standing-over [] w s h = s
standing-over (e ∷ o) w s h = standing-over o (world_after e.processor e.level e.entry w) (standing-on e.processor e.level e.entry w s h.0) h.1

-- ---- the outset

pub standing-outset : (processors pages : ℕ) → IsWellPlaced (outset processors pages)
standing-outset processors pages = record {
  placed = λ u. record {
    place = Stock;
    here = (let a = none-out pages u in let b = in-or-out u (fresh_pages pages) in omega (arith, a, b));
    only = only u;
  };
  settled = settled-fresh pages;
}
  where
    only : (u : ℕ) (other : Place) → other ≢ Stock → times_at u other (outset processors pages) ≡ 0
    only u Stock ne = absurd (ne refl)
    only u (Inbox p c) ne = refl
    only u (Cache p c) ne = refl
    only u (Hand p l) ne = refl
    only u Living ne = refl
    only u (Ending p l) ne = refl

pub all-placed : (processors pages : ℕ) (o : Order) → AllFound o (outset processors pages) → IsPlaced processors pages o
all-placed processors pages o h done rest is =
    (standing-over done (outset processors pages) (standing-outset processors pages) (fit-front world_after Finds done rest (outset processors pages) (subst (λ (x : Order). AllFound x (outset processors pages)) is h))).placed

-- ---- what is found

pub shared-of : (o : Order) (w : World) → (world_over o w).shared ≡ shared_over o w.shared
shared-of [] w = refl
shared-of (e ∷ o) w = shared-of o (world_after e.processor e.level e.entry w)

own-part : (p : ℕ) (e : Event) (o : Order) → p ≡ e.processor → part_of p (e ∷ o) ≡ (e.level, e.entry) ∷ part_of p o
own-part p e o same = rw (eq-eqb e.processor p (sym same)) refl

other-part : (p : ℕ) (e : Event) (o : Order) → p ≢ e.processor → part_of p (e ∷ o) ≡ part_of p o
other-part p e o ne = rw (ne_eqb e.processor p (λ q. ne (sym q))) refl

own-lists : (p : ℕ) (e : Event) (w : World) → p ≡ e.processor → (world_after e.processor e.level e.entry w).lists p ≡ next (w.lists p) (e.level, e.entry)
own-lists p e w same = rw (eq-eqb p e.processor same) refl

pub other-lists : (p : ℕ) (e : Event) (w : World) → p ≢ e.processor → (world_after e.processor e.level e.entry w).lists p ≡ w.lists p
other-lists p e w ne = rw (ne_eqb p e.processor ne) refl

-- the lists of a processor after an order are those that its own entries leave
pub lists-of : (p : ℕ) (o : Order) (w : World) → (world_over o w).lists p ≡ after (w.lists p) (part_of p o)
lists-of p [] w = refl
lists-of p (e ∷ o) w =
    lists-of p o (world_after e.processor e.level e.entry w) ∙ elim (eqb_tells p e.processor) [
      | inl y ↦ ap (λ (s : State ℕ). after s (part_of p o)) (own-lists p e w y.1) ∙ sym (ap (after (w.lists p)) (own-part p e o y.1))
      | inr y ↦ ap (λ (s : State ℕ). after s (part_of p o)) (other-lists p e w y.1) ∙ sym (ap (after (w.lists p)) (other-part p e o y.1))
    ]

pub found-in-parts : (o : Order) (w : World) → AllShared o w.shared → ((p : ℕ) → AllName (w.lists p) (part_of p o)) → AllFit world_after SweepsInbox o w → AllFound o w
found-in-parts [] w h n b = tt
found-in-parts (e ∷ o) w h n b =
    let now : World = world_after e.processor e.level e.entry w in
    let own : AllName (w.lists e.processor) ((e.level, e.entry) ∷ part_of e.processor o) = subst (AllName (w.lists e.processor)) (own-part e.processor e o refl) (n e.processor) in (
      record { shared = h.0; lists = own.0; inbox = b.0 },
      found-in-parts o now h.1 (λ p. elim (eqb_tells p e.processor) [
        | inl y ↦ subst (λ (s : State ℕ). AllName s (part_of p o)) (sym (own-lists p e w y.1)) (subst (AllName (w.lists p)) (own-part p e o y.1) (n p)).1
        | inr y ↦ subst (λ (s : State ℕ). AllName s (part_of p o)) (sym (other-lists p e w y.1)) (subst (AllName (w.lists p)) (other-part p e o y.1) (n p))
      ]) b.1,
    )
