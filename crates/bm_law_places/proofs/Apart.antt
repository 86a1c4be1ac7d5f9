-- What follows for a unit that a processor has, where each unit is in exactly one place.
use Rattle.std.specs.Prelude.{◌≡◌, ◌≢◌, ◌<◌, ℕ, if◌then◌else◌, Bool, true, false, [], ◌∷◌, take, Option, Some, None, is_some}
use Rattle.std.proofs.Common.{refl, sym, ◌∙◌, ap, subst, append-nil, arith, inl, inr, eq-eqb, ne_eqb}
use Rattle.std.proofs.lemmas.Bool.{false≢true}
use Rattle.std.proofs.lemmas.Bool.Decides.{eqb_tells}
use Rattle.bm_journal.specs.declared.entry.Entry.{Entry}
use Rattle.bm_journal.specs.declared.entry.Entry.TheVariants as entry
use Rattle.bm_law.specs.Lists.{Log, Names, after}
use Rattle.bm_law.specs.Stands.{times}
use Rattle.bm_law.specs.State.{State, seven_lists}
use Rattle.bm_law.proofs.Stands.{times-take-drop}
use Rattle.bm_law_order.specs.Lives.{Dropping, Life, Lives, answered_last, answered_still}
use Rattle.bm_law_order.specs.Orders.{Event, Order, by, part_of}
use Rattle.bm_page.specs.Stock.{stocked_at}
use Rattle.bm_law_places.specs.Place.{Place, Stock, Inbox, Cache, Hand, Living, Ending, ending, times_at}
use Rattle.bm_law_places.specs.Placed.{AllPlaced, InOnePlace, IsEmptied, IsOf, IsOnlyWith, IsPlaced, IsWellPlaced, IsWith, LeavesAlone}
use Rattle.bm_law_places.specs.World.{AllFound, World, outset, world_after, world_over}
use Rattle.bm_law_places.proofs.Same.{place_tells, same-self, same_place}
use Rattle.bm_law_places.proofs.Standing.{lists-of, other-lists, standing-on, standing-over}

-- ---- the one place

-- a place that names a unit is the one in which it is
pub is-there : (u : ℕ) (a : Place) (w : World) (h : InOnePlace u w) → 0 < times_at u a w → a ≡ h.place
is-there u a w h lt =
    elim (place_tells a h.place) [
      | inl y ↦ y.1
      | inr y ↦ (let none = h.only a y.1 in absurd (omega (arith, lt, none)))
    ]

-- after an order that is placed no two places name a unit
pub not-twice : (processors pages u : ℕ) (o : Order) (a b : Place) → same_place a b ≡ false → 0 < times_at u a (world_over o (outset processors pages)) → 0 < times_at u b (world_over o (outset processors pages)) → IsPlaced processors pages o → ⊥
not-twice processors pages u o a b other here there placed =
    let w : World = world_over o (outset processors pages) in
    let one : InOnePlace u w = placed o [] (sym (append-nil o)) u in
    let same : a ≡ b = is-there u a w one here ∙ sym (is-there u b w one there) in
    false≢true (sym other ∙ (ap (same_place a) (sym same) ∙ same-self a))

of-one : (p q : ℕ) (a : Place) → IsOf p a → IsOf q a → q ≡ p
of-one p q (Cache k c) h g = sym g ∙ h
of-one p q (Hand k l) h g = sym g ∙ h
of-one p q _ h g = absurd h

-- the place of a processor's unit is its own, so no other one names it
own-place : (p u : ℕ) (w : World) (h : InOnePlace u w) → IsWith p u w → IsOf p h.place
own-place p u w h own = subst (IsOf p) (is-there u own.place w h own.named) own.own

not-other : (p u : ℕ) (a : Place) (w : World) → InOnePlace u w → IsWith p u w → (IsOf p a → ⊥) → times_at u a w ≡ 0
not-other p u a w h own out = h.only a (λ e. out (subst (IsOf p) (sym e) (own-place p u w h own)))

none-in : (out : Bool) (n : ℕ) → n ≡ 0 → (if out then 0 else 1) ≡ n → out ≡ true
none-in true n z e = refl
none-in false n z e = absurd (omega (arith, e, z))

one-in : (out : Bool) (n : ℕ) → n ≡ 1 → (if out then 0 else 1) ≡ n → out ≡ false
one-in true n z e = absurd (omega (arith, e, z))
one-in false n z e = refl

none-lives : (life : Option Life) (n : ℕ) → n ≡ 0 → (if is_some life then 1 else 0) ≡ n → life ≡ None
none-lives None n z e = refl
none-lives (Some life) n z e = absurd (omega (arith, e, z))

pub only-with : (p u : ℕ) (w : World) → InOnePlace u w → IsWith p u w → IsOnlyWith p u w
only-with p u w h own = record {
  others = λ q ne other. ne (of-one p q h.place (own-place p u w h own) (own-place q u w h other));
  inboxes = λ q c. not-other p u (Inbox q c) w h own (λ e. e);
  out = none-in _ 0 refl (not-other p u Stock w h own (λ e. e));
  lifeless = none-lives _ 0 refl (not-other p u Living w h own (λ e. e));
  ended = λ q l. not-other p u (Ending q l) w h own (λ e. e);
}

-- ---- entries of others

record IsOther (q : ℕ) (e : Event) (o : Order) : Type 0 where
  other : q ≢ e.processor
  rest : part_of q o ≡ []

others-on : (q : ℕ) (e : Event) (o : Order) → part_of q (e ∷ o) ≡ [] → IsOther q e o
others-on q e o h =
    elim (eqb_tells e.processor q) [
      | inl y ↦ absurd (some-none (rw y.0 at h))
      | inr y ↦ record { other = λ s. y.1 (sym s); rest = rw y.0 at h }
    ]
  where
    some-none : {x : ℕ × Entry} {xs : Log} → x ∷ xs ≡ [] → ⊥
    some-none e = cc

-- a unit that was with a processor is with it while its lists are the same
still-with : (q u : ℕ) (w v : World) → v.lists q ≡ w.lists q → IsWith q u w → IsWith q u v
still-with q u w v same h = go h.place h.own h.named
  where
    go : (a : Place) → IsOf q a → 0 < times_at u a w → IsWith q u v
    go (Cache p c) own lt = record { place = Cache p c; own = own; named = subst (λ (n : ℕ). 0 < n) (sym (ap (λ (k : ℕ). times u (seven_lists ((v.lists k).rows c))) own ∙ (ap (λ (s : State ℕ). times u (seven_lists (s.rows c))) same ∙ ap (λ (k : ℕ). times u (seven_lists ((w.lists k).rows c))) (sym own)))) lt }
    go (Hand p l) own lt = record { place = Hand p l; own = own; named = subst (λ (n : ℕ). 0 < n) (sym (ap (λ (k : ℕ). times u ((v.lists k).sides l).hand) own ∙ (ap (λ (s : State ℕ). times u (s.sides l).hand) same ∙ ap (λ (k : ℕ). times u ((w.lists k).sides l).hand) (sym own)))) lt }
    go _ own lt = absurd own

-- the unit that is given is in the hand of the level that gives it
given-with : (p l u : ℕ) (w : World) → take 1 ((w.lists p).sides l).hand ≡ u ∷ [] → IsWith p u w
given-with p l u w h = record {
  place = Hand p l;
  own = refl;
  named = let a = times-take-drop u ((w.lists p).sides l).hand in
      let b : times u (take 1 ((w.lists p).sides l).hand) ≡ 1 = ap (times u) h ∙ here u in
      omega (arith, a, b);
}
  where
    here : (u : ℕ) → times u (u ∷ []) ≡ 1
    here u = rw (eq-eqb u u refl) refl

still-begun : (u p l : ℕ) (o : Option Dropping) (lives : Lives) → (answered_still p l o lives).begun u ≡ lives.begun u
still-begun u p l None lives = refl
still-begun u p l (Some d) lives = refl

last-begun : (u p l : ℕ) (o : Option Dropping) (lives : Lives) → (answered_last p l o lives).begun u ≡ lives.begun u
last-begun u p l None lives = refl
last-begun u p l (Some d) lives = refl

-- only the processor that has a unit gives it a life
begun-one : (q u p l : ℕ) (e : Entry) (w : World) → q ≢ p → AllPlaced w → Names l e (w.lists p) → IsWith q u w → (world_after p l e w).shared.lives.begun u ≡ w.shared.lives.begun u
begun-one q u p l (entry.Given v life) w ne s n own = elim (eqb_tells u v) [
  | inl y ↦ absurd ((only-with q u w (s u) own).others p (λ e. ne (sym e)) (given-with p l u w (n ∙ ap (λ x. x ∷ []) (sym y.1))))
  | inr y ↦ rw y.0 refl
]
begun-one q u p l (entry.GivenAfter v life stamp seen) w ne s n own = elim (eqb_tells u v) [
  | inl y ↦ absurd ((only-with q u w (s u) own).others p (λ e. ne (sym e)) (given-with p l u w (n ∙ ap (λ x. x ∷ []) (sym y.1))))
  | inr y ↦ rw y.0 refl
]
begun-one q u p l (entry.Still k) w ne s n own = still-begun u p l (w.shared.lives.dropping p l) w.shared.lives
begun-one q u p l entry.Last w ne s n own = last-begun u p l (w.shared.lives.dropping p l) w.shared.lives
begun-one q u p l _ w ne s n own = refl

begun-over : (q u : ℕ) (o : Order) (w : World) → part_of q o ≡ [] → IsWellPlaced w → AllFound o w → IsWith q u w → (world_over o w).shared.lives.begun u ≡ w.shared.lives.begun u
begun-over q u [] w none s f own = refl
begun-over q u (e ∷ o) w none s f own =
    let now : World = world_after e.processor e.level e.entry w in
    let is = others-on q e o none in
    begun-over q u o now is.rest (standing-on e.processor e.level e.entry w s f.0) f.1 (still-with q u w now (other-lists q e w is.other) own)
    ∙ begun-one q u e.processor e.level e.entry w is.other s.placed f.0.lists own

pub leaves-alone : (q : ℕ) (o : Order) (w : World) → part_of q o ≡ [] → IsWellPlaced w → AllFound o w → LeavesAlone q w (world_over o w)
leaves-alone q o w none s f =
    let now : World = world_over o w in
    let same : now.lists q ≡ w.lists q = lists-of q o w ∙ ap (after (w.lists q)) none in
    record {
      lists = same;
      units = λ u own.
          let before = only-with q u w (s.placed u) own in
          let later = only-with q u now ((standing-over o w s f).placed u) (still-with q u w now same own) in
          record {
            out = later.out ∙ sym before.out;
            inboxes = λ p c. later.inboxes p c ∙ sym (before.inboxes p c);
            holds = later.lifeless ∙ sym before.lifeless;
            begun = begun-over q u o w none s f own;
          };
    }

pub others-part : (p q : ℕ) (log : Log) → q ≢ p → part_of q (by p log) ≡ []
others-part p q [] ne = refl
others-part p q (e ∷ log) ne = rw (ne_eqb p q (λ e. ne (sym e))) (others-part p q log ne)

-- ---- at the end

pub back-in-stock : (u : ℕ) (w : World) → IsEmptied w → InOnePlace u w → (stocked_at w.shared.pool.units u).out ≡ false
back-in-stock u w e h = go h.place h.here
  where
    none : (x y : ℕ) → x ≡ 1 → x ≡ y → y ≡ 0 → ⊥
    none x y p q r = omega (arith, p, q, r)

    go : (a : Place) → times_at u a w ≡ 1 → (stocked_at w.shared.pool.units u).out ≡ false
    go Stock k = one-in _ 1 refl k
    go (Inbox p c) k = absurd (none _ 0 k (ap (times u) (e.inboxes p c)) refl)
    go (Cache p c) k = absurd (none _ 0 k (ap (times u) (e.caches p c)) refl)
    go (Hand p l) k = absurd (none _ 0 k (ap (times u) (e.hands p l)) refl)
    go Living k = absurd (none _ 0 k (ap (λ (x : Option Life). if is_some x then 1 else 0) (e.lives u)) refl)
    go (Ending p l) k = absurd (none _ 0 k (ap (λ (x : Option Dropping). times u (ending x)) (e.drops p l)) refl)
