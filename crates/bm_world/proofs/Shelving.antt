-- What objects say of the list or tree that they are in stays what is so.
use Rattle.std.proofs.Common.{◌≡◌, ◌≢◌, ◌∙◌, ◌+◌, ◌<◌, ◌≤◌, ℕ, List, [], ◌∷◌, Option, Some, None, ap, inl, inr, length, refl, set, subst, sym}
use Rattle.std.proofs.lemmas.Bool.{cases_eq}
use Rattle.std.proofs.lemmas.Option.{slice_get_past}
use Rattle.std.proofs.lemmas.List.Elements.{All-head, All-tail}
use Rattle.bm_page.specs.UnitState.{UnitState}
use Rattle.bm_law_order.specs.Graphs.{NamedGraph, standing_from}
use Rattle.bm_law_order.specs.Graphs.{Standing as Stood}
use Rattle.bm_world.specs.Graphs.{AreBare}
use Rattle.bm_world.specs.LivingState.{AreShelved, living_of, next_life, slots_counted, slots_placed}
use Rattle.bm_world.specs.Slots.{AllEmpty, joined, new_object, object_at, stands_in, unit_at, unit_of, values_of, with_count, with_place}
use Rattle.bm_world.specs.ToldLiving.{life_of}
use Rattle.bm_world.specs.declared.slots.Object.{Object}
use Rattle.bm_world.proofs.SlotLemmas.{Slotted, no-object, object-other, object-same}

-- nothing stands where nothing is in a list or tree
bare-standing : (place : ℕ) (graphs : List NamedGraph) (u : ℕ) → AreBare graphs → standing_from place graphs u ≡ None
bare-standing place [] u h = refl
bare-standing place (g ∷ gs) u h = rw (All-head (λ (g : NamedGraph). g.nodes ≡ []) g gs h) (bare-standing (place + 1) gs u (All-tail (λ (g : NamedGraph). g.nodes ≡ []) g gs h))

pub shelved-none : (slots : Slotted) (graphs : List NamedGraph) → AllEmpty slots → AreBare graphs → AreShelved slots graphs
shelved-none slots graphs empty bare = record { stands = λ n. ap stands_in (no-object (object_at slots n) (empty n)) ∙ sym (bare-standing 0 graphs n bare) }

-- one slot is written
pub shelved-set : (slots : Slotted) (graphs : List NamedGraph) (n : ℕ) (x : Option Object) → n < length slots → stands_in x ≡ standing_from 0 graphs n → AreShelved slots graphs → AreShelved (set slots n x) graphs
shelved-set slots graphs n x lt e h = record {
  stands = λ m. elim (cases_eq m n) [
    | inl same ↦ subst (λ k. stands_in (object_at (set slots n x) k) ≡ standing_from 0 graphs k) (sym same) (ap stands_in (object-same slots n x lt) ∙ e)
    | inr other ↦ ap stands_in (object-other slots n m x other) ∙ h.stands m
  ];
}

pub nothing-there : (slots : Slotted) (graphs : List NamedGraph) (n : ℕ) → unit_at slots n ≡ None → AreShelved slots graphs → standing_from 0 graphs n ≡ None
nothing-there slots graphs n none h = sym (h.stands n) ∙ ap stands_in (no-object (object_at slots n) none)

-- a unit begins a life, in no list or tree
pub shelved-begun : (slots : Slotted) (graphs : List NamedGraph) (type : ℕ) (values : List ℕ) (u : UnitState) → unit_at slots u.number ≡ None → u.number < length slots → AreShelved slots graphs → AreShelved (set slots u.number (Some (new_object type values (next_life u)))) graphs
shelved-begun slots graphs type values u none lt h = shelved-set slots graphs u.number (Some (new_object type values (next_life u))) lt (sym (nothing-there slots graphs u.number none h)) h

-- another number of references
counted-stands : (count : ℕ) (x : Option Object) → stands_in (with_count count x) ≡ stands_in x
counted-stands count None = refl
counted-stands count (Some o) = refl

pub shelved-counted : (slots : Slotted) (graphs : List NamedGraph) (n count : ℕ) → n < length slots → AreShelved slots graphs → AreShelved (slots_counted n count slots) graphs
shelved-counted slots graphs n count lt h = shelved-set slots graphs n (with_count count (object_at slots n)) lt (counted-stands count (object_at slots n) ∙ h.stands n) h

-- an object moves from one to another, or is put in or taken out
pub shelved-moved : (slots : Slotted) (graphs graphs' : List NamedGraph) (n : ℕ) (within : Option ℕ) → n < length slots → stands_in (with_place within (object_at slots n)) ≡ standing_from 0 graphs' n → ((m : ℕ) → m ≢ n → standing_from 0 graphs' m ≡ standing_from 0 graphs m) → AreShelved slots graphs → AreShelved (slots_placed n within slots) graphs'
shelved-moved slots graphs graphs' n within lt e others h = record {
  stands = λ m. elim (cases_eq m n) [
    | inl same ↦ subst (λ k. stands_in (object_at (set slots n (with_place within (object_at slots n))) k) ≡ standing_from 0 graphs' k) (sym same) (ap stands_in (object-same slots n (with_place within (object_at slots n)) lt) ∙ e)
    | inr other ↦ ap stands_in (object-other slots n m (with_place within (object_at slots n)) other) ∙ (h.stands m ∙ sym (others m other))
  ];
}

-- nothing moves
pub shelved-same : (slots : Slotted) (graphs graphs' : List NamedGraph) → standing_from 0 graphs' ≡ standing_from 0 graphs → AreShelved slots graphs → AreShelved slots graphs'
shelved-same slots graphs graphs' e h = record { stands = λ m. h.stands m ∙ sym (ap (λ (f : ℕ → Option Stood). f m) e) }

-- ---- what the object is, wherever it is

placed-as : {A : Type 0} (f : Option Object → A) (slots : Slotted) (n : ℕ) (within : Option ℕ) (m : ℕ) → n < length slots → ((x : Option Object) → f (with_place within x) ≡ f x) → f (object_at (slots_placed n within slots) m) ≡ f (object_at slots m)
placed-as f slots n within m lt same = elim (cases_eq m n) [
  | inl e ↦ subst (λ k. f (object_at (set slots n (with_place within (object_at slots n))) k) ≡ f (object_at slots k)) (sym e) (ap f (object-same slots n (with_place within (object_at slots n)) lt) ∙ same (object_at slots n))
  | inr other ↦ ap f (object-other slots n m (with_place within (object_at slots n)) other)
]

life-placed : (within : Option ℕ) (x : Option Object) → life_of (with_place within x) ≡ life_of x
life-placed within None = refl
life-placed within (Some o) = refl

values-placed : (within : Option ℕ) (x : Option Object) → values_of (with_place within x) ≡ values_of x
values-placed within None = refl
values-placed within (Some o) = refl

living-placed : (within : Option ℕ) (x : Option Object) → living_of (with_place within x) ≡ living_of x
living-placed within None = refl
living-placed within (Some o) = refl

pub placed-life : (slots : Slotted) (n : ℕ) (within : Option ℕ) (m : ℕ) → n < length slots → life_of (object_at (slots_placed n within slots) m) ≡ life_of (object_at slots m)
placed-life slots n within m lt = placed-as life_of slots n within m lt (life-placed within)

pub placed-values : (slots : Slotted) (n : ℕ) (within : Option ℕ) (m : ℕ) → n < length slots → values_of (object_at (slots_placed n within slots) m) ≡ values_of (object_at slots m)
placed-values slots n within m lt = placed-as values_of slots n within m lt (values-placed within)

pub placed-living : (slots : Slotted) (n : ℕ) (within : Option ℕ) (m : ℕ) → n < length slots → living_of (object_at (slots_placed n within slots) m) ≡ living_of (object_at slots m)
placed-living slots n within m lt = placed-as living_of slots n within m lt (living-placed within)

unit-placed : (within : Option ℕ) (x : Option Object) → unit_of (with_place within x) ≡ unit_of x
unit-placed within None = refl
unit-placed within (Some o) = refl

pub placed-unit : (slots : Slotted) (n : ℕ) (within : Option ℕ) (m : ℕ) → n < length slots → unit_at (slots_placed n within slots) m ≡ unit_at slots m
placed-unit slots n within m lt = placed-as unit_of slots n within m lt (unit-placed within)

-- a unit that has no place among the slots stands in no list or tree
pub unknown-stands : (slots : Slotted) (graphs : List NamedGraph) (n : ℕ) → length slots ≤ n → AreShelved slots graphs → standing_from 0 graphs n ≡ None
unknown-stands slots graphs n le h = sym (h.stands n) ∙ ap stands_in (ap joined (slice_get_past slots n le))
