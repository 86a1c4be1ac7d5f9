-- Slots by their places and by their names.
use Rattle.std.proofs.Common.{◌≡◌, ◌∙◌, ◌⊎◌, ◌<◌, ℕ, zero, suc, Bool, true, false, List, [], ◌∷◌, Option, ap, arith, get_or, inl, inr, length, map, refl, set, subst, sym}
use Rattle.std.specs.Prelude.{not, if◌then◌else◌}
use Rattle.std.specs.List.{list_all}
use Rattle.std.specs.Str.{bytes_eq}
use Rattle.std.proofs.lemmas.Bool.{and_parts}
use Rattle.std.proofs.lemmas.Slice.Eq.{bytes_eq-Decides}
use mathlib.Core.Path.{fun_ext}
use Rattle.bm_journal.specs.declared.ids.ObjId.{ObjId}
use Rattle.bm_journal.specs.declared.ids.Tag.{Tag}
use Rattle.bm_law_order.specs.Slots.{Named, Slot, named_in, with_slot}
use Rattle.bm_world.specs.NamedSlots.{named_of}
use Rattle.bm_world.specs.declared.contents.MapSlot.{MapSlot}
use Rattle.std.proofs.lemmas.List.{map-set}
use Rattle.bm_world.specs.Contents.{are_apart, names_in, put_at, slot_at}

is_or_not : (b : Bool) → (b ≡ true) ⊎ (b ≡ false)
is_or_not true = inl refl
is_or_not false = inr refl

not-true : (b : Bool) → not b ≡ true → b ≡ false
not-true true h = cc
not-true false h = refl

same-word : (x y : List ℕ) → bytes_eq x y ≡ true → x ≡ y
same-word x y = (bytes_eq-Decides x y).0

itself : (x : List ℕ) → bytes_eq x x ≡ true
itself x = (bytes_eq-Decides x x).1 refl

-- the name at a place among names of which each is another one than this
other-name : (n : List ℕ) (place : ℕ) (slots : List Named) → list_all (λ m. not (bytes_eq n m)) (names_in slots) ≡ true → place < length slots → bytes_eq n (slot_at place slots).name ≡ false
other-name n place [] h lt = absurd (omega (arith, lt))
other-name n zero (s ∷ ss) h lt = not-true (bytes_eq n s.name) (and_parts (not (bytes_eq n s.name)) (list_all (λ m. not (bytes_eq n m)) (names_in ss)) h).0
other-name n (suc place) (s ∷ ss) h lt = other-name n place ss (and_parts (not (bytes_eq n s.name)) (list_all (λ m. not (bytes_eq n m)) (names_in ss)) h).1 (omega (arith, lt))

-- the slot at a place is what its name finds
pub named-there : (place : ℕ) (slots : List Named) → are_apart (names_in slots) ≡ true → place < length slots → named_in slots (slot_at place slots).name ≡ (slot_at place slots).slot
named-there place [] h lt = absurd (omega (arith, lt))
named-there zero (s ∷ ss) h lt = rw (itself s.name) refl
named-there (suc place) (s ∷ ss) h lt =
    let p = and_parts (list_all (λ m. not (bytes_eq s.name m)) (names_in ss)) (are_apart (names_in ss)) h in
    rw (other-name s.name place ss p.0 (omega (arith, lt))) (named-there place ss p.1 (omega (arith, lt)))

-- .. and nothing else finds another content than before
named-put : (place : ℕ) (slot : Slot) (slots : List Named) → are_apart (names_in slots) ≡ true → place < length slots → (other : List ℕ) → named_in (put_at place slot slots) other ≡ with_slot (slot_at place slots).name slot (named_in slots) other
named-put place slot [] h lt other = absurd (omega (arith, lt))
named-put zero slot (s ∷ ss) h lt other = if-twice (bytes_eq s.name other)
  where
    if-twice : (b : Bool) → (if b then slot else named_in ss other) ≡ (if b then slot else (if b then s.slot else named_in ss other))
    if-twice true = refl
    if-twice false = refl
named-put (suc place) slot (s ∷ ss) h lt other =
    let p = and_parts (list_all (λ m. not (bytes_eq s.name m)) (names_in ss)) (are_apart (names_in ss)) h in
    let apart = other-name s.name place ss p.0 (omega (arith, lt)) in
    let rest = named-put place slot ss p.1 (omega (arith, lt)) other in
    elim (is_or_not (bytes_eq s.name other)) [
      | inl same ↦
          let e : s.name ≡ other = same-word s.name other same in
          let aside : bytes_eq (slot_at place ss).name other ≡ false = elim (is_or_not (bytes_eq (slot_at place ss).name other)) [
            | inl both ↦
                let f : (slot_at place ss).name ≡ s.name = same-word (slot_at place ss).name other both ∙ sym e in
                let t : bytes_eq s.name (slot_at place ss).name ≡ true = subst (λ x. bytes_eq s.name x ≡ true) (sym f) (itself s.name) in
                cc
            | inr isnt ↦ isnt
          ] in
          rw (same, aside) refl
      | inr isnt ↦ rw isnt rest
    ]

pub told-put : (place : ℕ) (slot : Slot) (slots : List Named) → are_apart (names_in slots) ≡ true → place < length slots → named_in (put_at place slot slots) ≡ with_slot (slot_at place slots).name slot (named_in slots)
told-put place slot slots h lt = fun_ext (named-put place slot slots h lt)

-- the names stay
pub names-stay : (place : ℕ) (slot : Slot) (slots : List Named) → names_in (put_at place slot slots) ≡ names_in slots
names-stay place slot [] = refl
names-stay zero slot (s ∷ ss) = refl
names-stay (suc place) slot (s ∷ ss) = ap (λ ns. s.name ∷ ns) (names-stay place slot ss)

-- ---- as they are told

pub told-slot : (slots : List MapSlot) (place : ℕ) (s : MapSlot) → place < length slots → s ≡ get_or slots place s → slot_at place (map named_of slots) ≡ named_of s
told-slot [] place s lt e = absurd (omega (arith, lt))
told-slot (x ∷ xs) zero s lt e = ap named_of (sym e)
told-slot (x ∷ xs) (suc place) s lt e = told-slot xs place s (omega (arith, lt)) e

pub told-set : (slots : List MapSlot) (place : ℕ) (s : MapSlot) (put : Option ObjId) (by : Option Tag) → place < length slots → s ≡ get_or slots place s → map named_of (set slots place (record { name = s.name; held = put; by = by })) ≡ put_at place (record { held = put; by = by }) (map named_of slots)
told-set slots place s put by lt e =
    let slot : Slot = record { held = put; by = by } in
    map-set named_of slots place (record { name = s.name; held = put; by = by })
    ∙ ap (λ (n : Named). set (map named_of slots) place (record { name = n.name; slot = slot })) (sym (told-slot slots place s lt e))
