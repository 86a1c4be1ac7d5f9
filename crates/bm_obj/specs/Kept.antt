-- What all objects on one thread keep true.
use Rattle.std.specs.Prelude.{◌≡◌, ℕ, ◌+◌, ◌^◌, ◌<◌, ◌≤◌, true, false, List, Option, None, Some, is_some, length, slice_get, slice_index}
use Rattle.std.specs.Option.{option_map}
use Rattle.bm_class.specs.Sizes.{class_of_size}
use Rattle.bm_obj.specs.Known.{IsGraphOf, type_at}
use Rattle.bm_obj.specs.Reference.{Reference}
use Rattle.bm_obj.specs.Table.{object_at, reference_to}
use Rattle.bm_obj.specs.TypeSize.{type_size}
use Rattle.bm_obj.specs.WorldState.{Word, claim_in, times_held}
use Rattle.bm_obj.specs.declared.object.Object.{Object}
use Rattle.bm_obj.specs.declared.object.UnitPlace.{UnitPlace}
use Rattle.bm_obj.specs.declared.type_def.TypeDef.{TypeDef}

-- An object in the place of number n: its unit has that number and no seal, and is of the class of the object's type; it has a
-- value for each field; it has a reference, and at least as many as slots and notes hold; without a count in its type it has one;
-- while its claim is in hands there is a reference in hands, and while its claim is in a note there is one in a note; a graph that
-- owns it is of its type; and there is room for all references that may still be acquired.
pub record IsAlive (graphs : List ℕ) (defs : List TypeDef) (words : List Word) (acquires n : ℕ)
    (object : Object) : Type 0 where
  pub number : object.unit.number ≡ n
  pub unsealed : object.unit.seal ≡ None
  pub life : object.unit.life < 2 ^ 18
  pub class : class_of_size (type_size (type_at defs object.def)) ≡ Some object.unit.class
  pub fields : length object.values ≡ (type_at defs object.def).fields
  pub some : 0 < object.count
  pub slots : times_held n words + object.noted ≤ object.count
  pub single : (type_at defs object.def).counted ≡ false → object.count ≡ 1
  pub owned :
      is_some (claim_in (Some object)) ≡ true → times_held n words + object.noted < object.count
  pub noted : object.carried ≡ true → (0 < object.noted) × (is_some object.owner ≡ true)
  pub graph : (g : ℕ) → object.owner ≡ Some g → IsGraphOf graphs object.def g
  pub room : object.count + acquires ≤ 2 ^ 30 + 1

-- the reference in a slot, if there is one
abbrev pub held_by : Option Word → Option Reference
held_by None = None
held_by (Some word) = word.old

abbrev pub word_at : List Word → ℕ → Option Reference
word_at words s = held_by (slice_get words s)

-- Each object is so, a type has at most 8 fields, and 2 ^ 30 references may be acquired in all. What a slot holds is a reference to an object that lives, and of the slot's type.
pub record IsWorld (places : List UnitPlace) (words : List Word) (slots graphs : List ℕ)
    (defs : List TypeDef) (acquires : ℕ) : Type 0 where
  pub units : length places ≤ 2 ^ 16
  pub word_count : length words ≡ length slots
  pub fields : (d : ℕ) → (type_at defs d).fields ≤ 8
  pub few : acquires ≤ 2 ^ 30
  pub alive :
      (n : ℕ) (object : Object) → object_at places n ≡ Some object
      → IsAlive graphs defs words acquires n object
  pub lives :
      (s : ℕ) (r : Reference) → word_at words s ≡ Some r
      → option_map reference_to (object_at places r.unit) ≡ Some r
  pub types : (s : ℕ) (r : Reference) → word_at words s ≡ Some r → r.def ≡ slice_index slots s
