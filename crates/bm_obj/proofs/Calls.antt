-- What all objects keep true over each call.
use Rattle.std.proofs.Common.{◌≡◌, ◌∙◌, ℕ, zero, suc, ◌+◌, ◌-◌, ◌^◌, ◌<◌, ◌≤◌, List, length, replicate, refl, sym, ap, subst, inl, inr, Option, Some, None, arith, set, slice_get}
use Rattle.std.specs.Prelude.{Bool, is_some, if◌then◌else◌, true, false}
use Rattle.std.specs.Option.{option_map}
use Rattle.std.proofs.lemmas.Bool.{cases_lt}
use Rattle.std.proofs.lemmas.List.{length-replicate}
use Rattle.bm_class.specs.Sizes.{class_of_size}
use Rattle.bm_page.specs.UnitState.{UnitState}
use Rattle.bm_obj.specs.Known.{IsGraphOf, type_at}
use Rattle.bm_obj.specs.Kept.{IsAlive, IsWorld, word_at}
use Rattle.bm_obj.specs.Notes.{Carried, IsClaimNoted, IsNoted}
use Rattle.bm_obj.specs.Reference.{Reference}
use Rattle.bm_obj.specs.Table.{begun_in, changed, object_at, object_in, reference_to, with_count, with_noted, with_owner}
use Rattle.bm_obj.specs.TypeSize.{type_size}
use Rattle.bm_obj.specs.WorldState.{Word, claim_in, new_object, noted_in, opening_word, still_carried, times_held}
use Rattle.bm_obj.specs.declared.object.Object.{Object}
use Rattle.bm_obj.specs.declared.object.UnitPlace.{UnitPlace}
use Rattle.bm_obj.specs.declared.object.UnitPlace.TheVariants.{Free, Lives}
use Rattle.bm_obj.specs.declared.type_def.TypeDef.{TypeDef}
use Rattle.bm_obj.proofs.Places.{changed-is, get-within, object-within}
use Rattle.bm_obj.proofs.Refs.{count-some, has-some, held-once, held-where}
use Rattle.bm_obj.proofs.Alive.{Finds, place-written}

-- a reference names the unit of its object
unit-is : (o : Object) (r : Reference) → reference_to o ≡ r → o.unit.number ≡ r.unit
unit-is o r e = ap (λ q. q.unit) e

-- the reference that a slot holds to a unit is the one that is had
same-reference : (o : Option Object) (object : Object) (r q : Reference) → o ≡ Some object → reference_to object ≡ r → option_map reference_to o ≡ Some q → q ≡ r
same-reference None object r q e is h = absurd (cc)
same-reference (Some other) object r q e is h =
    let a : other ≡ object = cc in
    let b : reference_to other ≡ q = cc in
    sym b ∙ (ap reference_to a ∙ is)

-- what is in slots is as it was where the object looks as before
still-named : (places : List UnitPlace) (words : List Word) (slots graphs : List ℕ) (defs : List TypeDef) (a : ℕ) (r : Reference) (object : Object) (p : UnitPlace) → object_at places r.unit ≡ Some object → reference_to object ≡ r → IsWorld places words slots graphs defs a → option_map reference_to (object_in (Some p)) ≡ Some r → (s : ℕ) (q : Reference) → word_at words s ≡ Some q → q.unit ≡ r.unit → option_map reference_to (object_in (Some p)) ≡ Some q
still-named places words slots graphs defs a r object p there looks is e s q at same =
    let h = is.lives s q at in
    let k = subst (λ u. option_map reference_to (object_at places u) ≡ Some q) same h in
    e ∙ ap (λ x. Some x) (sym (same-reference (object_at places r.unit) object r q there looks k))

-- a count is written
pub kept-counted : (places : List UnitPlace) (words : List Word) (slots graphs : List ℕ) (defs : List TypeDef) (a b : ℕ) (r : Reference) (f : Finds places words r) (count : ℕ) → IsWorld places words slots graphs defs a → b ≤ a → 0 < count → times_held r.unit words + f.object.noted ≤ count → (is_some (claim_in (Some f.object)) ≡ true → times_held r.unit words + f.object.noted < count) → ((type_at defs r.def).counted ≡ false → count ≡ 1) → count + b ≤ 2 ^ 30 + 1 → IsWorld (changed r.unit (with_count count) places) words slots graphs defs b
kept-counted places words slots graphs defs a b r f count is le some slots_hold owned single room =
    rw (changed-is places r.unit (with_count count) f.object f.at)
    (place-written places words slots graphs defs a b r.unit (Lives (with_count count f.object)) is (object-within places r.unit f.object f.at) le
    (λ object e. (let same : with_count count f.object ≡ object = cc in subst (λ o. IsAlive graphs defs words b r.unit o) same alive))
    (still-named places words slots graphs defs a r f.object (Lives (with_count count f.object)) f.at f.is is (ap (λ x. Some x) f.is)))
  where
    was : IsAlive graphs defs words a r.unit f.object
    was = is.alive r.unit f.object f.at

    alive : IsAlive graphs defs words b r.unit (with_count count f.object)
    alive = record {
      number = was.number;
      unsealed = was.unsealed;
      life = was.life;
      class = was.class;
      fields = was.fields;
      some = some;
      slots = slots_hold;
      single = λ h. single (rw (← f.is) h);
      owned = owned;
      noted = was.noted;
      graph = was.graph;
      room = room;
    }

-- an owner is written
pub kept-owner : (places : List UnitPlace) (words : List Word) (slots graphs : List ℕ) (defs : List TypeDef) (a : ℕ) (r : Reference) (f : Finds places words r) (owner : Option ℕ) → IsWorld places words slots graphs defs a → f.object.carried ≡ false → ((g : ℕ) → owner ≡ Some g → IsGraphOf graphs r.def g) → IsWorld (changed r.unit (with_owner owner) places) words slots graphs defs a
kept-owner places words slots graphs defs a r f owner is free of_type =
    rw (changed-is places r.unit (with_owner owner) f.object f.at)
    (place-written places words slots graphs defs a a r.unit (Lives (with_owner owner f.object)) is (object-within places r.unit f.object f.at) (omega arith)
    (λ object e. (let same : with_owner owner f.object ≡ object = cc in subst (λ o. IsAlive graphs defs words a r.unit o) same alive))
    (still-named places words slots graphs defs a r f.object (Lives (with_owner owner f.object)) f.at f.is is (ap (λ x. Some x) f.is)))
  where
    was : IsAlive graphs defs words a r.unit f.object
    was = is.alive r.unit f.object f.at

    alive : IsAlive graphs defs words a r.unit (with_owner owner f.object)
    alive = record {
      number = was.number;
      unsealed = was.unsealed;
      life = was.life;
      class = was.class;
      fields = was.fields;
      some = was.some;
      slots = was.slots;
      single = was.single;
      owned = λ h. f.more;
      noted = λ h. (let k : f.object.carried ≡ true = h in let l = free in absurd (cc));
      graph = λ g e. subst (λ d. IsGraphOf graphs d g) (sym (ap (λ (q : Reference). q.def) f.is)) (of_type g e);
      room = was.room;
    }

-- the last reference ends
pub kept-ended : (places : List UnitPlace) (words : List Word) (slots graphs : List ℕ) (defs : List TypeDef) (a : ℕ) (r : Reference) (f : Finds places words r) (life : ℕ) → f.object.count ≤ 1 → IsWorld places words slots graphs defs a → IsWorld (set places r.unit (Free life)) words slots graphs defs a
kept-ended places words slots graphs defs a r f life last is =
    place-written places words slots graphs defs a a r.unit (Free life) is (object-within places r.unit f.object f.at) (omega arith)
    (λ object e. absurd (cc))
    (λ s q at same. (let h = rw same at (held-once words s q at) in let m = f.more in absurd (omega arith)))

-- a place without an object
free-place : (o : Option UnitPlace) (life : ℕ) → begun_in o ≡ Some life → o ≡ Some (Free life)
free-place None life e = absurd (cc)
free-place (Some (Free begun)) life e = (let h : begun ≡ life = cc in ap (λ k. Some (Free k)) h)
free-place (Some (Lives object)) life e = absurd (cc)

pub mine-free : (places : List UnitPlace) (u life : ℕ) → begun_in (slice_get places u) ≡ Some life → slice_get places u ≡ Some (Free life)
mine-free places u life e = free-place (slice_get places u) life e

pub mine-none : (places : List UnitPlace) (u life : ℕ) → begun_in (slice_get places u) ≡ Some life → object_at places u ≡ None
mine-none places u life e = ap object_in (mine-free places u life e)

pub mine-within : (places : List UnitPlace) (u life : ℕ) → begun_in (slice_get places u) ≡ Some life → u < length places
mine-within places u life e = get-within places u (Free life) (mine-free places u life e)

-- what is no object is in no slot
pub none-held : (places : List UnitPlace) (words : List Word) (slots graphs : List ℕ) (defs : List TypeDef) (a u : ℕ) → IsWorld places words slots graphs defs a → object_at places u ≡ None → times_held u words ≡ 0
none-held places words slots graphs defs a u is none = elim (cases_lt 0 (times_held u words)) [
  | inl y ↦ (let w = held-where words u y in let h = is.lives w.0 w.1 w.2 in let k = subst (λ n. option_map reference_to (object_at places n) ≡ Some w.1) w.3 h in absurd (not-named (object_at places u) w.1 none k))
  | inr y ↦ omega arith
]
  where
    not-named : (o : Option Object) (q : Reference) → o ≡ None → option_map reference_to o ≡ Some q → ⊥
    not-named None q e h = cc
    not-named (Some other) q e h = cc

-- an object is made
pub kept-made : (places : List UnitPlace) (words : List Word) (slots graphs : List ℕ) (defs : List TypeDef) (a : ℕ) (unit : UnitState) (def : ℕ) (values : List ℕ) → begun_in (slice_get places unit.number) ≡ Some unit.life → unit.life < 262143 → class_of_size (type_size (type_at defs def)) ≡ Some unit.class → length values ≡ (type_at defs def).fields → 1 + a ≤ 2 ^ 30 + 1 → IsWorld places words slots graphs defs a → IsWorld (set places unit.number (Lives (new_object unit def values))) words slots graphs defs a
kept-made places words slots graphs defs a unit def values mine life class fields room is =
    place-written places words slots graphs defs a a u (Lives (new_object unit def values)) is (mine-within places u unit.life mine) (omega arith)
    (λ object e. (let same : new_object unit def values ≡ object = cc in subst (λ o. IsAlive graphs defs words a u o) same alive))
    (λ s q at same. (let h = rw same at (held-once words s q at) in let m = none in absurd (omega arith)))
  where
    u : ℕ
    u = unit.number

    none : times_held unit.number words ≡ 0
    none = none-held places words slots graphs defs a unit.number is (mine-none places unit.number unit.life mine)

    alive : IsAlive graphs defs words a unit.number (new_object unit def values)
    alive = record {
      number = refl;
      unsealed = refl;
      life = omega arith;
      class = class;
      fields = fields;
      some = omega arith;
      slots = (let m = none in omega arith);
      single = λ h. refl;
      owned = λ h. absurd (cc);
      noted = λ h. absurd (cc);
      graph = λ g e. absurd (cc);
      room = room;
    }

-- a graph that owns an object is of its type
pub owner-type : (places : List UnitPlace) (words : List Word) (slots graphs : List ℕ) (defs : List TypeDef) (a : ℕ) (r : Reference) (object : Object) (g : ℕ) → IsWorld places words slots graphs defs a → Finds places words r → object_at places r.unit ≡ Some object → object.owner ≡ Some g → IsGraphOf graphs r.def g
owner-type places words slots graphs defs a r object g is f at owned =
    let fat = f.at in
    let same : f.object ≡ object = cc in
    let def : object.def ≡ r.def = ap (λ (o : Object). o.def) (sym same) ∙ ap (λ (q : Reference). q.def) f.is in
    subst (λ d. IsGraphOf graphs d g) def ((is.alive r.unit object at).graph g owned)

-- an object has a value for each field
pub field-count : (places : List UnitPlace) (words : List Word) (slots graphs : List ℕ) (defs : List TypeDef) (a : ℕ) (r : Reference) (object : Object) → IsWorld places words slots graphs defs a → Finds places words r → object_at places r.unit ≡ Some object → length object.values ≡ (type_at defs r.def).fields
field-count places words slots graphs defs a r object is f at =
    let fat = f.at in
    let same : f.object ≡ object = cc in
    let def : object.def ≡ r.def = ap (λ (o : Object). o.def) (sym same) ∙ ap (λ (q : Reference). q.def) f.is in
    subst (λ d. length object.values ≡ (type_at defs d).fields) def (is.alive r.unit object at).fields

-- ---- notes

-- Whoever has a note finds the object that it carries.
pub record FindsNoted (places : List UnitPlace) (c : Carried) : Type 0 where
  pub object : Object
  pub at : object_at places c.to.unit ≡ Some object
  pub is : reference_to object ≡ c.to
  pub some : 0 < object.noted
  pub claim : IsClaimNoted c.claim (noted_in (Some object))

pub finds-noted : (places : List UnitPlace) (c : Carried) → IsNoted c (noted_in (object_at places c.to.unit)) → FindsNoted places c
finds-noted places c e = go (object_at places c.to.unit) refl e
  where
    go : (o : Option Object) → object_at places c.to.unit ≡ o → IsNoted c (noted_in o) → FindsNoted places c
    go None is e = (let h = e.0 in absurd (cc))
    go (Some object) is e =
        let h = has-some c.to (reference_to object) object.noted e.0 in
        record { object = object; at = is; is = h.0; some = h.1; claim = e.1 }

-- how much of an object is in notes is written
pub kept-noted : (places : List UnitPlace) (words : List Word) (slots graphs : List ℕ) (defs : List TypeDef) (a : ℕ) (r : Reference) (object : Object) (noted : ℕ) (carried : Bool) → object_at places r.unit ≡ Some object → reference_to object ≡ r → IsWorld places words slots graphs defs a → times_held r.unit words + noted ≤ object.count → (is_some (if carried then None else object.owner) ≡ true → times_held r.unit words + noted < object.count) → (carried ≡ true → (0 < noted) × (is_some object.owner ≡ true)) → IsWorld (changed r.unit (with_noted noted carried) places) words slots graphs defs a
kept-noted places words slots graphs defs a r object noted carried at looks is most owned in_note =
    rw (changed-is places r.unit (with_noted noted carried) object at)
    (place-written places words slots graphs defs a a r.unit (Lives (with_noted noted carried object)) is (object-within places r.unit object at) (omega arith)
    (λ o e. (let same : with_noted noted carried object ≡ o = cc in subst (λ x. IsAlive graphs defs words a r.unit x) same alive))
    (still-named places words slots graphs defs a r object (Lives (with_noted noted carried object)) at looks is (ap (λ x. Some x) looks)))
  where
    was : IsAlive graphs defs words a r.unit object
    was = is.alive r.unit object at

    alive : IsAlive graphs defs words a r.unit (with_noted noted carried object)
    alive = record {
      number = was.number;
      unsealed = was.unsealed;
      life = was.life;
      class = was.class;
      fields = was.fields;
      some = was.some;
      slots = most;
      single = was.single;
      owned = owned;
      noted = in_note;
      graph = was.graph;
      room = was.room;
    }

-- .. where a reference goes into a note
pub kept-put : (places : List UnitPlace) (words : List Word) (slots graphs : List ℕ) (defs : List TypeDef) (a : ℕ) (r : Reference) (f : Finds places words r) → IsWorld places words slots graphs defs a → IsWorld (changed r.unit (with_noted (f.object.noted + 1) (is_some f.object.owner)) places) words slots graphs defs a
kept-put places words slots graphs defs a r f is =
    let more = f.more in
    kept-noted places words slots graphs defs a r f.object (f.object.noted + 1) (is_some f.object.owner) f.at f.is is (omega arith) (λ h. absurd (all-put f.object.owner h)) (λ h. (omega arith, h))
  where
    all-put : (o : Option ℕ) → is_some (if is_some o then None else o) ≡ true → ⊥
    all-put None h = cc
    all-put (Some g) h = cc

-- .. and where it comes out of it
pub kept-taken : (places : List UnitPlace) (words : List Word) (slots graphs : List ℕ) (defs : List TypeDef) (a : ℕ) (c : Carried) (f : FindsNoted places c) → IsWorld places words slots graphs defs a → IsWorld (changed c.to.unit (with_noted (f.object.noted - 1) (still_carried c.claim f.object.carried)) places) words slots graphs defs a
kept-taken places words slots graphs defs a c f is =
    let some = f.some in
    let was = is.alive c.to.unit f.object f.at in
    let most = was.slots in
    kept-noted places words slots graphs defs a c.to f.object (f.object.noted - 1) (still_carried c.claim f.object.carried) f.at f.is is (omega arith) (λ h. omega arith) (left c.claim f.claim)
  where
    was_noted : f.object.carried ≡ true → (0 < f.object.noted) × (is_some f.object.owner ≡ true)
    was_noted = (is.alive c.to.unit f.object f.at).noted

    left : (claim : Option ℕ) → IsClaimNoted claim (noted_in (Some f.object)) → still_carried claim f.object.carried ≡ true → (0 < f.object.noted - 1) × (is_some f.object.owner ≡ true)
    left None e h =
        let owned = (was_noted h).1 in
        let k : is_some (if f.object.carried then f.object.owner else None) ≡ true = rw h owned in
        let two = e k in
        let n = count-some (reference_to f.object) f.object.noted in
        (omega arith, owned)
    left (Some g) e h = absurd (cc)

-- a note with a claim carries the owner
pub noted-owner : (c : Carried) (object : Object) → IsClaimNoted c.claim (noted_in (Some object)) → (graph : ℕ) → c.claim ≡ Some graph → object.owner ≡ Some graph
noted-owner c object is graph e =
    let k : IsClaimNoted (Some graph) (noted_in (Some object)) = subst (λ x. IsClaimNoted x (noted_in (Some object))) e is in
    go object.carried object.owner k
  where
    go : (carried : Bool) (owner : Option ℕ) → (if carried then owner else None) ≡ Some graph → owner ≡ Some graph
    go true owner e = e
    go false owner e = absurd (cc)

-- what is said of an object's owner and its values, by what references to it look like
pub owner-of : (places : List UnitPlace) (words : List Word) (slots graphs : List ℕ) (defs : List TypeDef) (a : ℕ) (r : Reference) (object : Object) (g : ℕ) → IsWorld places words slots graphs defs a → object_at places r.unit ≡ Some object → reference_to object ≡ r → object.owner ≡ Some g → IsGraphOf graphs r.def g
owner-of places words slots graphs defs a r object g is at looks owned =
    subst (λ d. IsGraphOf graphs d g) (ap (λ (q : Reference). q.def) looks) ((is.alive r.unit object at).graph g owned)

pub fields-of : (places : List UnitPlace) (words : List Word) (slots graphs : List ℕ) (defs : List TypeDef) (a : ℕ) (r : Reference) (object : Object) → IsWorld places words slots graphs defs a → object_at places r.unit ≡ Some object → reference_to object ≡ r → length object.values ≡ (type_at defs r.def).fields
fields-of places words slots graphs defs a r object is at looks =
    subst (λ d. length object.values ≡ (type_at defs d).fields) (ap (λ (q : Reference). q.def) looks) (is.alive r.unit object at).fields

-- ---- a new world

free-of : (n k : ℕ) → object_at (replicate n (Free 0)) k ≡ None
free-of zero k = refl
free-of (suc n) zero = refl
free-of (suc n) (suc k) = free-of n k

empty-of : (n k : ℕ) → word_at (replicate n opening_word) k ≡ None
empty-of zero k = refl
empty-of (suc n) zero = refl
empty-of (suc n) (suc k) = empty-of n k

pub kept-new : (count many : ℕ) (slots graphs : List ℕ) (defs : List TypeDef) (a : ℕ) → many ≡ length slots → count ≤ 2 ^ 16 → a ≤ 2 ^ 30 → ((d : ℕ) → (type_at defs d).fields ≤ 8) → IsWorld (replicate count (Free 0)) (replicate many opening_word) slots graphs defs a
kept-new count many slots graphs defs a same few small fields = record {
  units = rw (length-replicate count (Free 0)) few;
  word_count = length-replicate many opening_word ∙ same;
  fields = fields;
  few = small;
  alive = λ n object e. (let h = free-of count n in absurd (cc));
  lives = λ s r e. (let h = empty-of many s in absurd (cc));
  types = λ s r e. (let h = empty-of many s in absurd (cc));
}
