-- What all objects keep true, over one place or one slot that is written.
use Rattle.std.proofs.Common.{◌≡◌, ◌∙◌, ℕ, ◌+◌, ◌-◌, ◌<◌, ◌≤◌, List, length, length-set, refl, sym, ap, subst, inl, inr, Option, Some, None, arith, set, slice_get, get_or}
use Rattle.std.specs.Prelude.{Bool, IfSome, false, if◌then◌else◌, is_some, true}
use Rattle.std.specs.Option.{option_map, option_map_or}
use Rattle.std.proofs.lemmas.Bool.Decides.{eqb_tells}
use Rattle.bm_class.specs.Sizes.{class_of_size}
use Rattle.bm_obj.specs.Known.{IsUnitOf, some_of, type_at}
use Rattle.bm_obj.specs.TypeSize.{type_size}
use Rattle.bm_obj.specs.Kept.{IsAlive, IsWorld, held_by, word_at}
use Rattle.bm_obj.specs.Reference.{Reference}
use Rattle.bm_obj.specs.Table.{object_at, object_in, reference_to}
use Rattle.bm_obj.specs.WorldState.{Word, claim_in, noted_in, refs_in, times_held}
use Rattle.bm_obj.specs.declared.object.Object.{Object}
use Rattle.bm_obj.specs.declared.object.UnitPlace.{UnitPlace}
use Rattle.bm_obj.specs.declared.type_def.TypeDef.{TypeDef}
use Rattle.bm_obj.proofs.Places.{at-others, at-set, get-other, get-same, get-within}
use Rattle.bm_obj.proofs.Refs.{count-some, has-some, held-no, held-none, held-yes, times-set}

-- whoever has a reference finds its object
pub record Finds (places : List UnitPlace) (words : List Word) (r : Reference) : Type 0 where
  pub object : Object
  pub at : object_at places r.unit ≡ Some object
  pub is : reference_to object ≡ r
  pub more : times_held r.unit words + object.noted < object.count

pub finds : (places : List UnitPlace) (words : List Word) (r : Reference) → option_map (λ held. held.to) (refs_in (times_held r.unit words) (object_in (slice_get places r.unit))) ≡ Some r → Finds places words r
finds places words r e = go (object_at places r.unit) refl e
  where
    go : (o : Option Object) → object_at places r.unit ≡ o → option_map (λ held. held.to) (refs_in (times_held r.unit words) o) ≡ Some r → Finds places words r
    go None is e = absurd (cc)
    go (Some object) is e =
        let h = has-some r (reference_to object) (object.count - (times_held r.unit words + object.noted)) e in
        let some = h.1 in
        record { object = object; at = is; is = h.0; more = omega arith }

-- fewer references may still be acquired
fewer-acquires : (graphs : List ℕ) (defs : List TypeDef) (words : List Word) (a b n : ℕ) (object : Object) → b ≤ a → IsAlive graphs defs words a n object → IsAlive graphs defs words b n object
fewer-acquires graphs defs words a b n object le is = record {
  number = is.number;
  unsealed = is.unsealed;
  life = is.life;
  class = is.class;
  fields = is.fields;
  some = is.some;
  slots = is.slots;
  single = is.single;
  owned = is.owned;
  noted = is.noted;
  graph = is.graph;
  room = (let h = is.room in omega arith);
}

-- one place is written
pub place-written : (places : List UnitPlace) (words : List Word) (slots graphs : List ℕ) (defs : List TypeDef) (a b u : ℕ) (p : UnitPlace) → IsWorld places words slots graphs defs a → u < length places → b ≤ a → ((object : Object) → object_in (Some p) ≡ Some object → IsAlive graphs defs words b u object) → ((s : ℕ) (r : Reference) → word_at words s ≡ Some r → r.unit ≡ u → option_map reference_to (object_in (Some p)) ≡ Some r) → IsWorld (set places u p) words slots graphs defs b
place-written places words slots graphs defs a b u p is inside le alive keeps = record {
  units = (let h = is.units in let e = length-set places u p in omega arith);
  word_count = is.word_count;
  fields = is.fields;
  few = (let h = is.few in omega arith);
  alive = λ n object e. elim (eqb_tells u n) [
    | inl y ↦ (let F : ℕ → Type 0 = λ k. object_at (set places u p) k ≡ Some object → IsAlive graphs defs words b k object in let G : F u = λ at. alive object (sym (at-set places u p inside) ∙ at) in let H : F n = subst F y.1 G in H e)
    | inr y ↦ fewer-acquires graphs defs words a b n object le (is.alive n object (sym (at-others places u n p (λ q. y.1 (sym q))) ∙ e))
  ];
  lives = λ s r e. elim (eqb_tells u r.unit) [
    | inl y ↦ (let F : ℕ → Type 0 = λ k. option_map reference_to (object_at (set places u p) k) ≡ Some r in let G : F u = ap (λ o. option_map reference_to o) (at-set places u p inside) ∙ keeps s r e (sym y.1) in let H : F r.unit = subst F y.1 G in H)
    | inr y ↦ ap (λ o. option_map reference_to o) (at-others places u r.unit p (λ q. y.1 (sym q))) ∙ is.lives s r e
  ];
  types = is.types;
}

-- What is put into a slot: a reference of the slot's type, to an object that has another reference in hands where its claim is in
-- hands.
pub record IsPut (places : List UnitPlace) (words : List Word) (type : ℕ) (r : Reference) : Type 0 where
  pub finds : Finds places words r
  pub type_is : r.def ≡ type
  pub keeps : is_some (claim_in (Some finds.object)) ≡ true → times_held r.unit words + finds.object.noted + 1 < finds.object.count

-- one slot is written
pub word-written : (places : List UnitPlace) (words : List Word) (slots graphs : List ℕ) (defs : List TypeDef) (a s : ℕ) (old new : Word) → IsWorld places words slots graphs defs a → slice_get words s ≡ Some old → ((r : Reference) → new.old ≡ Some r → IsPut places words (get_or slots s 0) r) → IsWorld places (set words s new) slots graphs defs a
word-written places words slots graphs defs a s old new is e put = record {
  units = is.units;
  word_count = length-set words s new ∙ is.word_count;
  fields = is.fields;
  few = is.few;
  alive = λ n object at. alive n object at (is.alive n object at) new.old refl;
  lives = λ t r h. elim (eqb_tells s t) [
    | inl y ↦ (let F : ℕ → Type 0 = λ k. word_at (set words s new) k ≡ Some r → option_map reference_to (object_at places r.unit) ≡ Some r in let G : F s = λ q. here r (sym (ap held_by (get-same words s new inside)) ∙ q) in let H : F t = subst F y.1 G in H h)
    | inr y ↦ is.lives t r (sym (ap held_by (get-other words s t new (λ q. y.1 (sym q)))) ∙ h)
  ];
  types = λ t r h. elim (eqb_tells s t) [
    | inl y ↦ (let F : ℕ → Type 0 = λ k. word_at (set words s new) k ≡ Some r → r.def ≡ get_or slots k 0 in let G : F s = λ q. (put r (sym (ap held_by (get-same words s new inside)) ∙ q)).type_is in let H : F t = subst F y.1 G in H h)
    | inr y ↦ is.types t r (sym (ap held_by (get-other words s t new (λ q. y.1 (sym q)))) ∙ h)
  ];
}
  where
    inside : s < length words
    inside = get-within words s old e

    here : (r : Reference) → new.old ≡ Some r → option_map reference_to (object_at places r.unit) ≡ Some r
    here r q = let p = (put r q).finds in rw (p.at) (ap (λ x. Some x) p.is)

    with-times : (n : ℕ) (object : Object) → IsAlive graphs defs words a n object → times_held n (set words s new) + object.noted ≤ object.count → (is_some (claim_in (Some object)) ≡ true → times_held n (set words s new) + object.noted < object.count) → IsAlive graphs defs (set words s new) a n object
    with-times n object is most owned = record {
      number = is.number;
      unsealed = is.unsealed;
      life = is.life;
      class = is.class;
      fields = is.fields;
      some = is.some;
      slots = most;
      single = is.single;
      owned = owned;
      noted = is.noted;
      graph = is.graph;
      room = is.room;
    }

    alive : (n : ℕ) (object : Object) → object_at places n ≡ Some object → IsAlive graphs defs words a n object → (o : Option Reference) → new.old ≡ o → IsAlive graphs defs (set words s new) a n object
    alive n object at was None q =
        let no = held-none n new q in
        let t = times-set words s n old new e in
        let most = was.slots in
        with-times n object was (omega arith) (λ h. (let k = was.owned h in omega arith))
    alive n object at was (Some r) q = elim (eqb_tells r.unit n) [
      | inl y ↦ (
          let one = held-yes n new r q y.1 in
          let t = times-set words s n old new e in
          let p = put r q in
          let same : object_at places n ≡ Some p.finds.object = subst (λ k. object_at places k ≡ Some p.finds.object) y.1 p.finds.at in
          let is : p.finds.object ≡ object = cc in
          let room : times_held n words + object.noted < object.count = rw (← is, ← y.1) p.finds.more in
          let keeps : is_some (claim_in (Some object)) ≡ true → times_held n words + object.noted + 1 < object.count = rw (← is, ← y.1) p.keeps in
          with-times n object was (omega arith) (λ h. (let k = keeps h in omega arith)))
      | inr y ↦ (
          let no = held-no n new r q y.1 in
          let t = times-set words s n old new e in
          let most = was.slots in
          with-times n object was (omega arith) (λ h. (let k = was.owned h in omega arith)))
    ]

-- A reference that may go: where the object's claim is in hands there is another one in hands.
pub may-go : (places : List UnitPlace) (words : List Word) (r : Reference) (f : Finds places words r) → (is_some (claim_in (object_in (slice_get places r.unit))) ≡ true → 1 < option_map_or (λ held. held.count) (refs_in (times_held r.unit words) (object_in (slice_get places r.unit))) 0) → is_some (claim_in (Some f.object)) ≡ true → times_held r.unit words + f.object.noted + 1 < f.object.count
may-go places words r f keeps owned =
    let k : is_some (claim_in (Some f.object)) ≡ true → 1 < option_map_or (λ held. held.count) (some_of (reference_to f.object) (f.object.count - (times_held r.unit words + f.object.noted))) 0 = rw f.at at keeps in
    let h = k owned in
    let e = count-some (reference_to f.object) (f.object.count - (times_held r.unit words + f.object.noted)) in
    omega arith

-- where it is the last, the claim isn't
pub last-free : (o : Option ℕ) → (is_some o ≡ true → ⊥) → o ≡ None
last-free None h = refl
last-free (Some g) h = absurd (h refl)

-- the unit of an object, as its references tell it
pub unit-of : (graphs : List ℕ) (defs : List TypeDef) (words : List Word) (a : ℕ) (r : Reference) (object : Object) → IsAlive graphs defs words a r.unit object → reference_to object ≡ r → IsUnitOf r object.unit × (class_of_size (type_size (type_at defs r.def)) ≡ Some object.unit.class)
unit-of graphs defs words a r object is e = (
  record { number = is.number; life = ap (λ (q : Reference). q.life) e; home = ap (λ (q : Reference). q.maker) e; seal = is.unsealed },
  (let d : object.def ≡ r.def = ap (λ (q : Reference). q.def) e in rw (← d) is.class),
)

-- what is said of an option's value
pub if-some : {A : Type 0} (o : Option A) (P : A → Type 0) → IfSome o P → (r : A) → o ≡ Some r → P r
if-some None P h r e = absurd (cc)
if-some (Some q) P h r e = (let k : q ≡ r = cc in subst P k h)

pub some-if : {A : Type 0} (o : Option A) (P : A → Type 0) → ((r : A) → o ≡ Some r → P r) → IfSome o P
some-if None P h = tt
some-if (Some q) P h = h q refl

-- how many references the side has
pub had-is : (places : List UnitPlace) (words : List Word) (r : Reference) (f : Finds places words r) → option_map_or (λ held. held.count) (refs_in (times_held r.unit words) (object_in (slice_get places r.unit))) 0 ≡ f.object.count - (times_held r.unit words + f.object.noted)
had-is places words r f = rw f.at (count-some (reference_to f.object) (f.object.count - (times_held r.unit words + f.object.noted)))

-- where the claim isn't in hands and nothing is in notes, no graph owns the object
pub free-of-notes : (graphs : List ℕ) (defs : List TypeDef) (words : List Word) (a n : ℕ) (object : Object) → IsAlive graphs defs words a n object → object.noted ≡ 0 → object.carried ≡ false
free-of-notes graphs defs words a n object is none = go object.carried refl
  where
    go : (b : Bool) → object.carried ≡ b → b ≡ false
    go false e = refl
    go true e = let h = (is.noted e).0 in absurd (omega arith)

pub no-notes : (object : Object) → object.noted ≡ 0 → object.carried ≡ false → noted_in (Some object) ≡ noted_in None
no-notes object e f = rw (e, f) refl

-- an object without an owner has no claim in a note
pub free-of-claims : (graphs : List ℕ) (defs : List TypeDef) (words : List Word) (a n : ℕ) (object : Object) → IsAlive graphs defs words a n object → object.owner ≡ None → object.carried ≡ false
free-of-claims graphs defs words a n object is none = go object.carried refl
  where
    go : (b : Bool) → object.carried ≡ b → b ≡ false
    go false e = refl
    go true e = (let h = (is.noted e).1 in let k = rw none at h in absurd (cc))

-- a claim in hands is the owner, and isn't in a note
pub claim-held : (object : Object) (graph : ℕ) → claim_in (Some object) ≡ Some graph → (object.carried ≡ false) × (object.owner ≡ Some graph)
claim-held object graph e = go object.carried refl
  where
    go : (b : Bool) → object.carried ≡ b → (object.carried ≡ false) × (object.owner ≡ Some graph)
    go true h = (let k : (if true then None else object.owner) ≡ Some graph = rw h at e in absurd (cc))
    go false h = (h, (let k : (if false then None else object.owner) ≡ Some graph = rw h at e in k))

-- .. and without a claim in a note it is the owner
pub claim-free : (object : Object) → object.carried ≡ false → claim_in (Some object) ≡ object.owner
claim-free object e = rw e refl

-- what is some value is one
pub some-value : {A : Type 0} (o : Option A) → is_some o ≡ true → (x : A) × (o ≡ Some x)
some-value None e = absurd (cc)
some-value (Some x) e = (x, refl)
