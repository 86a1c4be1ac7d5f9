-- What one side knows of all objects, and how each call changes it. (This project's own.)
use Rattle.std.specs.Prelude.{◌≡◌, ℕ, zero, suc, ◌+◌, ◌-◌, ◌<◌, ◌≤◌, eqb, if◌then◌else◌, true, false, List, Option, None, Some, IfSome, is_some, length, slice_index, slice_index_or}
use Rattle.std.specs.Option.{option_map, option_map_or}
use Rattle.bm_journal.specs.declared.ids.ObjId.{ObjId}
use Rattle.bm_journal.specs.declared.ids.Tag.{Tag}
use Rattle.bm_page.specs.UnitState.{UnitState}
use Rattle.bm_class.specs.Sizes.{class_of_size}
use Rattle.bm_obj.specs.Notes.{Noted, Page}
use Rattle.bm_obj.specs.Reference.{Held, Reference, id_of}
use Rattle.bm_obj.specs.TypeSize.{type_size}
use Rattle.bm_obj.specs.Waits.{NoOtherWaits, after_claim, after_unclaim}
use Rattle.bm_obj.specs.declared.answer.Claimed.{Claimed}
use Rattle.bm_obj.specs.declared.answer.Claimed.TheVariants.{Won, Taken}
use Rattle.bm_obj.specs.declared.answer.Released.{Released}
use Rattle.bm_obj.specs.declared.answer.Released.TheVariants.{Still, Last}
use Rattle.bm_obj.specs.declared.type_def.TypeDef.{TypeDef}
use Rattle.bm_obj.specs.declared.type_def.Node.TheVariants.{Bare}
use Rattle.bm_obj.specs.declared.waiting.Waiting.{Waiting}

-- What a side knows: its processor; by unit the references that it has, to one life of the unit at a time; of each unit that
-- is its own, so that it may make an object of it, how many lives the unit has begun; by unit the graph for which it has the
-- claim; by slot and by graph the number of its type; the types; how many references it may still acquire; by graph its page, if
-- the side has it; by unit what notes carry, where the side tells it; by graph what waits for its history; and the tag of the last
-- call that was marked.
pub record Known : Type 0 where
  pub processor : ℕ
  pub refs : ℕ → Option Held
  pub mine : ℕ → Option ℕ
  pub claims : ℕ → Option ℕ
  pub slots : List ℕ
  pub graphs : List ℕ
  pub defs : List TypeDef
  pub acquires : ℕ
  pub pages : ℕ → Option Page
  pub notes : Option (ℕ → Noted)
  pub waits : ℕ → Option Waiting
  pub last : Option Tag

-- the type of a number, and one without anything where there is none
abbrev pub type_at : List TypeDef → ℕ → TypeDef
type_at defs d =
    slice_index_or defs d (record { fields = 0; counted = false; node = Bare; pad = 0 })

-- A graph of a type: there is one of this number, and its objects are of that type.
abbrev pub IsGraphOf : List ℕ → ℕ → ℕ → Type 0
IsGraphOf graphs def g = (g < length graphs) × (def ≡ slice_index graphs g)

-- A graph that owns an object is of the object's type.
abbrev pub IsOwnerOf : List ℕ → ℕ → Claimed → Type 0
IsOwnerOf graphs def Won = Unit {0}
IsOwnerOf graphs def (Taken owner) = IsGraphOf graphs def owner

-- This is one of the references that the side has.
abbrev pub Has : Reference → Known → Type 0
Has r k = option_map (λ held. held.to) (k.refs r.unit) ≡ Some r

-- how many references to a unit's life the side has
abbrev pub count_had : ℕ → Known → ℕ
count_had n k = option_map_or (λ held. held.count) (k.refs n) 0

-- While the side has the claim of a life, it keeps a reference to it.
abbrev pub MayGo : Reference → Known → Type 0
MayGo r k = is_some (k.claims r.unit) ≡ true → 1 < count_had r.unit k

-- The side has the page of a graph.
abbrev pub HasPage : ℕ → Known → Type 0
HasPage graph k = is_some (k.pages graph) ≡ true

-- Where the side has the claim of an object, it has the graph's page too, and no change of another object's owner waits there.
abbrev pub MayEnd : Reference → Known → Type 0
MayEnd r k =
    IfSome (k.claims r.unit) (λ graph. HasPage graph k × NoOtherWaits (id_of r) (k.waits graph))

-- The unit of this number is the side's own, and has begun so many lives.
abbrev pub IsMine : UnitState → Known → Type 0
IsMine unit k = k.mine unit.number ≡ Some unit.life

-- another value at one number
abbrev pub at_unit : {A : Type 0} → ℕ → A → (ℕ → A) → ℕ → A
at_unit u x f = λ n. if eqb u n then x else f n

-- so many references to a life; where there are none, nothing is known of it
abbrev pub some_of : Reference → ℕ → Option Held
some_of r zero = None
some_of r (suc count) = Some (record { to = r; count = suc count })

-- one more, and one fewer
abbrev pub more : Reference → Option Held → Option Held
more r None = some_of r 1
more r (Some held) = some_of r (held.count + 1)

abbrev pub fewer : Option Held → Option Held
fewer None = None
fewer (Some held) = some_of held.to (held.count - 1)

-- The side has one reference more, or one fewer.
abbrev pub gained : Reference → Known → Known
gained r k = record k { refs = at_unit r.unit (more r (k.refs r.unit)) k.refs }

abbrev pub spent : Reference → Known → Known
spent r k = record k { refs = at_unit r.unit (fewer (k.refs r.unit)) k.refs }

-- The first reference to the next life of a unit, made as an object of a type.
abbrev pub first_reference : UnitState → ℕ → Reference
first_reference unit def =
    record { unit = unit.number; life = unit.life + 1; def = def; maker = unit.home }

-- An object is made: its unit isn't the side's own any more, and the side has the first reference.
abbrev pub told_made : Reference → Known → Known
told_made r k = gained r (record k { mine = at_unit r.unit None k.mine })

-- One reference more, and one fewer may still be acquired.
abbrev pub told_acquired : Reference → Known → Known
told_acquired r k = gained r (record k { acquires = k.acquires - 1 })

-- One reference fewer. With the last the unit is the side's own, and has begun so many lives as the reference says.
abbrev pub told_released : Reference → Released → Known → Known
told_released r (Still count) k = spent r k
told_released r (Last unit) k = spent r (record k { mine = at_unit r.unit (Some r.life) k.mine })

-- The side gains what the slot held, and has spent what was put. What a reference shows is told by a function.
abbrev pub told_exchanged : {T : Type 0} → (T → Reference) → (put old : Option T) → Known → Known
told_exchanged reference put old k =
    option_map_or (λ r. spent (reference r)) put (λ known. known)
    (option_map_or (λ r. gained (reference r)) old (λ known. known) k)

-- A claim that is won is the side's, and waits for its entry.
abbrev pub told_claimed : Reference → ℕ → Claimed → Known → Known
told_claimed r graph Won k = record k {
  claims = at_unit r.unit (Some graph) k.claims;
  waits = at_unit graph (after_claim (id_of r) (k.waits graph)) k.waits;
}
told_claimed r graph (Taken owner) k = k

-- .. and so does its end
abbrev pub waits_unclaimed : ObjId → Option ℕ → (ℕ → Option Waiting) → ℕ → Option Waiting
waits_unclaimed id None waits = waits
waits_unclaimed id (Some graph) waits = at_unit graph (after_unclaim id (waits graph)) waits

abbrev pub told_unclaimed : Reference → Known → Known
told_unclaimed r k = record k {
  claims = at_unit r.unit None k.claims;
  waits = waits_unclaimed (id_of r) (k.claims r.unit) k.waits;
}

-- The unit of an object that ended: of the number and the life of the last reference, with its maker as home, and without a
-- seal.
pub record IsUnitOf (r : Reference) (unit : UnitState) : Type 0 where
  pub number : unit.number ≡ r.unit
  pub life : unit.life ≡ r.life
  pub home : unit.home ≡ r.maker
  pub seal : unit.seal ≡ None

-- What an answer says. Where the side had so many references to the life, the count that was found is above 1 and at least as
-- many, or the side had one, and it was the last.
abbrev pub IsSeen : ℕ → Released → Type 0
IsSeen had (Still count) = (1 < count) × (had ≤ count)
IsSeen had (Last unit) = had ≡ 1

-- It was the last reference.
abbrev pub IsLast : Released → Type 0
IsLast (Still count) = ⊥
IsLast (Last unit) = Unit {0}

-- It was the last to this unit, which is of the class of its type.
abbrev pub IsLastUnit : List TypeDef → Reference → Released → Type 0
IsLastUnit defs r (Still count) = Unit {0}
IsLastUnit defs r (Last unit) =
    IsUnitOf r unit × (class_of_size (type_size (type_at defs r.def)) ≡ Some unit.class)
