-- Objects by the numbers of their units.
use Rattle.std.specs.Prelude.{ℕ, Bool, List, Option, None, Some, slice_get, slice_set}
use Rattle.bm_obj.specs.Reference.{Reference}
use Rattle.bm_obj.specs.declared.object.Object.{Object}
use Rattle.bm_obj.specs.declared.object.UnitPlace.{UnitPlace}
use Rattle.bm_obj.specs.declared.object.UnitPlace.TheVariants.{Free, Lives}

-- the object in a place, if there is such a place and an object in it
abbrev pub object_in : Option UnitPlace → Option Object
object_in None = None
object_in (Some (Free begun)) = None
object_in (Some (Lives object)) = Some object

abbrev pub object_at : List UnitPlace → ℕ → Option Object
object_at places n = object_in (slice_get places n)

-- how many lives a unit has begun that is no object now, if there is such a place
abbrev pub begun_in : Option UnitPlace → Option ℕ
begun_in None = None
begun_in (Some (Free begun)) = Some begun
begun_in (Some (Lives object)) = None

-- the places with the object of a unit changed, if it is one
abbrev pub changed_in : (Object → Object) → Option UnitPlace → ℕ → List UnitPlace → List UnitPlace
changed_in f None n places = places
changed_in f (Some (Free begun)) n places = places
changed_in f (Some (Lives object)) n places = slice_set places n (Lives (f object))

abbrev pub changed : ℕ → (Object → Object) → List UnitPlace → List UnitPlace
changed n f places = changed_in f (slice_get places n) n places

-- an object with another count, another owner, or otherwise in notes
abbrev pub with_count : ℕ → Object → Object
with_count count object = record object { count = count }

abbrev pub with_owner : Option ℕ → Object → Object
with_owner owner object = record object { owner = owner }

abbrev pub with_noted : ℕ → Bool → Object → Object
with_noted noted carried object = record object { noted = noted; carried = carried }

-- the references to an object all look so
abbrev pub reference_to : Object → Reference
reference_to object =
    record {
      unit = object.unit.number;
      life = object.unit.life;
      def = object.def;
      maker = object.unit.home;
    }
