-- The objects that live, by the numbers of their units.
use Rattle.std.specs.Prelude.{◌≡◌, ℕ, List, [], Option, Some, None, slice_get}
use Rattle.bm_page.specs.UnitState.{UnitState}
use Rattle.bm_law_order.specs.Graphs.{Standing as Stood}
use Rattle.bm_world.specs.declared.slots.Object.{Object}

abbrev pub joined : Option (Option Object) → Option Object
joined None = None
joined (Some slot) = slot

-- the object in the slot of its unit's number
abbrev pub object_at : List (Option Object) → ℕ → Option Object
object_at slots n = joined (slice_get slots n)

abbrev pub unit_of : Option Object → Option UnitState
unit_of None = None
unit_of (Some object) = Some object.unit

-- .. and its unit
abbrev pub unit_at : List (Option Object) → ℕ → Option UnitState
unit_at slots n = unit_of (object_at slots n)

-- how many references there are to it
abbrev pub count_of : Option Object → ℕ
count_of None = 0
count_of (Some object) = object.count

-- the values of its fields
abbrev pub values_of : Option Object → List ℕ
values_of None = []
values_of (Some object) = object.values

-- an object that was made just now has one reference, and is in no list or tree
abbrev pub new_object : (type : ℕ) → (values : List ℕ) → UnitState → Object
new_object type values unit =
    record { unit = unit; type_number = type; count = 1; values = values; within = None }

-- the same object with another number of references
abbrev pub with_count : (count : ℕ) → Option Object → Option Object
with_count count None = None
with_count count (Some object) = Some (record object { count = count })

-- the place of the list or tree that it is in, if it is in one
abbrev pub place_within : Option Object → Option ℕ
place_within None = None
place_within (Some object) = object.within

-- .. and so it stands there, in its life
abbrev pub stands_as : (life : ℕ) → Option ℕ → Option Stood
stands_as life None = None
stands_as life (Some place) = Some (record { life = life; place = place })

abbrev pub stands_in : Option Object → Option Stood
stands_in None = None
stands_in (Some object) = stands_as object.unit.life object.within

-- the same object in another list or tree, or in none
abbrev pub with_place : Option ℕ → Option Object → Option Object
with_place within None = None
with_place within (Some object) = Some (record object { within = within })

-- no unit lives
abbrev pub AllEmpty : List (Option Object) → Type 0
AllEmpty slots = (n : ℕ) → unit_at slots n ≡ None
