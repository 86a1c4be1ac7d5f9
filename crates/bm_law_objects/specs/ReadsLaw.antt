-- What is read is what was written: a value of a field is the one with which the object was made. (In the kernel a program reads and
-- writes the fields of what bpf_obj_new_impl gave it; that fields are written only where an object is made is this project's own.)
use Rattle.std.specs.Prelude.{◌≡◌, ℕ, Option, Some, None, List, [], ◌∷◌}
use Rattle.std.specs.List.{slice_get}
use Rattle.bm_journal.specs.declared.entry.Entry.{Entry}
use Rattle.bm_journal.specs.declared.entry.Entry.TheVariants as entry
use Rattle.bm_law.specs.Lists.{Log}
use Rattle.bm_law_lives.specs.Together.{Each, named}
use Rattle.bm_law_order.specs.Orders.{Order}
use Rattle.bm_law_objects.specs.Objects.{Asked, Made}
use Rattle.bm_law_objects.specs.Gathered.{OneOf, last_call, no_call, gathered_by, gathered_over}

-- An object that was made: the unit, and what its life was made of.
pub record Object : Type 0 where
  pub unit : ℕ
  pub made : Made

-- A read of a field, by its place.
pub record Read : Type 0 where
  pub unit : ℕ
  pub life : ℕ
  pub place : ℕ
  pub value : ℕ

abbrev pub read_of : Entry → List Read
read_of (entry.Get u life place value) =
    record { unit = u; life = life; place = place; value = value } ∷ []
read_of _ = []

-- what a call for an object asks for
abbrev pub asked_by : Entry → Option Asked
asked_by (entry.New name values) = Some (record { type_name = name; values = values })
asked_by _ = None

abbrev pub object_of : (u life : ℕ) → Option Asked → List Object
object_of u life None = []
object_of u life (Some asked) =
    record { unit = u; made = record { life = life; asked = asked } } ∷ []

-- the object that a reply gives, where `last` has the last call of each level for an object
abbrev pub given_by : (ℕ → Option Asked) → ℕ × Entry → List Object
given_by last (l, entry.Given u life) = object_of u life (last l)
given_by last (l, entry.GivenAfter u life stamp seen) = object_of u life (last l)
given_by last (l, _) = []

-- those of all logs, and of an order whose levels have begun such calls before
abbrev pub all_objects : List Log → List Object
all_objects logs = gathered_by (last_call asked_by) (λ p. given_by) no_call logs

abbrev pub objects_over : Order → (ℕ → ℕ → Option Asked) → List Object
objects_over o last = gathered_over (last_call asked_by) (λ p. given_by) o last

-- this object was made with the value that is read
pub record Wrote (r : Read) (x : Object) : Type 0 where
  pub unit : x.unit ≡ r.unit
  pub life : x.made.life ≡ r.life
  pub value : slice_get x.made.asked.values r.place ≡ Some r.value

-- Each read of a log finds what an object was made with.
abbrev pub ReadsLaw : List Log → Type 0
ReadsLaw logs = Each (λ r. OneOf (Wrote r) (all_objects logs)) (named read_of logs)

-- ---- at some time

-- the unit's last life is this object, if it has had any
abbrev pub last_object : (u : ℕ) → Option Made → List Object
last_object u None = []
last_object u (Some made) = record { unit = u; made = made } ∷ []
