-- The objects that live, as a side knows them by the numbers of their units. (This project's own.)
use Rattle.std.specs.Prelude.{◌≡◌, ℕ, Option, None, Some, List, [], eqb, if◌then◌else◌}
use Rattle.bm_page.specs.UnitState.{UnitState}
use Rattle.bm_grace.specs.Known.{Living, Lives}

-- the object of this type that a unit is, with so many references and these values
abbrev pub life_of_unit : (type count : ℕ) → (values : List ℕ) → UnitState → Living
life_of_unit type count values unit =
    record {
      class = unit.class;
      life = unit.life;
      home = unit.home;
      type = type;
      count = count;
      values = values;
    }

-- unit u lives life n, and this is its object
pub record HasLife (lives : Lives) (u n : ℕ) (object : Living) : Type 0 where
  pub is : lives u ≡ Some object
  pub life : object.life ≡ n

-- how many references there are to an object; none where there is no object
abbrev pub count_in : Option Living → ℕ
count_in None = 0
count_in (Some object) = object.count

-- the number of its type
abbrev pub type_in : Option Living → ℕ
type_in None = 0
type_in (Some object) = object.type

-- the values of its fields
abbrev pub values_in : Option Living → List ℕ
values_in None = []
values_in (Some object) = object.values

-- the same object with another number of references
abbrev pub with_references : (count : ℕ) → Option Living → Option Living
with_references count None = None
with_references count (Some object) = Some (record object { count = count })

-- by the numbers of units, with another life, or none, of this one
abbrev pub with_life : ℕ → Option Living → Lives → Lives
with_life u l lives = λ v. if eqb u v then l else lives v

-- There are so many references to an object now.
abbrev pub recounted : (n count : ℕ) → Lives → Lives
recounted n count lives = with_life n (with_references count (lives n)) lives
