-- What the names of a running script hold. (This project's own.)
use Rattle.std.specs.Prelude.{ℕ, List, if◌then◌else◌}
use Rattle.std.specs.Str.{bytes_eq}
use Rattle.bm_lang.specs.declared.scenario.MapId.{MapId}
use Rattle.bm_lang.specs.declared.scenario.TypeId.{TypeId}

-- nothing, null, or a reference to an object: its type, its unit, and which life of the unit it is; or a non-owning one, to an object that is in
-- this list or tree
pub data Held : Type 0 where
  Nothing : Held
  Null : Held
  Object : (type : TypeId) (unit life : ℕ) → Held
  Soft : (type : TypeId) (graph : MapId) (unit life : ℕ) → Held

-- what each name holds
abbrev pub Names : Type 0
Names = List ℕ → Held

-- no name holds anything
abbrev pub no_names : Names
no_names = λ x. Nothing

-- the same, but that x holds v
abbrev pub with_name : List ℕ → Held → Names → Names
with_name x v names = λ y. if bytes_eq x y then v else names y

-- what is held is no reference, which would have to be given up
abbrev pub OwnsNothing : Held → Type 0
OwnsNothing Nothing = Unit {0}
OwnsNothing Null = Unit {0}
OwnsNothing (Object t u life) = ⊥
OwnsNothing (Soft t graph u life) = Unit {0}

-- A non-owning reference ends, where objects may leave its list or tree. (Documentation/bpf/graph_ds_impl.rst: it is valid within the
-- critical section alone, and no longer once an object was taken.)
abbrev pub soft_spent : Held → Held
soft_spent (Soft t graph u life) = Nothing
soft_spent held = held

abbrev pub soft_ended : Names → Names
soft_ended names = λ x. soft_spent (names x)
