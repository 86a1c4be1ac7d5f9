-- What the statements of a scenario's scripts may name: its types and its maps; and the list or tree whose lock is held around them. (This project's own language. A slot stands for a map value's
-- field that holds a pointer to an object: struct btf_field of type BPF_KPTR_REF in the kernel.)
use Rattle.std.specs.Prelude.{◌≡◌, ℕ, Bool, true, false, List, [], None, Option, Some, slice_get}
use Rattle.bm_lang.specs.declared.scenario.MapDeclaration.{MapDeclaration}
use Rattle.bm_lang.specs.declared.scenario.MapId.{MapId}
use Rattle.bm_lang.specs.declared.scenario.MapKind.{MapKind}
use Rattle.bm_lang.specs.declared.scenario.MapKind.TheVariants.{Slot}
use Rattle.bm_lang.specs.declared.scenario.MapKind.TheVariants as kind
use Rattle.bm_lang.specs.declared.scenario.Parts.{Parts}
use Rattle.bm_lang.specs.declared.scenario.TypeDeclaration.{TypeDeclaration}

pub record Declared : Type 0 where
  pub types : List TypeDeclaration
  pub maps : List MapDeclaration
  pub lock : Option MapId

-- the same, under a lock or under none
abbrev pub under : Option MapId → Declared → Declared
under lock d = record d { lock = lock }

abbrev pub declared_in : Parts → Declared
declared_in s = record { types = s.types; maps = s.maps; lock = None }

-- map m is a slot that is declared so: with its name, and the type of what it holds
pub record IsSlot (maps : List MapDeclaration) (m : ℕ) (slot : MapDeclaration) : Type 0 where
  pub found : slice_get maps m ≡ Some slot
  pub kind : slot.kind ≡ Slot

-- a tree, or else a list
abbrev pub graph_kind : (is_tree : Bool) → MapKind
graph_kind true = kind.Tree
graph_kind false = kind.List

-- map m is a list, or a tree, that is declared so
pub record IsGraph (maps : List MapDeclaration) (is_tree : Bool) (m : ℕ) (graph : MapDeclaration) :
    Type 0 where
  pub found : slice_get maps m ≡ Some graph
  pub kind : graph.kind ≡ graph_kind is_tree

-- types, and no map
abbrev pub unmapped : List TypeDeclaration → Declared
unmapped types = record { types = types; maps = []; lock = None }
