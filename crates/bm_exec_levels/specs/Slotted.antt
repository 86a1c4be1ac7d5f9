-- What names hold of the objects that live, where slots, lists and trees have references too. (This project's own. In the kernel a slot, a map value's field for a
-- pointer to an object, has a reference of its own, which bpf_kptr_xchg hands over.)
use Rattle.std.specs.Prelude.{◌≡◌, ◌<◌, ◌≤◌, ◌+◌, ℕ, zero, suc, Bool, false, eqb, if◌then◌else◌, List, [], ◌∷◌, map, Option, Some, None, slice_get}
use Rattle.bm_journal.specs.declared.ids.ObjId.{ObjId}
use Rattle.bm_lang.specs.declared.scenario.MapDeclaration.{MapDeclaration}
use Rattle.bm_lang.specs.declared.scenario.MapKind.TheVariants.{Slot}
use Rattle.bm_lang.specs.declared.scenario.TypeDeclaration.{TypeDeclaration}
use Rattle.bm_law_order.specs.Graphs.{NamedGraph, Standing, graph_at, graph_names_in, standing_from}
use Rattle.bm_law_order.specs.Slots.{Named}
use Rattle.bm_law_scenario.specs.Declared.{Declared, graph_kind}
use Rattle.bm_grace.specs.Known.{Living, Lives, Objects}
use Rattle.bm_world.specs.Contents.{names_in, slot_at}
use Rattle.bm_exec.specs.Guarded.{Shelved, shelved_at}
use Rattle.bm_exec.specs.Living.{IsMade, one_less}

-- how many of these slots hold a reference to unit u
abbrev pub is_of : (u : ℕ) → Option ObjId → Bool
is_of u None = false
is_of u (Some x) = eqb x.unit u

abbrev pub times_held : (u : ℕ) → List Named → ℕ
times_held u [] = 0
times_held u (s ∷ ss) = if is_of u s.slot.held then suc (times_held u ss) else times_held u ss

-- so many references less
abbrev pub less_times : ℕ → Option Living → Option Living
less_times zero o = o
less_times (suc k) o = one_less (less_times k o)

-- how many references to an object its list or tree has: one, where it is in one
abbrev pub as_item : Option Standing → ℕ
as_item None = 0
as_item (Some s) = 1

-- how many references to unit u slots, lists and trees have
abbrev pub elsewhere : Objects → (u : ℕ) → ℕ
elsewhere o u = times_held u o.slots + as_item (standing_from 0 o.graphs u)

-- the objects to which names hold references, each with how many of these: all but those that slots, lists and trees have
abbrev pub in_hands : Objects → Lives
in_hands o = λ u. less_times (elsewhere o u) (o.lives u)

-- by unit, the objects that lists and trees have
abbrev pub item_of : Option Standing → Option Living → Option Shelved
item_of None l = None
item_of (Some s) l = shelved_at s.place l

abbrev pub items_in : Objects → ℕ → Option Shelved
items_in o = λ u. item_of (standing_from 0 o.graphs u) (o.lives u)

-- An object that lives was made as one of its type. There are references to it, among them those that slots, lists and trees have; and only one
-- where its type carries no count of them.
pub record IsKept (types : List TypeDeclaration) (held : ℕ) (object : Living) : Type 0 where
  pub made : IsMade types object.class object.type object.values
  pub some : 0 < object.count
  pub most : held ≤ object.count
  pub single : made.declared.counted ≡ false → object.count ≡ 1

-- what the slot at a place holds lives, as an object of the slot's type
pub record IsStocked (maps : List MapDeclaration) (lives : Lives) (place : ℕ) (x : ObjId) :
    Type 0 where
  pub slot : MapDeclaration
  pub found : slice_get maps place ≡ Some slot
  pub object : Living
  pub lives_so : lives x.unit ≡ Some object
  pub life_is : object.life ≡ x.life
  pub type_is : object.type ≡ slot.type_id.0

-- an object that is in a list or tree lives, as one of the type of that
pub record IsItem (maps : List MapDeclaration) (lives : Lives) (u : ℕ) (s : Standing) : Type 0 where
  pub graph : MapDeclaration
  pub found : slice_get maps s.place ≡ Some graph
  pub object : Living
  pub lives_so : lives u ≡ Some object
  pub life_is : object.life ≡ s.life
  pub type_is : object.type ≡ graph.type_id.0

-- the lists and trees that are declared are so
abbrev pub AreKinds : List MapDeclaration → List NamedGraph → Type 0
AreKinds maps graphs =
    (place : ℕ) (m : MapDeclaration) (is_tree : Bool) → slice_get maps place ≡ Some m
    → m.kind ≡ graph_kind is_tree → (graph_at place graphs).is_tree ≡ is_tree

-- at the place of a slot stands an empty list without a history
abbrev pub AreUnused : List MapDeclaration → List NamedGraph → Type 0
AreUnused maps graphs =
    (place : ℕ) (m : MapDeclaration) → slice_get maps place ≡ Some m → m.kind ≡ Slot
    → ((graph_at place graphs).history ≡ []) × ((graph_at place graphs).nodes ≡ [])

-- at the place of a list or tree stands a slot that holds nothing
abbrev pub AreStill : List MapDeclaration → List Named → Type 0
AreStill maps slots =
    (place : ℕ) (m : MapDeclaration) (is_tree : Bool) → slice_get maps place ≡ Some m
    → m.kind ≡ graph_kind is_tree → (slot_at place slots).slot.held ≡ None

-- The slots, lists and trees are those of the declared maps, so it is of each object that lives, of what each slot holds, and of what is in each list
-- and tree.
pub record AreStocked (d : Declared) (o : Objects) : Type 0 where
  pub names : names_in o.slots ≡ map (λ (m : MapDeclaration). m.name) d.maps
  pub graphs : graph_names_in o.graphs ≡ map (λ (m : MapDeclaration). m.name) d.maps
  pub kinds : AreKinds d.maps o.graphs
  pub unused : AreUnused d.maps o.graphs
  pub still : AreStill d.maps o.slots
  pub kept :
      (u : ℕ) (object : Living) → o.lives u ≡ Some object → IsKept d.types (elsewhere o u) object
  pub stocked :
      (place : ℕ) (x : ObjId) → (slot_at place o.slots).slot.held ≡ Some x
      → IsStocked d.maps o.lives place x
  pub items :
      (u : ℕ) (s : Standing) → standing_from 0 o.graphs u ≡ Some s → IsItem d.maps o.lives u s
