-- What the declarations of a text have made known, and how a name is looked up. The rules are this project's own.
use Rattle.std.specs.Prelude.{ℕ, ◌+◌, ◌*◌, Bool, true, false, ◌==◌, ◌&&◌, not, List, [], length, nat_lt, nat_le, Option, Some, None, find}
use Rattle.std.specs.List.{list_any}
use Rattle.std.specs.Str.{bytes_eq}
use Rattle.bm_lang.specs.declared.scenario.Node.{Node}
use Rattle.bm_lang.specs.declared.scenario.Node.TheVariants as node
use Rattle.bm_lang.specs.declared.scenario.MapKind.{MapKind}
use Rattle.bm_lang.specs.declared.scenario.MapKind.TheVariants as map
use Rattle.bm_lang.specs.declared.names.MapNeed.{MapNeed}
use Rattle.bm_lang.specs.declared.names.MapNeed.TheVariants as need
use Rattle.bm_lang.specs.declared.scenario.ScriptKind.{ScriptKind}
use Rattle.bm_lang.specs.declared.scenario.ScriptKind.TheVariants as script

-- a type without its line
pub record TypeForm : Type 0 where
  pub name : List ℕ
  pub counted : Bool
  pub node : Option Node
  pub fields : List (List ℕ)
  pub pad : ℕ

pub record MapForm : Type 0 where
  pub name : List ℕ
  pub kind : MapKind

pub record ScriptForm : Type 0 where
  pub name : List ℕ
  pub kind : ScriptKind

-- what is known at a place of a text; the draft is the type whose declaration is being read
pub record Names : Type 0 where
  pub processors : ℕ
  pub types : List TypeForm
  pub maps : List MapForm
  pub scripts : List ScriptForm
  pub draft : TypeForm

abbrev pub no_draft : TypeForm
no_draft = record { name = []; counted = false; node = None; fields = []; pad = 0 }

abbrev pub no_names : Names
no_names = record { processors = 0; types = []; maps = []; scripts = []; draft = no_draft }

-- the first thing of a kind that has this name
abbrev pub type_named : List TypeForm → List ℕ → Option TypeForm
type_named types n = find (λ t. bytes_eq t.name n) types

abbrev pub map_named : List MapForm → List ℕ → Option MapForm
map_named maps n = find (λ m. bytes_eq m.name n) maps

abbrev pub script_named : List ScriptForm → List ℕ → Option ScriptForm
script_named scripts n = find (λ s. bytes_eq s.name n) scripts

abbrev pub has_name : List (List ℕ) → List ℕ → Bool
has_name names n = list_any (λ x. bytes_eq x n) names

-- The bytes of an object: 8 a field, 24 a list node, 32 a tree node, 8 a reference count, and the pad.
abbrev pub count_size : Bool → ℕ
count_size true = 8
count_size false = 0

abbrev pub node_size : Option Node → ℕ
node_size None = 0
node_size (Some node.List) = 24
node_size (Some node.Tree) = 32

abbrev pub object_size : TypeForm → ℕ
object_size t = 8 * length t.fields + node_size t.node + count_size t.counted + t.pad

abbrev pub has_size : TypeForm → Bool
has_size t = nat_lt 0 (object_size t) && nat_le (object_size t) 4088

abbrev pub is_tree_node : Option Node → Bool
is_tree_node None = false
is_tree_node (Some node.List) = false
is_tree_node (Some node.Tree) = true

abbrev pub is_list_node : Option Node → Bool
is_list_node None = false
is_list_node (Some node.List) = true
is_list_node (Some node.Tree) = false

-- a tree is ordered by its objects' first field
abbrev pub has_key : TypeForm → Bool
has_key t = not (is_tree_node t.node && (length t.fields == 0))

-- whether a map of this kind can hold objects with this node
abbrev pub holds : MapKind → Option Node → Bool
holds map.Slot n = true
holds map.List n = is_list_node n
holds map.Tree n = is_tree_node n

-- whether a map of this kind may stand where one is needed
abbrev pub fits : MapNeed → MapKind → Bool
fits need.Slot map.Slot = true
fits need.Slot map.List = false
fits need.Slot map.Tree = false
fits need.List map.Slot = false
fits need.List map.List = true
fits need.List map.Tree = false
fits need.Tree map.Slot = false
fits need.Tree map.List = false
fits need.Tree map.Tree = true
fits need.Graph map.Slot = false
fits need.Graph map.List = true
fits need.Graph map.Tree = true

abbrev pub is_handler : ScriptKind → Bool
is_handler script.Plain = false
is_handler script.Sleepable = false
is_handler script.Handler = true

-- whether a script is one that runs as a handler, or one that doesn't
abbrev pub runs_as : Bool → ScriptKind → Bool
runs_as true k = is_handler k
runs_as false k = not (is_handler k)
