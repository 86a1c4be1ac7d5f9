-- Lists and trees, by the names of their maps: the history of each, where objects stand, and what acts make of them. (Documentation/bpf/graph_ds_impl.rst:
-- an object that a list or tree owns is in no other one. That each keeps a history of its calls is this project's own.)
use Rattle.std.specs.Prelude.{◌≡◌, ℕ, zero, suc, ◌+◌, Bool, ◌||◌, true, false, eqb, if◌then◌else◌, Option, Some, None, List, [], ◌∷◌, ◌++◌, drop, get_or, length, map}
use Rattle.std.specs.Option.{is_some}
use Rattle.std.specs.Str.{bytes_eq}
use Rattle.bm_journal.specs.declared.ids.ObjId.{ObjId}
use Rattle.bm_journal.specs.declared.ids.Tag.{Tag}
use Rattle.bm_journal.specs.declared.past.Past.{Past}
use Rattle.bm_journal.specs.declared.past.PastCall.{PastCall}
use Rattle.bm_journal.specs.declared.past.PastCall.TheVariants as past
use Rattle.bm_graph.specs.Objects.{Node, list_object, tree_object, with_node, without_node}
use Rattle.bm_graph.specs.Replay.{replay}
use Rattle.bm_law_order.specs.Act.{Act}
use Rattle.bm_law_order.specs.Act as act

-- a name's place among the names of maps; their number where it isn't there
abbrev pub place_of : List (List ℕ) → List ℕ → ℕ
place_of [] name = 0
place_of (n ∷ ns) name = if bytes_eq n name then 0 else place_of ns name + 1

-- What a call does to an object: it puts it in, takes it out, or is refused since the object is in a list or tree already, with the
-- place of that one; or it looks, or finds none.
pub data Effect : Type 0 where
  Puts : ObjId → Effect
  Takes : ObjId → Effect
  Refuses : ObjId → ℕ → Effect
  Looks : Effect

abbrev pub effect_of : PastCall → Effect
effect_of (past.PushFront id) = Puts id
effect_of (past.PushBack id) = Puts id
effect_of (past.Add id key) = Puts id
effect_of (past.PushFrontAlready id owner) = Refuses id owner
effect_of (past.PushBackAlready id owner) = Refuses id owner
effect_of (past.AddAlready id key owner) = Refuses id owner
effect_of (past.PopFront id) = Takes id
effect_of (past.PopBack id) = Takes id
effect_of (past.Remove id) = Takes id
effect_of _ = Looks

-- Where an object stands: the life that its unit has, and the list or tree, by its place among the names of maps.
pub record Standing : Type 0 where
  pub life : ℕ
  pub place : ℕ

-- By name the history of a list or tree so far, and by unit where the object in it stands, if it is in a list or tree.
pub record Shelf : Type 0 where
  pub histories : List ℕ → List Past
  pub within : ℕ → Option Standing

-- each list and tree is empty
abbrev pub empty_shelf : Shelf
empty_shelf = record { histories = λ name. []; within = λ u. None }

-- Each reply of a history is right, of a list or of a tree.
abbrev pub Replays : List Past → Type 0
Replays history =
    (is_some (replay list_object history) || is_some (replay tree_object history)) ≡ true

-- one more call in the history of this name
abbrev pub recorded : (name : List ℕ) → Past → (List ℕ → List Past) → List ℕ → List Past
recorded name p histories other =
    if bytes_eq name other then histories other ++ p ∷ [] else histories other

abbrev pub moved : (place : ℕ) → Effect → (ℕ → Option Standing) → ℕ → Option Standing
moved place (Puts id) within u =
    if eqb u id.unit then Some (record { life = id.life; place = place }) else within u
moved place (Takes id) within u = if eqb u id.unit then None else within u
moved place _ within u = within u

-- What is put in stands in no list or tree; what is taken stands in this one; and a refused push names the one in which it stands.
abbrev pub EffectFits : (place : ℕ) → Effect → (ℕ → Option Standing) → Type 0
EffectFits place (Puts id) within = within id.unit ≡ None
EffectFits place (Takes id) within =
    within id.unit ≡ Some (record { life = id.life; place = place })
EffectFits place (Refuses id owner) within =
    within id.unit ≡ Some (record { life = id.life; place = owner })
EffectFits place Looks within = Unit {0}

-- The call with this tag on the list or tree of this name, among these names of maps, of which it is the next one: its position is the
-- number of calls on it before, its reply is right after these, and what it does to its object fits where that stands.
pub record Calls (names : List (List ℕ)) (name : List ℕ) (position : ℕ) (call : PastCall)
    (tag : Tag) (before now : Shelf) : Type 0 where
  pub at : position ≡ length (before.histories name)
  pub right : Replays (before.histories name ++ record { tag = tag; call = call } ∷ [])
  pub fits : EffectFits (place_of names name) (effect_of call) before.within
  pub histories : now.histories ≡ recorded name (record { tag = tag; call = call }) before.histories
  pub within : now.within ≡ moved (place_of names name) (effect_of call) before.within

-- Lists and trees before an act and after it.
abbrev pub CalledBy : List (List ℕ) → Act → (before now : Shelf) → Type 0
CalledBy names (act.Calls name position call tag) before now =
    Calls names name position call tag before now
CalledBy names _ before now = now ≡ before

-- .. and of some acts, in order
abbrev pub GraphsLead : List (List ℕ) → List Act → (before now : Shelf) → Type 0
GraphsLead names [] before now = now ≡ before
GraphsLead names (a ∷ more) before now =
    (mid : Shelf) × (CalledBy names a before mid × GraphsLead names more mid now)

-- ---- lists and trees by their places among the maps, each with its name

-- The name, the history, and the objects that are in it, with their keys; those of a list have the key 0. At the place of a slot stands an
-- empty one.
pub record NamedGraph : Type 0 where
  pub name : List ℕ
  pub is_tree : Bool
  pub history : List Past
  pub nodes : List Node

-- the history of the list or tree of this name; that of another name is empty
abbrev pub history_in : List NamedGraph → List ℕ → List Past
history_in [] name = []
history_in (g ∷ gs) name = if bytes_eq g.name name then g.history else history_in gs name

-- the life of the object of unit u that is among these nodes, if one is
abbrev pub life_among : (u : ℕ) → List Node → Option ℕ
life_among u [] = None
life_among u (n ∷ ns) = if eqb n.id.unit u then Some n.id.life else life_among u ns

-- where the object of unit u stands among these lists and trees, of which the first has this place
abbrev pub standing_or : (place : ℕ) → Option ℕ → Option Standing → Option Standing
standing_or place None others = others
standing_or place (Some life) others = Some (record { life = life; place = place })

abbrev pub standing_from : (place : ℕ) → List NamedGraph → (u : ℕ) → Option Standing
standing_from place [] u = None
standing_from place (g ∷ gs) u =
    standing_or place (life_among u g.nodes) (standing_from (place + 1) gs u)

-- what such lists and trees are
abbrev pub shelf_of : List NamedGraph → Shelf
shelf_of graphs = record { histories = history_in graphs; within = standing_from 0 graphs }

abbrev pub without_last : List Node → List Node
without_last [] = []
without_last (n ∷ []) = []
without_last (n ∷ m ∷ ns) = n ∷ without_last (m ∷ ns)

abbrev pub node_of : ObjId → ℕ → Node
node_of id key = record { id = id; key = key }

-- what a call that is right makes of the nodes, as the sequential list and the sequential tree do
abbrev pub nodes_after : PastCall → List Node → List Node
nodes_after (past.PushFront id) ns = node_of id 0 ∷ ns
nodes_after (past.PushBack id) ns = ns ++ node_of id 0 ∷ []
nodes_after (past.Add id key) ns = with_node (node_of id key) ns
nodes_after (past.PopFront id) ns = drop 1 ns
nodes_after (past.PopBack id) ns = without_last ns
nodes_after (past.Remove id) ns = without_node id ns
nodes_after _ ns = ns

abbrev pub graph_after : PastCall → Tag → NamedGraph → NamedGraph
graph_after call tag g =
    record g {
      history = g.history ++ record { tag = tag; call = call } ∷ [];
      nodes = nodes_after call g.nodes;
    }

-- the lists and trees once a call was made on the one at a place
abbrev pub graphs_after : (place : ℕ) → PastCall → Tag → List NamedGraph → List NamedGraph
graphs_after place call tag [] = []
graphs_after zero call tag (g ∷ gs) = graph_after call tag g ∷ gs
graphs_after (suc place) call tag (g ∷ gs) = g ∷ graphs_after place call tag gs

abbrev pub no_graph : NamedGraph
no_graph = record { name = []; is_tree = false; history = []; nodes = [] }

-- the list or tree at a place
abbrev pub graph_at : (place : ℕ) → List NamedGraph → NamedGraph
graph_at place graphs = get_or graphs place no_graph

abbrev pub graph_names_in : List NamedGraph → List (List ℕ)
graph_names_in graphs = map (λ (g : NamedGraph). g.name) graphs
