-- The lists and trees of a scenario's maps, and what a call makes of one of them. (Documentation/bpf/graph_ds_impl.rst: an object is in one list or
-- tree at most. That each keeps a history of its calls is this project's own.)
use Rattle.std.specs.Prelude.{◌≡◌, ℕ, ◌+◌, ◌≤◌, true, eqb, if◌then◌else◌, Option, Some, None, List, [], ◌∷◌, ◌++◌, get_or, length}
use Rattle.std.specs.List.{All}
use Rattle.bm_journal.specs.declared.ids.ObjId.{ObjId}
use Rattle.bm_journal.specs.declared.ids.Tag.{Tag}
use Rattle.bm_journal.specs.declared.past.PastCall.{PastCall}
use Rattle.bm_graph.specs.Objects.{Node}
use Rattle.bm_graph.specs.Ways.{push_call, refused_push}
use Rattle.bm_graph.specs.declared.ways.End.{End}
use Rattle.bm_graph.specs.declared.ways.End.TheVariants as end_
use Rattle.bm_graph.specs.declared.ways.Way.{Way}
use Rattle.bm_law_order.specs.Graphs.{NamedGraph, Replays, graph_after, graph_names_in, node_of}
use Rattle.bm_law_order.specs.Graphs.{Standing as Stood}
use Rattle.bm_world.specs.Contents.{are_apart}
use Rattle.bm_world.specs.declared.pushed.Pushed.{Pushed}
use Rattle.bm_world.specs.declared.pushed.Pushed.TheVariants as pushed

-- how often a unit is among nodes
abbrev pub times_among : (u : ℕ) → List Node → ℕ
times_among u [] = 0
times_among u (n ∷ ns) = (if eqb n.id.unit u then 1 else 0) + times_among u ns

-- .. and in all lists and trees together
abbrev pub times_in : (u : ℕ) → List NamedGraph → ℕ
times_in u [] = 0
times_in u (g ∷ gs) = times_among u g.nodes + times_in u gs

-- how many objects are in all of them
abbrev pub items_in : List NamedGraph → ℕ
items_in [] = 0
items_in (g ∷ gs) = length g.nodes + items_in gs

-- nothing is in any of them
abbrev pub AreBare : List NamedGraph → Type 0
AreBare graphs = All (λ (g : NamedGraph). g.nodes ≡ []) graphs

-- No two have one name, no unit is in two nodes, and there are no more than a byte can number.
pub record AreGraphs (graphs : List NamedGraph) : Type 0 where
  pub apart : are_apart (graph_names_in graphs) ≡ true
  pub once : (u : ℕ) → times_in u graphs ≤ 1
  pub few : length graphs ≤ 256

-- A call was made on a list or tree: its position is the number of calls before it, and its reply is right.
pub record Grows (old new : NamedGraph) (position : ℕ) (call : PastCall) (tag : Tag) : Type 0 where
  pub at : position ≡ length old.history
  pub right : Replays new.history
  pub after : new ≡ graph_after call tag old

-- the same nodes with one more, of this object
pub record HasMore (id : ObjId) (less more : List Node) : Type 0 where
  pub key : ℕ
  pub before : List Node
  pub after : List Node
  pub less_is : less ≡ before ++ after
  pub more_is : more ≡ before ++ node_of id key ∷ after

-- the object of the first node, and of the last one
abbrev pub first_node : List Node → Option ObjId
first_node [] = None
first_node (n ∷ ns) = Some n.id

abbrev pub last_node : List Node → Option ObjId
last_node [] = None
last_node (n ∷ []) = Some n.id
last_node (n ∷ m ∷ ns) = last_node (m ∷ ns)

abbrev pub end_node : End → List Node → Option ObjId
end_node end_.Front ns = first_node ns
end_node end_.Back ns = last_node ns

-- ---- pushes

-- the position of a push in the history
abbrev pub pushed_at : Pushed → ℕ
pushed_at (pushed.Done position) = position
pushed_at (pushed.Already owner position) = position

-- the key of an object with these values: its first one
abbrev pub key_of : List ℕ → ℕ
key_of values = get_or values 0 0

-- how the history names a push that was answered so
abbrev pub pushed_call : Way → ObjId → (key : ℕ) → Pushed → PastCall
pushed_call way id key (pushed.Done position) = push_call way id key
pushed_call way id key (pushed.Already owner position) = refused_push way id key owner

-- where the object, in this life, stood before
abbrev pub stood : (life : ℕ) → Pushed → Option Stood
stood life (pushed.Done position) = None
stood life (pushed.Already owner position) = Some (record { life = life; place = owner })
