-- Lists and trees with their names, as they are told.
use Rattle.std.specs.Prelude.{ℕ, true, false, List, map}
use Rattle.bm_graph.specs.Contents as contents
use Rattle.bm_graph.specs.Contents.{nodes}
use Rattle.bm_graph.specs.Objects.{Node}
use Rattle.bm_graph.specs.declared.graph.Graph.{Graph}
use Rattle.bm_graph.specs.declared.graph.Graph.TheVariants as graph
use Rattle.bm_graph.specs.declared.item.Item.{Item}
use Rattle.bm_law_order.specs.Graphs.{NamedGraph, node_of}
use Rattle.bm_world.specs.declared.graphs.MapGraph.{MapGraph}

module _ {T : Type 0} where
  -- the nodes of a list, whose keys are 0
  abbrev pub list_nodes : List (Item T) → List Node
  list_nodes items = map (λ (i : Item T). node_of i.id 0) items

  abbrev pub list_named : (name : List ℕ) → contents.Contents T → NamedGraph
  list_named name c =
      record { name = name; is_tree = false; history = c.history; nodes = list_nodes c.items }

  abbrev pub tree_named : (name : List ℕ) → contents.Contents T → NamedGraph
  tree_named name c =
      record { name = name; is_tree = true; history = c.history; nodes = nodes c.items }

  abbrev pub graph_named : (name : List ℕ) → Graph T → NamedGraph
  graph_named name (graph.List c) = list_named name c
  graph_named name (graph.Tree c) = tree_named name c

abbrev pub named_graph : MapGraph → NamedGraph
named_graph g = graph_named g.name g.graph
