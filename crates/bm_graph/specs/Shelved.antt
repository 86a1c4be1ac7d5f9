-- Graphs on a shelf, each with its page, and what a visit makes of them. (This project's own.)
use Rattle.std.specs.Prelude.{ℕ, ◌≡◌, Bool, true, false, List, Option, Some, None, map, slice_get, slice_set}
use Rattle.std.specs.Option.{option_map}
use Rattle.bm_graph.specs.declared.graph.Graph.{Graph}
use Rattle.bm_graph.specs.declared.graph.Graph.TheVariants as graph

module _ {T : Type 0} where
  -- whether a graph is a tree; else it is a list
  abbrev pub is_tree : Graph T → Bool
  is_tree (graph.List list) = false
  is_tree (graph.Tree tree) = true

  -- of each graph whether it is a tree
  abbrev pub kinds_of : List (Graph T × T) → List Bool
  kinds_of shelved = map (λ g. is_tree g.0) shelved

  -- A visit of the graph of this number may find this graph with this page: where the shelf tells what is on it that one alone, and
  -- else each graph of its kind.
  abbrev pub IsFound : List Bool → Option (List (Graph T × T)) → ℕ → Graph T → T → Type 0
  IsFound kinds None n lent page = slice_get kinds n ≡ Some (is_tree lent)
  IsFound kinds (Some shelved) n lent page = slice_get shelved n ≡ Some (lent, page)

module _ {V T : Type 0} where
  -- One visit found a graph with its page, and left a graph of that kind with a page; where the shelf tells what is on it, these
  -- stand in their place, and all others are as before.
  pub record IsVisited (visits : V → Graph T → T → V → Graph T → T → Type 0) (before after : V)
      (kinds : List Bool) (n : ℕ) (old new : Option (List (Graph T × T))) : Type 0 where
    pub lent : Graph T
    pub page : T
    pub left : Graph T
    pub left_page : T
    pub found : IsFound kinds old n lent page
    pub visited : visits before lent page after left left_page
    pub kind : is_tree left ≡ is_tree lent
    pub stays : new ≡ option_map (λ shelved. slice_set shelved n (left, left_page)) old
