-- Items of lists and trees, and their histories, as the world tells them.
use Rattle.std.specs.Prelude.{ℕ, Option, Some, None, List}
use Rattle.bm_journal.specs.declared.ids.ObjId.{ObjId}
use Rattle.bm_journal.specs.declared.past.Past.{Past}
use Rattle.bm_graph.specs.declared.item.Item.{Item}
use Rattle.bm_journal.specs.declared.ids.Tag.{Tag}
use Rattle.bm_journal.specs.declared.past.PastCall.{PastCall}
use Rattle.bm_graph.specs.Contents as contents
use Rattle.bm_law_order.specs.Graphs.{NamedGraph}
use Rattle.bm_world.specs.Graphs.{Grows}
use Rattle.bm_world.specs.NamedGraphs.{list_named, tree_named}

abbrev pub item_id : {T : Type 0} → Option (Item T) → Option ObjId
item_id None = None
item_id (Some item) = Some item.id

-- a history with its name
abbrev pub history_told : NamedGraph → List ℕ × List Past
history_told g = (g.name, g.history)

module _ {T : Type 0} where
  -- a call was made on a list, whatever its name is, and on a tree
  abbrev pub ListGrows : (old new : contents.Contents T) (position : ℕ) → PastCall → Tag → Type 0
  ListGrows old new position call tag =
      (name : List ℕ) → Grows (list_named name old) (list_named name new) position call tag

  abbrev pub TreeGrows : (old new : contents.Contents T) (position : ℕ) → PastCall → Tag → Type 0
  TreeGrows old new position call tag =
      (name : List ℕ) → Grows (tree_named name old) (tree_named name new) position call tag
