-- What a contract sees of a list or tree: its items and its history.
use Rattle.std.specs.Prelude.{◌≡◌, List, [], ◌∷◌, Option, None, map, find}
use Rattle.bm_journal.specs.declared.ids.ObjId.{ObjId}
use Rattle.bm_journal.specs.declared.past.Past.{Past}
use Rattle.bm_graph.specs.declared.item.Item.{Item}
use Rattle.bm_graph.specs.Objects.{Node, same_object}

-- the items in their order, and all calls so far
pub record Contents (T : Type 0) : Type 0 where
  pub items : List (Item T)
  pub history : List Past

module _ {T : Type 0} where
  -- the items' ids, in their order
  abbrev pub ids : List (Item T) → List ObjId
  ids items = map (λ i. i.id) items

  -- the items' ids and keys, in their order
  abbrev pub nodes : List (Item T) → List Node
  nodes items = map (λ i. record { id = i.id; key = i.key }) items

  -- the item with this id
  abbrev pub item_of : List (Item T) → ObjId → Option (Item T)
  item_of items id = find (λ i. same_object i.id id) items

  -- no two items have one id
  abbrev pub IdsDiffer : List (Item T) → Type 0
  IdsDiffer [] = Unit {0}
  IdsDiffer (i ∷ is) = (item_of is i.id ≡ None) × IdsDiffer is
