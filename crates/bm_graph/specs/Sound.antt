-- What each list and each tree keeps.
use Rattle.std.specs.Prelude.{ℕ, ◌≡◌, ◌≤◌, List, [], ◌∷◌, Option, Some, None, length, map, if◌then◌else◌}
use Rattle.bm_journal.specs.declared.ids.ObjId.{ObjId}
use Rattle.bm_journal.specs.declared.past.Past.{Past}
use Rattle.bm_graph.specs.declared.item.Item.{Item}
use Rattle.bm_graph.specs.declared.index.Index.{Index}
use Rattle.bm_graph.specs.Contents.{ids, nodes, IdsDiffer}
use Rattle.bm_graph.specs.Index.{place_in}
use Rattle.bm_graph.specs.Objects.{list_object, tree_object, same_object}
use Rattle.bm_graph.specs.Replay.{replay}
use Rattle.bm_tree.specs.Row.{Row}

-- the history of a list, replayed from the empty list on, has right replies and gives its items; and no object is in it twice
pub record IsSoundList {T : Type 0} (items : List (Item T)) (history : List Past) : Type 0 where
  pub replays : replay list_object history ≡ Some (ids items)
  pub differ : IdsDiffer items

module _ {T : Type 0} where
  -- the items of a tree's rows
  abbrev pub items_of : List (Row (Item T)) → List (Item T)
  items_of rows = map (λ r. r.item) rows

  -- the place of the row with this object
  abbrev pub place_of : List (Row (Item T)) → ObjId → Option ℕ
  place_of [] id = None
  place_of (r ∷ rs) id = if same_object r.item.id id then Some r.place else place_of rs id

  -- each row has its item's key
  abbrev pub KeysHeld : List (Row (Item T)) → Type 0
  KeysHeld [] = Unit {0}
  KeysHeld (r ∷ rs) = (r.key ≡ r.item.key) × KeysHeld rs

-- the history of a tree, replayed from the empty tree on, has right replies and gives its items with their keys; no object is in
-- it twice; and the index has for each object the place of its row
pub record IsSoundTree {T : Type 0} (rows : List (Row (Item T))) (index : Index)
    (history : List Past) : Type 0 where
  pub replays : replay tree_object history ≡ Some (nodes (items_of rows))
  pub differ : IdsDiffer (items_of rows)
  pub keyed : KeysHeld rows
  pub indexed : (id : ObjId) → place_in index id ≡ place_of rows id
  -- each item came by an entry of its own
  pub few : length rows ≤ length history
