-- A list and a tree, and two objects that may be put into them.
use Rattle.std.specs.Prelude.{◌≡◌, ◌<◌, ℕ, true, false, length}
use Rattle.bm_journal.specs.declared.ids.ObjId.{ObjId}
use Rattle.bm_grace.specs.Known.{Living, Lives}
use Rattle.bm_graph.specs.declared.ways.Way.{Way}
use Rattle.bm_graph.specs.declared.ways.Way.TheVariants as way
use Rattle.bm_law_order.specs.Graphs.{graph_at}
use Rattle.bm_world.specs.Lives.{HasLife, values_in}
use Rattle.bm_world.specs.LivingState.{LivingState, lives_of}

-- an object lives, and has a field
pub record IsReady (lives : Lives) (o : ObjId) : Type 0 where
  pub living : (l : Living) × HasLife lives o.unit o.life l
  pub keyed : 0 < length (values_in (lives o.unit))

-- the list is the first map, and the tree the second one
pub record IsPlaying (world : LivingState) (a b : ObjId) : Type 0 where
  pub two : length world.graphs ≡ 2
  pub list : (graph_at 0 world.graphs).is_tree ≡ false
  pub tree : (graph_at 1 world.graphs).is_tree ≡ true
  pub first : IsReady (lives_of world.slots) a
  pub second : IsReady (lives_of world.slots) b

-- the place for a push, or for an addition
abbrev pub place_for : Way → ℕ
place_for way.Front = 0
place_for way.Back = 0
place_for way.Ordered = 1
