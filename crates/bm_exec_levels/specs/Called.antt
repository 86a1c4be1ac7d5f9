-- What a call makes of the lists and trees. (This project's own.)
use Rattle.std.specs.Prelude.{◌≡◌, ℕ, List}
use Rattle.bm_journal.specs.declared.ids.Tag.{Tag}
use Rattle.bm_journal.specs.declared.past.PastCall.{PastCall}
use Rattle.bm_law_order.specs.Graphs.{NamedGraph, graphs_after}

-- One call, of some tag, was made on the list or tree at a place, and nothing else of lists and trees changed.
pub record CalledAt (place : ℕ) (call : PastCall) (before now : List NamedGraph) : Type 0 where
  pub tag : Tag
  pub now_is : now ≡ graphs_after place call tag before
