use Rattle.std.proofs.Common.{◌≡◌, ◌+◌, ◌++◌, drop, length}
use Rattle.bm_run.specs.Histories.{of_graphs}
use Rattle.bm_run.proofs.journals.graph_histories.Given as goal

-- what was kept so far, and what is to be kept of the rest, is what is to be kept of all; and a history is left for each map that is left
abbrev pub invariant-loop-history : goal.invariant-loop-history
invariant-loop-history l = record {
  kept_is : l.kept.items ++ of_graphs (drop l.place l.maps) l.history-iterator.rest.items ≡ of_graphs l.maps l.fn.histories.items;
  left : l.place + length l.history-iterator.rest.items ≡ length l.maps;
}
