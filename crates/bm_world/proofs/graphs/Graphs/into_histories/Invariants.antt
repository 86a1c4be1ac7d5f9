use Rattle.std.proofs.Common.{◌≡◌, ◌++◌, map}
use Rattle.bm_world.specs.GraphItems.{history_told}
use Rattle.bm_world.specs.NamedGraphs.{named_graph}
use Rattle.bm_world.proofs.graphs.Graphs.into_histories.Given as goal

-- the histories so far, and those of what is left, are those of all
abbrev pub invariant-loop-graph : goal.invariant-loop-graph
invariant-loop-graph l = l.histories.items ++ map history_told (map named_graph l.graph-iterator.rest.items) ≡ map history_told l.fn.self
