use Rattle.std.proofs.Common.{◌≡◌, map, take}
use Rattle.bm_world.specs.NamedGraphs.{named_graph}
use Rattle.bm_run.specs.Opened.{empty_graphs}
use Rattle.bm_run.proofs.opening.empty_graphs.Given as goal

abbrev pub invariant-loop-declared : goal.invariant-loop-declared
invariant-loop-declared l = map named_graph l.graphs.items ≡ empty_graphs (take l.declared-index l.maps)
