use Rattle.std.proofs.Common.{arith, map}
use Rattle.std.proofs.lemmas.List.{length-map}
use Rattle.bm_world.specs.NamedGraphs.{named_graph}
use Rattle.bm_world.proofs.GraphLemmas.{bare-graphs}
use Rattle.bm_world.proofs.graphs.Graphs.create.Goals as goal

pub invariant_of-result : goal.invariant_of-result
invariant_of-result c =
    let size = length-map c.args.graphs.items named_graph in
    let few = c.requires.few in
    bare-graphs (map named_graph c.args.graphs.items) c.requires.apart (omega (arith, size, few)) c.requires.bare
