use Rattle.std.proofs.Common.{◌≡◌, ◌++◌, List, [], ◌∙◌, ap, append-nil, append_assoc, arith, map, subst, sym}
use Rattle.std.proofs.lemmas.List.{nil_from_length}
use Rattle.bm_world.specs.GraphItems.{history_told}
use Rattle.bm_world.specs.NamedGraphs.{named_graph}
use Rattle.bm_world.specs.declared.graphs.MapGraph.{MapGraph}
use Rattle.bm_world.proofs.graphs.Graphs.into_histories.Goals as goal

pub loop-graph-init : goal.loop-graph-init
loop-graph-init c = rw (c.new-histories.ensures.items, c.into_iter-graph-iterator.ensures.into_iter_gives.0) (ap (map history_told) c.self.view_is)

pub loop-graph-preserved : goal.loop-graph-preserved
loop-graph-preserved c =
    let all = subst (λ (gs : List MapGraph). c.loop-graph.histories.items ++ map history_told (map named_graph gs) ≡ map history_told c.args.self) c.in-Some.ensures.steps.0 c.loop-graph.invariant in
    rw (c.in_ok-push.ensures.items, append_assoc, c.history_of.ensures) all

pub returns : goal.returns
returns c =
    let left = c.in-None.ensures.steps.0 in
    let held = c.loop-graph.graph-iterator.rest.ok.0 in
    let none : c.loop-graph.graph-iterator.rest.items ≡ [] = nil_from_length c.loop-graph.graph-iterator.rest.items (omega (arith, left, held)) in
    let all = subst (λ (gs : List MapGraph). c.loop-graph.histories.items ++ map history_told (map named_graph gs) ≡ map history_told c.args.self) none c.loop-graph.invariant in
    sym (append-nil c.loop-graph.histories.items) ∙ all
