use Rattle.std.proofs.Common.{◌≡◌, ◌∙◌, true, map, List, ap, length, subst, sym, take_all, arith}
use Rattle.std.proofs.lemmas.List.{length-map}
use Rattle.bm_lang.specs.declared.scenario.MapDeclaration.{MapDeclaration}
use Rattle.bm_world.specs.Contents.{are_apart}
use Rattle.bm_world.specs.Graphs.{AreBare}
use Rattle.bm_world.specs.NamedGraphs.{named_graph}
use Rattle.bm_law_order.specs.Graphs.{graph_names_in}
use Rattle.bm_run.specs.Opened.{empty_graph, empty_graphs}
use Rattle.bm_run.proofs.OpeningLemmas.{bare-empty, graph-names-empty}
use Rattle.bm_run.proofs.opening.empty_graphs.Goals as goal

pub create-requires : goal.create-requires
create-requires c =
    let maps : List MapDeclaration = c.args.maps.now in
    let graphs : map named_graph c.loop-declared.graphs.items ≡ empty_graphs maps =
    c.loop-declared.invariant ∙ ap empty_graphs (take_all c.loop-declared.declared-index maps c.loop-declared-test.false) in
    let names = ap graph_names_in graphs ∙ graph-names-empty maps in
    let long = sym (length-map c.loop-declared.graphs.items named_graph) ∙ (ap length graphs ∙ length-map maps empty_graph) in
    let few = c.requires.few in
    record {
      apart = subst (λ (ns : List (List _)). are_apart ns ≡ true) (sym names) c.requires.apart;
      few = omega (arith, long, few);
      bare = subst AreBare (sym graphs) (bare-empty maps);
    }
