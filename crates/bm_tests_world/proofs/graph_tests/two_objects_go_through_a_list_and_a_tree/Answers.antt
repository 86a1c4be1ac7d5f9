use Rattle.std.proofs.Common.{◌∙◌, ◌<◌, ℕ, List, ap, arith, length, subst, sym}
use Rattle.bm_law_order.specs.Graphs.{NamedGraph, graph_at}
use Rattle.bm_world.specs.LivingState.{LivingState, known_living}
use Rattle.bm_tests_world.proofs.Begun.{begun-life, kept-life, lives-beside}
use Rattle.bm_tests_world.proofs.Played.{ready}
use Rattle.bm_tests_world.proofs.graph_tests.two_objects_go_through_a_list_and_a_tree.Goals as goal

pub loop-case-init : goal.loop-case-init
loop-case-init g c =
    let first = c.begin_life-first.ensures in
    let second = c.begin_life-second.ensures in
    let one = c.begin_life-first.result in
    let other = c.begin_life-second.result in
    let after = known_living c.begin_life-first.new.self in
    let between = known_living c.fetch_one-other.new.world in
    let now = known_living c.begin_life-second.new.self in
    let begun = begun-life 0 c.fields.result c.fetch_one-unit.result (known_living c.fetch_one-unit.new.world) after one first.object first.known in
    let here = kept-life _ _ one _ c.fetch_one-other.ensures.slots begun in
    let kept = lives-beside 0 c.fields-2.result c.fetch_one-other.result between now one _ second.none second.known here in
    let latest = begun-life 0 c.fields-2.result c.fetch_one-other.result between now other second.object second.known in
    let opened = ap (λ (w : LivingState). w.graphs) first.state ∙ (c.fetch_one-unit.ensures.graphs ∙ c.living_side-world.ensures.graphs) in
    let graphs = ap (λ (w : LivingState). w.graphs) second.state ∙ (c.fetch_one-other.ensures.graphs ∙ opened) in
    let made = c.list_and_tree.ensures in record {
      two = ap length graphs ∙ made.two;
      list = ap (λ (gs : List NamedGraph). (graph_at 0 gs).is_tree) graphs ∙ made.list;
      tree = ap (λ (gs : List NamedGraph). (graph_at 1 gs).is_tree) graphs ∙ made.tree;
      first = ready now.objects.lives one _ kept (subst (λ (vs : List ℕ). 0 < length vs) (sym c.fields.ensures) (omega arith));
      second = ready now.objects.lives other _ latest (subst (λ (vs : List ℕ). 0 < length vs) (sym c.fields-2.ensures) (omega arith));
    }
