use Rattle.std.proofs.Common.{arith, ◌≡◌, ℕ, List, Some, map, set, subst, sym}
use Rattle.bm_journal.specs.declared.past.PastCall.TheVariants as past
use Rattle.bm_law_order.specs.Graphs.{Calls, NamedGraph, graph_at, effect_of, graph_names_in, graphs_after, moved, shelf_of, standing_from}
use Rattle.bm_world.specs.Graphs.{Grows}
use Rattle.bm_world.specs.NamedGraphs.{named_graph}
use Rattle.bm_world.proofs.GraphsDid.{Made, held-there, keeps-all, ok-on, ok-so, ok-both, removed-made, told-graph}
use Rattle.bm_world.specs.Graphs.{HasMore}
use Rattle.bm_world.proofs.GraphLemmas.{stood-there}
use Rattle.bm_world.proofs.graphs.Graphs.remove.Goals as goal

pub remove_from-requires-clause-there : goal.remove_from-requires-clause-there
remove_from-requires-clause-there c =
    let xs = c.self.inside.graphs.items in
    let place = c.args.place in
    let old = c.index_mut-graph.result.now in
    let is = c.index_mut-graph.ensures.value in
    let lt = held-there xs place c.args.self.now c.self.view_is c.requires.there in
    let stands = subst (λ (gs : List NamedGraph). standing_from 0 gs c.args.id.unit ≡ Some (record { life = c.args.id.life; place = place })) (sym c.self.view_is) c.requires.stands in
    rw (← told-graph xs place old lt is) (stood-there 0 place c.args.id.unit (record { life = c.args.id.life; place = place }) (map named_graph xs) stands (omega arith))

pub invariant_of-self : goal.invariant_of-self
invariant_of-self c =
    let xs = c.self.inside.graphs.items in
    let place = c.args.place in
    let old = c.index_mut-graph.result.now in
    let new = c.remove_from.new.graph in
    let is = c.index_mut-graph.ensures.value in
    let lt = held-there xs place c.args.self.now c.self.view_is c.requires.there in
    keeps-all c.remove_from.result xs place old new (λ (position : ℕ). position) (λ (position : ℕ). past.Remove c.args.id) c.args.tag c.self.invariant is (ok-both c.remove_from.result (λ (position : ℕ). Grows (named_graph old) (named_graph new) position (past.Remove c.args.id) c.args.tag) (HasMore c.args.id (named_graph new).nodes (named_graph old).nodes) (λ (position : ℕ). Made (map named_graph xs) (map named_graph (set xs place new)) place position (past.Remove c.args.id) c.args.tag) (λ position grows less. removed-made xs place position old new c.args.id c.args.tag c.self.invariant lt is less grows) c.remove_from.ensures.grows c.remove_from.ensures.less) c.remove_from.ensures.err

pub returns-clause-graphs : goal.returns-clause-graphs
returns-clause-graphs c =
    let xs = c.self.inside.graphs.items in
    let place = c.args.place in
    let old = c.index_mut-graph.result.now in
    let new = c.remove_from.new.graph in
    let is = c.index_mut-graph.ensures.value in
    let lt = held-there xs place c.args.self.now c.self.view_is c.requires.there in
    rw (← c.self.view_is) (ok-on c.remove_from.result (λ (position : ℕ). Made (map named_graph xs) (map named_graph (set xs place new)) place position (past.Remove c.args.id) c.args.tag) (map named_graph (set xs place new) ≡ graphs_after place (past.Remove c.args.id) c.args.tag (map named_graph xs)) (λ position made. made.graphs) (ok-both c.remove_from.result (λ (position : ℕ). Grows (named_graph old) (named_graph new) position (past.Remove c.args.id) c.args.tag) (HasMore c.args.id (named_graph new).nodes (named_graph old).nodes) (λ (position : ℕ). Made (map named_graph xs) (map named_graph (set xs place new)) place position (past.Remove c.args.id) c.args.tag) (λ position grows less. removed-made xs place position old new c.args.id c.args.tag c.self.invariant lt is less grows) c.remove_from.ensures.grows c.remove_from.ensures.less))

pub returns-clause-called : goal.returns-clause-called
returns-clause-called c =
    let xs = c.self.inside.graphs.items in
    let place = c.args.place in
    let old = c.index_mut-graph.result.now in
    let new = c.remove_from.new.graph in
    let is = c.index_mut-graph.ensures.value in
    let lt = held-there xs place c.args.self.now c.self.view_is c.requires.there in
    rw (← c.self.view_is) (ok-so c.remove_from.result (λ (position : ℕ). Made (map named_graph xs) (map named_graph (set xs place new)) place position (past.Remove c.args.id) c.args.tag) (λ (position : ℕ). Calls (graph_names_in (map named_graph xs)) (graph_at place (map named_graph xs)).name position (past.Remove c.args.id) c.args.tag (shelf_of (map named_graph xs)) (shelf_of (map named_graph (set xs place new)))) (λ position made. made.called) (ok-both c.remove_from.result (λ (position : ℕ). Grows (named_graph old) (named_graph new) position (past.Remove c.args.id) c.args.tag) (HasMore c.args.id (named_graph new).nodes (named_graph old).nodes) (λ (position : ℕ). Made (map named_graph xs) (map named_graph (set xs place new)) place position (past.Remove c.args.id) c.args.tag) (λ position grows less. removed-made xs place position old new c.args.id c.args.tag c.self.invariant lt is less grows) c.remove_from.ensures.grows c.remove_from.ensures.less))

pub returns-clause-moves : goal.returns-clause-moves
returns-clause-moves c =
    let xs = c.self.inside.graphs.items in
    let place = c.args.place in
    let old = c.index_mut-graph.result.now in
    let new = c.remove_from.new.graph in
    let is = c.index_mut-graph.ensures.value in
    let lt = held-there xs place c.args.self.now c.self.view_is c.requires.there in
    rw (← c.self.view_is) (ok-on c.remove_from.result (λ (position : ℕ). Made (map named_graph xs) (map named_graph (set xs place new)) place position (past.Remove c.args.id) c.args.tag) (standing_from 0 (map named_graph (set xs place new)) ≡ moved place (effect_of (past.Remove c.args.id)) (standing_from 0 (map named_graph xs))) (λ position made. made.moves) (ok-both c.remove_from.result (λ (position : ℕ). Grows (named_graph old) (named_graph new) position (past.Remove c.args.id) c.args.tag) (HasMore c.args.id (named_graph new).nodes (named_graph old).nodes) (λ (position : ℕ). Made (map named_graph xs) (map named_graph (set xs place new)) place position (past.Remove c.args.id) c.args.tag) (λ position grows less. removed-made xs place position old new c.args.id c.args.tag c.self.invariant lt is less grows) c.remove_from.ensures.grows c.remove_from.ensures.less))
