use Rattle.std.proofs.Common.{◌≡◌, ℕ, Option, Some, map, set}
use Rattle.bm_journal.specs.declared.ids.ObjId.{ObjId}
use Rattle.bm_graph.specs.Calls.{first_call}
use Rattle.bm_law_order.specs.Graphs.{Calls, graph_at, effect_of, graph_names_in, graphs_after, moved, shelf_of, standing_from}
use Rattle.bm_world.specs.Graphs.{Grows, first_node}
use Rattle.bm_world.specs.NamedGraphs.{named_graph}
use Rattle.bm_world.proofs.GraphsDid.{Made, held-there, keeps-all, first-stood, firsts-made, ok-so}
use Rattle.std.specs.Prelude.{IfSome}
use Rattle.bm_world.proofs.graphs.Graphs.first.Goals as goal

pub invariant_of-self : goal.invariant_of-self
invariant_of-self c =
    let xs = c.self.inside.graphs.items in
    let place = c.args.place in
    let old = c.index_mut-graph.result.now in
    let new = c.first_of.new.graph in
    let is = c.index_mut-graph.ensures.value in
    let lt = held-there xs place c.args.self.now c.self.view_is c.requires.there in
    keeps-all c.first_of.result xs place old new (λ (a : ℕ × Option ObjId). a.0) (λ (a : ℕ × Option ObjId). first_call a.1) c.args.tag c.self.invariant is (ok-so c.first_of.result (λ (a : ℕ × Option ObjId). Grows (named_graph old) (named_graph new) a.0 (first_call a.1) c.args.tag) (λ (a : ℕ × Option ObjId). Made (map named_graph xs) (map named_graph (set xs place new)) place a.0 (first_call a.1) c.args.tag) (λ a grows. firsts-made xs place a.0 old new a.1 c.args.tag c.self.invariant lt is grows) c.first_of.ensures.grows) c.first_of.ensures.err

pub returns-clause-graphs : goal.returns-clause-graphs
returns-clause-graphs c =
    let xs = c.self.inside.graphs.items in
    let place = c.args.place in
    let old = c.index_mut-graph.result.now in
    let new = c.first_of.new.graph in
    let is = c.index_mut-graph.ensures.value in
    let lt = held-there xs place c.args.self.now c.self.view_is c.requires.there in
    rw (← c.self.view_is) (ok-so c.first_of.result (λ (a : ℕ × Option ObjId). Made (map named_graph xs) (map named_graph (set xs place new)) place a.0 (first_call a.1) c.args.tag) (λ (a : ℕ × Option ObjId). map named_graph (set xs place new) ≡ graphs_after place (first_call a.1) c.args.tag (map named_graph xs)) (λ a made. made.graphs) (ok-so c.first_of.result (λ (a : ℕ × Option ObjId). Grows (named_graph old) (named_graph new) a.0 (first_call a.1) c.args.tag) (λ (a : ℕ × Option ObjId). Made (map named_graph xs) (map named_graph (set xs place new)) place a.0 (first_call a.1) c.args.tag) (λ a grows. firsts-made xs place a.0 old new a.1 c.args.tag c.self.invariant lt is grows) c.first_of.ensures.grows))

pub returns-clause-called : goal.returns-clause-called
returns-clause-called c =
    let xs = c.self.inside.graphs.items in
    let place = c.args.place in
    let old = c.index_mut-graph.result.now in
    let new = c.first_of.new.graph in
    let is = c.index_mut-graph.ensures.value in
    let lt = held-there xs place c.args.self.now c.self.view_is c.requires.there in
    rw (← c.self.view_is) (ok-so c.first_of.result (λ (a : ℕ × Option ObjId). Made (map named_graph xs) (map named_graph (set xs place new)) place a.0 (first_call a.1) c.args.tag) (λ (a : ℕ × Option ObjId). Calls (graph_names_in (map named_graph xs)) (graph_at place (map named_graph xs)).name a.0 (first_call a.1) c.args.tag (shelf_of (map named_graph xs)) (shelf_of (map named_graph (set xs place new)))) (λ a made. made.called) (ok-so c.first_of.result (λ (a : ℕ × Option ObjId). Grows (named_graph old) (named_graph new) a.0 (first_call a.1) c.args.tag) (λ (a : ℕ × Option ObjId). Made (map named_graph xs) (map named_graph (set xs place new)) place a.0 (first_call a.1) c.args.tag) (λ a grows. firsts-made xs place a.0 old new a.1 c.args.tag c.self.invariant lt is grows) c.first_of.ensures.grows))

pub returns-clause-moves : goal.returns-clause-moves
returns-clause-moves c =
    let xs = c.self.inside.graphs.items in
    let place = c.args.place in
    let old = c.index_mut-graph.result.now in
    let new = c.first_of.new.graph in
    let is = c.index_mut-graph.ensures.value in
    let lt = held-there xs place c.args.self.now c.self.view_is c.requires.there in
    rw (← c.self.view_is) (ok-so c.first_of.result (λ (a : ℕ × Option ObjId). Made (map named_graph xs) (map named_graph (set xs place new)) place a.0 (first_call a.1) c.args.tag) (λ (a : ℕ × Option ObjId). standing_from 0 (map named_graph (set xs place new)) ≡ moved place (effect_of (first_call a.1)) (standing_from 0 (map named_graph xs))) (λ a made. made.moves) (ok-so c.first_of.result (λ (a : ℕ × Option ObjId). Grows (named_graph old) (named_graph new) a.0 (first_call a.1) c.args.tag) (λ (a : ℕ × Option ObjId). Made (map named_graph xs) (map named_graph (set xs place new)) place a.0 (first_call a.1) c.args.tag) (λ a grows. firsts-made xs place a.0 old new a.1 c.args.tag c.self.invariant lt is grows) c.first_of.ensures.grows))

pub returns-clause-stood : goal.returns-clause-stood
returns-clause-stood c =
    let xs = c.self.inside.graphs.items in
    let place = c.args.place in
    let old = c.index_mut-graph.result.now in
    let is = c.index_mut-graph.ensures.value in
    let lt = held-there xs place c.args.self.now c.self.view_is c.requires.there in
    rw (← c.self.view_is) (ok-so c.first_of.result (λ (a : ℕ × Option ObjId). a.1 ≡ first_node (named_graph old).nodes) (λ (a : ℕ × Option ObjId). IfSome a.1 (λ id. standing_from 0 (map named_graph xs) id.unit ≡ Some (record { life = id.life; place = place }))) (λ a e. first-stood xs place old a.1 c.self.invariant lt is e) c.first_of.ensures.item)
