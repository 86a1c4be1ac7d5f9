use Rattle.std.proofs.Common.{◌≡◌, ℕ, Option, Some, map, set}
use Rattle.bm_journal.specs.declared.ids.ObjId.{ObjId}
use Rattle.bm_graph.specs.Ways.{pop_call}
use Rattle.bm_law_order.specs.Graphs.{Calls, graph_at, effect_of, graph_names_in, graphs_after, moved, shelf_of, standing_from}
use Rattle.bm_world.specs.Graphs.{Grows}
use Rattle.bm_world.specs.NamedGraphs.{named_graph}
use Rattle.bm_world.proofs.GraphsDid.{Made, held-there, keeps-all, ok-so, ok-two, popped-made, popped-stood}
use Rattle.std.specs.Prelude.{IfSome}
use Rattle.bm_world.specs.Graphs.{HasMore}
use Rattle.bm_world.proofs.graphs.Graphs.pop.Goals as goal

pub invariant_of-self : goal.invariant_of-self
invariant_of-self c =
    let xs = c.self.inside.graphs.items in
    let place = c.args.place in
    let old = c.index_mut-graph.result.now in
    let new = c.pop_from.new.graph in
    let is = c.index_mut-graph.ensures.value in
    let lt = held-there xs place c.args.self.now c.self.view_is c.requires.there in
    keeps-all c.pop_from.result xs place old new (λ (a : ℕ × Option ObjId). a.0) (λ (a : ℕ × Option ObjId). pop_call c.args.end a.1) c.args.tag c.self.invariant is (ok-two c.pop_from.result (λ (a : ℕ × Option ObjId). Grows (named_graph old) (named_graph new) a.0 (pop_call c.args.end a.1) c.args.tag) (λ (a : ℕ × Option ObjId). IfSome a.1 (λ id. HasMore id (named_graph new).nodes (named_graph old).nodes)) (λ (a : ℕ × Option ObjId). Made (map named_graph xs) (map named_graph (set xs place new)) place a.0 (pop_call c.args.end a.1) c.args.tag) (λ a grows less. popped-made xs place a.0 old new c.args.end a.1 c.args.tag c.self.invariant lt is less grows) c.pop_from.ensures.grows c.pop_from.ensures.less) c.pop_from.ensures.err

pub returns-clause-graphs : goal.returns-clause-graphs
returns-clause-graphs c =
    let xs = c.self.inside.graphs.items in
    let place = c.args.place in
    let old = c.index_mut-graph.result.now in
    let new = c.pop_from.new.graph in
    let is = c.index_mut-graph.ensures.value in
    let lt = held-there xs place c.args.self.now c.self.view_is c.requires.there in
    rw (← c.self.view_is) (ok-so c.pop_from.result (λ (a : ℕ × Option ObjId). Made (map named_graph xs) (map named_graph (set xs place new)) place a.0 (pop_call c.args.end a.1) c.args.tag) (λ (a : ℕ × Option ObjId). map named_graph (set xs place new) ≡ graphs_after place (pop_call c.args.end a.1) c.args.tag (map named_graph xs)) (λ a made. made.graphs) (ok-two c.pop_from.result (λ (a : ℕ × Option ObjId). Grows (named_graph old) (named_graph new) a.0 (pop_call c.args.end a.1) c.args.tag) (λ (a : ℕ × Option ObjId). IfSome a.1 (λ id. HasMore id (named_graph new).nodes (named_graph old).nodes)) (λ (a : ℕ × Option ObjId). Made (map named_graph xs) (map named_graph (set xs place new)) place a.0 (pop_call c.args.end a.1) c.args.tag) (λ a grows less. popped-made xs place a.0 old new c.args.end a.1 c.args.tag c.self.invariant lt is less grows) c.pop_from.ensures.grows c.pop_from.ensures.less))

pub returns-clause-called : goal.returns-clause-called
returns-clause-called c =
    let xs = c.self.inside.graphs.items in
    let place = c.args.place in
    let old = c.index_mut-graph.result.now in
    let new = c.pop_from.new.graph in
    let is = c.index_mut-graph.ensures.value in
    let lt = held-there xs place c.args.self.now c.self.view_is c.requires.there in
    rw (← c.self.view_is) (ok-so c.pop_from.result (λ (a : ℕ × Option ObjId). Made (map named_graph xs) (map named_graph (set xs place new)) place a.0 (pop_call c.args.end a.1) c.args.tag) (λ (a : ℕ × Option ObjId). Calls (graph_names_in (map named_graph xs)) (graph_at place (map named_graph xs)).name a.0 (pop_call c.args.end a.1) c.args.tag (shelf_of (map named_graph xs)) (shelf_of (map named_graph (set xs place new)))) (λ a made. made.called) (ok-two c.pop_from.result (λ (a : ℕ × Option ObjId). Grows (named_graph old) (named_graph new) a.0 (pop_call c.args.end a.1) c.args.tag) (λ (a : ℕ × Option ObjId). IfSome a.1 (λ id. HasMore id (named_graph new).nodes (named_graph old).nodes)) (λ (a : ℕ × Option ObjId). Made (map named_graph xs) (map named_graph (set xs place new)) place a.0 (pop_call c.args.end a.1) c.args.tag) (λ a grows less. popped-made xs place a.0 old new c.args.end a.1 c.args.tag c.self.invariant lt is less grows) c.pop_from.ensures.grows c.pop_from.ensures.less))

pub returns-clause-stood : goal.returns-clause-stood
returns-clause-stood c =
    let xs = c.self.inside.graphs.items in
    let place = c.args.place in
    let old = c.index_mut-graph.result.now in
    let new = c.pop_from.new.graph in
    let is = c.index_mut-graph.ensures.value in
    let lt = held-there xs place c.args.self.now c.self.view_is c.requires.there in
    rw (← c.self.view_is) (ok-so c.pop_from.result (λ (a : ℕ × Option ObjId). IfSome a.1 (λ id. HasMore id (named_graph new).nodes (named_graph old).nodes)) (λ (a : ℕ × Option ObjId). IfSome a.1 (λ id. standing_from 0 (map named_graph xs) id.unit ≡ Some (record { life = id.life; place = place }))) (λ a less. popped-stood xs place old new a.1 c.self.invariant lt is less) c.pop_from.ensures.less)

pub returns-clause-moves : goal.returns-clause-moves
returns-clause-moves c =
    let xs = c.self.inside.graphs.items in
    let place = c.args.place in
    let old = c.index_mut-graph.result.now in
    let new = c.pop_from.new.graph in
    let is = c.index_mut-graph.ensures.value in
    let lt = held-there xs place c.args.self.now c.self.view_is c.requires.there in
    rw (← c.self.view_is) (ok-so c.pop_from.result (λ (a : ℕ × Option ObjId). Made (map named_graph xs) (map named_graph (set xs place new)) place a.0 (pop_call c.args.end a.1) c.args.tag) (λ (a : ℕ × Option ObjId). standing_from 0 (map named_graph (set xs place new)) ≡ moved place (effect_of (pop_call c.args.end a.1)) (standing_from 0 (map named_graph xs))) (λ a made. made.moves) (ok-two c.pop_from.result (λ (a : ℕ × Option ObjId). Grows (named_graph old) (named_graph new) a.0 (pop_call c.args.end a.1) c.args.tag) (λ (a : ℕ × Option ObjId). IfSome a.1 (λ id. HasMore id (named_graph new).nodes (named_graph old).nodes)) (λ (a : ℕ × Option ObjId). Made (map named_graph xs) (map named_graph (set xs place new)) place a.0 (pop_call c.args.end a.1) c.args.tag) (λ a grows less. popped-made xs place a.0 old new c.args.end a.1 c.args.tag c.self.invariant lt is less grows) c.pop_from.ensures.grows c.pop_from.ensures.less))
