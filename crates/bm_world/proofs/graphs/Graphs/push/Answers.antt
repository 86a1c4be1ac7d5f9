use Rattle.std.proofs.Common.{◌≡◌, ◌<◌, ℕ, List, None, length, map, set, subst, sym}
use Rattle.bm_graph.specs.Ways.{push_call}
use Rattle.bm_law_order.specs.Graphs.{Calls, NamedGraph, graph_at, effect_of, graph_names_in, graphs_after, moved, shelf_of, standing_from}
use Rattle.bm_world.specs.Graphs.{Grows}
use Rattle.bm_world.specs.NamedGraphs.{named_graph}
use Rattle.bm_world.proofs.GraphsDid.{Made, held-there, keeps-all, ok-on, ok-so, ok-both, push-made, told-graph}
use Rattle.bm_world.specs.Graphs.{HasMore}
use Rattle.bm_world.proofs.GraphLemmas.{nowhere-there}
use Rattle.std.proofs.Common.{arith}
use Rattle.bm_world.proofs.graphs.Graphs.push.Goals as goal

pub put_in-requires-clause-absent : goal.put_in-requires-clause-absent
put_in-requires-clause-absent c =
    let xs = c.self.inside.graphs.items in
    let place = c.args.place in
    let old = c.index_mut-graph.result.now in
    let is = c.index_mut-graph.ensures.value in
    let lt = held-there xs place c.args.self.now c.self.view_is c.requires.there in
    let none = subst (λ (gs : List NamedGraph). standing_from 0 gs c.args.id.unit ≡ None) (sym c.self.view_is) c.requires.absent in
    rw (← told-graph xs place old lt is) (nowhere-there 0 place c.args.id.unit (map named_graph xs) none)

pub invariant_of-self : goal.invariant_of-self
invariant_of-self c =
    let xs = c.self.inside.graphs.items in
    let place = c.args.place in
    let old = c.index_mut-graph.result.now in
    let new = c.put_in.new.graph in
    let is = c.index_mut-graph.ensures.value in
    let lt = held-there xs place c.args.self.now c.self.view_is c.requires.there in
    let none = subst (λ (gs : List NamedGraph). standing_from 0 gs c.args.id.unit ≡ None) (sym c.self.view_is) c.requires.absent in
    keeps-all c.put_in.result xs place old new (λ (position : ℕ). position) (λ (position : ℕ). push_call c.args.way c.args.id c.args.key) c.args.tag c.self.invariant is (ok-both c.put_in.result (λ (position : ℕ). Grows (named_graph old) (named_graph new) position (push_call c.args.way c.args.id c.args.key) c.args.tag) (HasMore c.args.id (named_graph old).nodes (named_graph new).nodes) (λ (position : ℕ). Made (map named_graph xs) (map named_graph (set xs place new)) place position (push_call c.args.way c.args.id c.args.key) c.args.tag) (λ position grows more. push-made xs place position old new c.args.way c.args.id c.args.key c.args.tag c.self.invariant lt is none more grows) c.put_in.ensures.grows c.put_in.ensures.more) c.put_in.ensures.err

pub returns-clause-graphs : goal.returns-clause-graphs
returns-clause-graphs c =
    let xs = c.self.inside.graphs.items in
    let place = c.args.place in
    let old = c.index_mut-graph.result.now in
    let new = c.put_in.new.graph in
    let is = c.index_mut-graph.ensures.value in
    let lt = held-there xs place c.args.self.now c.self.view_is c.requires.there in
    let none = subst (λ (gs : List NamedGraph). standing_from 0 gs c.args.id.unit ≡ None) (sym c.self.view_is) c.requires.absent in
    rw (← c.self.view_is) (ok-on c.put_in.result (λ (position : ℕ). Made (map named_graph xs) (map named_graph (set xs place new)) place position (push_call c.args.way c.args.id c.args.key) c.args.tag) (map named_graph (set xs place new) ≡ graphs_after place (push_call c.args.way c.args.id c.args.key) c.args.tag (map named_graph xs)) (λ position made. made.graphs) (ok-both c.put_in.result (λ (position : ℕ). Grows (named_graph old) (named_graph new) position (push_call c.args.way c.args.id c.args.key) c.args.tag) (HasMore c.args.id (named_graph old).nodes (named_graph new).nodes) (λ (position : ℕ). Made (map named_graph xs) (map named_graph (set xs place new)) place position (push_call c.args.way c.args.id c.args.key) c.args.tag) (λ position grows more. push-made xs place position old new c.args.way c.args.id c.args.key c.args.tag c.self.invariant lt is none more grows) c.put_in.ensures.grows c.put_in.ensures.more))

pub returns-clause-called : goal.returns-clause-called
returns-clause-called c =
    let xs = c.self.inside.graphs.items in
    let place = c.args.place in
    let old = c.index_mut-graph.result.now in
    let new = c.put_in.new.graph in
    let is = c.index_mut-graph.ensures.value in
    let lt = held-there xs place c.args.self.now c.self.view_is c.requires.there in
    let none = subst (λ (gs : List NamedGraph). standing_from 0 gs c.args.id.unit ≡ None) (sym c.self.view_is) c.requires.absent in
    rw (← c.self.view_is) (ok-so c.put_in.result (λ (position : ℕ). Made (map named_graph xs) (map named_graph (set xs place new)) place position (push_call c.args.way c.args.id c.args.key) c.args.tag) (λ (position : ℕ). Calls (graph_names_in (map named_graph xs)) (graph_at place (map named_graph xs)).name position (push_call c.args.way c.args.id c.args.key) c.args.tag (shelf_of (map named_graph xs)) (shelf_of (map named_graph (set xs place new)))) (λ position made. made.called) (ok-both c.put_in.result (λ (position : ℕ). Grows (named_graph old) (named_graph new) position (push_call c.args.way c.args.id c.args.key) c.args.tag) (HasMore c.args.id (named_graph old).nodes (named_graph new).nodes) (λ (position : ℕ). Made (map named_graph xs) (map named_graph (set xs place new)) place position (push_call c.args.way c.args.id c.args.key) c.args.tag) (λ position grows more. push-made xs place position old new c.args.way c.args.id c.args.key c.args.tag c.self.invariant lt is none more grows) c.put_in.ensures.grows c.put_in.ensures.more))

pub returns-clause-small : goal.returns-clause-small
returns-clause-small c =
    let lt = subst (λ (gs : List NamedGraph). c.args.place < length gs) (sym c.self.view_is) c.requires.there in
    let few = c.self.invariant.few in
    omega (arith, lt, few)

pub returns-clause-moves : goal.returns-clause-moves
returns-clause-moves c =
    let xs = c.self.inside.graphs.items in
    let place = c.args.place in
    let old = c.index_mut-graph.result.now in
    let new = c.put_in.new.graph in
    let is = c.index_mut-graph.ensures.value in
    let lt = held-there xs place c.args.self.now c.self.view_is c.requires.there in
    let none = subst (λ (gs : List NamedGraph). standing_from 0 gs c.args.id.unit ≡ None) (sym c.self.view_is) c.requires.absent in
    rw (← c.self.view_is) (ok-on c.put_in.result (λ (position : ℕ). Made (map named_graph xs) (map named_graph (set xs place new)) place position (push_call c.args.way c.args.id c.args.key) c.args.tag) (standing_from 0 (map named_graph (set xs place new)) ≡ moved place (effect_of (push_call c.args.way c.args.id c.args.key)) (standing_from 0 (map named_graph xs))) (λ position made. made.moves) (ok-both c.put_in.result (λ (position : ℕ). Grows (named_graph old) (named_graph new) position (push_call c.args.way c.args.id c.args.key) c.args.tag) (HasMore c.args.id (named_graph old).nodes (named_graph new).nodes) (λ (position : ℕ). Made (map named_graph xs) (map named_graph (set xs place new)) place position (push_call c.args.way c.args.id c.args.key) c.args.tag) (λ position grows more. push-made xs place position old new c.args.way c.args.id c.args.key c.args.tag c.self.invariant lt is none more grows) c.put_in.ensures.grows c.put_in.ensures.more))
