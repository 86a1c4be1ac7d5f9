use Rattle.std.proofs.Common.{◌≡◌, ℕ, List, Some, map, set, subst, sym}
use Rattle.bm_graph.specs.Ways.{refused_push}
use Rattle.bm_law_order.specs.Graphs.{Calls, NamedGraph, graph_at, effect_of, graph_names_in, graphs_after, moved, shelf_of, standing_from}
use Rattle.bm_world.specs.Graphs.{Grows}
use Rattle.bm_world.specs.NamedGraphs.{named_graph}
use Rattle.bm_world.proofs.GraphsDid.{Made, held-there, keeps-all, ok-on, ok-so, refused-made}
use Rattle.bm_world.proofs.graphs.Graphs.refuse.Goals as goal

pub invariant_of-self : goal.invariant_of-self
invariant_of-self c =
    let xs = c.self.inside.graphs.items in
    let place = c.args.place in
    let old = c.index_mut-graph.result.now in
    let new = c.refuse_in.new.graph in
    let is = c.index_mut-graph.ensures.value in
    let lt = held-there xs place c.args.self.now c.self.view_is c.requires.there in
    let stands = subst (λ (gs : List NamedGraph). standing_from 0 gs c.args.id.unit ≡ Some (record { life = c.args.id.life; place = c.args.owner })) (sym c.self.view_is) c.requires.stands in
    keeps-all c.refuse_in.result xs place old new (λ (position : ℕ). position) (λ (position : ℕ). refused_push c.args.way c.args.id c.args.key c.args.owner) c.args.tag c.self.invariant is (ok-so c.refuse_in.result (λ (position : ℕ). Grows (named_graph old) (named_graph new) position (refused_push c.args.way c.args.id c.args.key c.args.owner) c.args.tag) (λ (position : ℕ). Made (map named_graph xs) (map named_graph (set xs place new)) place position (refused_push c.args.way c.args.id c.args.key c.args.owner) c.args.tag) (λ position grows. refused-made xs place position old new c.args.way c.args.id c.args.key c.args.owner c.args.tag c.self.invariant lt is stands grows) c.refuse_in.ensures.grows) c.refuse_in.ensures.err

pub returns-clause-graphs : goal.returns-clause-graphs
returns-clause-graphs c =
    let xs = c.self.inside.graphs.items in
    let place = c.args.place in
    let old = c.index_mut-graph.result.now in
    let new = c.refuse_in.new.graph in
    let is = c.index_mut-graph.ensures.value in
    let lt = held-there xs place c.args.self.now c.self.view_is c.requires.there in
    let stands = subst (λ (gs : List NamedGraph). standing_from 0 gs c.args.id.unit ≡ Some (record { life = c.args.id.life; place = c.args.owner })) (sym c.self.view_is) c.requires.stands in
    rw (← c.self.view_is) (ok-on c.refuse_in.result (λ (position : ℕ). Made (map named_graph xs) (map named_graph (set xs place new)) place position (refused_push c.args.way c.args.id c.args.key c.args.owner) c.args.tag) (map named_graph (set xs place new) ≡ graphs_after place (refused_push c.args.way c.args.id c.args.key c.args.owner) c.args.tag (map named_graph xs)) (λ position made. made.graphs) (ok-so c.refuse_in.result (λ (position : ℕ). Grows (named_graph old) (named_graph new) position (refused_push c.args.way c.args.id c.args.key c.args.owner) c.args.tag) (λ (position : ℕ). Made (map named_graph xs) (map named_graph (set xs place new)) place position (refused_push c.args.way c.args.id c.args.key c.args.owner) c.args.tag) (λ position grows. refused-made xs place position old new c.args.way c.args.id c.args.key c.args.owner c.args.tag c.self.invariant lt is stands grows) c.refuse_in.ensures.grows))

pub returns-clause-called : goal.returns-clause-called
returns-clause-called c =
    let xs = c.self.inside.graphs.items in
    let place = c.args.place in
    let old = c.index_mut-graph.result.now in
    let new = c.refuse_in.new.graph in
    let is = c.index_mut-graph.ensures.value in
    let lt = held-there xs place c.args.self.now c.self.view_is c.requires.there in
    let stands = subst (λ (gs : List NamedGraph). standing_from 0 gs c.args.id.unit ≡ Some (record { life = c.args.id.life; place = c.args.owner })) (sym c.self.view_is) c.requires.stands in
    rw (← c.self.view_is) (ok-so c.refuse_in.result (λ (position : ℕ). Made (map named_graph xs) (map named_graph (set xs place new)) place position (refused_push c.args.way c.args.id c.args.key c.args.owner) c.args.tag) (λ (position : ℕ). Calls (graph_names_in (map named_graph xs)) (graph_at place (map named_graph xs)).name position (refused_push c.args.way c.args.id c.args.key c.args.owner) c.args.tag (shelf_of (map named_graph xs)) (shelf_of (map named_graph (set xs place new)))) (λ position made. made.called) (ok-so c.refuse_in.result (λ (position : ℕ). Grows (named_graph old) (named_graph new) position (refused_push c.args.way c.args.id c.args.key c.args.owner) c.args.tag) (λ (position : ℕ). Made (map named_graph xs) (map named_graph (set xs place new)) place position (refused_push c.args.way c.args.id c.args.key c.args.owner) c.args.tag) (λ position grows. refused-made xs place position old new c.args.way c.args.id c.args.key c.args.owner c.args.tag c.self.invariant lt is stands grows) c.refuse_in.ensures.grows))

pub returns-clause-moves : goal.returns-clause-moves
returns-clause-moves c =
    let xs = c.self.inside.graphs.items in
    let place = c.args.place in
    let old = c.index_mut-graph.result.now in
    let new = c.refuse_in.new.graph in
    let is = c.index_mut-graph.ensures.value in
    let lt = held-there xs place c.args.self.now c.self.view_is c.requires.there in
    let stands = subst (λ (gs : List NamedGraph). standing_from 0 gs c.args.id.unit ≡ Some (record { life = c.args.id.life; place = c.args.owner })) (sym c.self.view_is) c.requires.stands in
    rw (← c.self.view_is) (ok-on c.refuse_in.result (λ (position : ℕ). Made (map named_graph xs) (map named_graph (set xs place new)) place position (refused_push c.args.way c.args.id c.args.key c.args.owner) c.args.tag) (standing_from 0 (map named_graph (set xs place new)) ≡ moved place (effect_of (refused_push c.args.way c.args.id c.args.key c.args.owner)) (standing_from 0 (map named_graph xs))) (λ position made. made.moves) (ok-so c.refuse_in.result (λ (position : ℕ). Grows (named_graph old) (named_graph new) position (refused_push c.args.way c.args.id c.args.key c.args.owner) c.args.tag) (λ (position : ℕ). Made (map named_graph xs) (map named_graph (set xs place new)) place position (refused_push c.args.way c.args.id c.args.key c.args.owner) c.args.tag) (λ position grows. refused-made xs place position old new c.args.way c.args.id c.args.key c.args.owner c.args.tag c.self.invariant lt is stands grows) c.refuse_in.ensures.grows))
