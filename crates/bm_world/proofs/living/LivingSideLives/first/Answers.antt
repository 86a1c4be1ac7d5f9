use Rattle.std.proofs.Common.{◌≡◌, ℕ, Option, Some, ◌∷◌, []}
use Rattle.std.specs.Prelude.{IfSome}
use Rattle.bm_grace.specs.Known.{Living}
use Rattle.bm_world.specs.Lives.{HasLife}
use Rattle.bm_journal.specs.declared.ids.ObjId.{ObjId}
use Rattle.bm_graph.specs.Calls.{first_call}
use Rattle.bm_law_order.specs.Act as act
use Rattle.bm_law_order.specs.Graphs.{Calls, graph_at, graph_names_in, graphs_after, shelf_of, standing_from}
use Rattle.bm_world.specs.LivingState.{LivingState, lives_of}
use Rattle.bm_world.specs.ToldLiving.{LivingDoes}
use Rattle.bm_world.proofs.GraphsDid.{ok-so, ok-two}
use Rattle.bm_world.proofs.LivingCalls.{does-first, shelved-first-or, some-has}
use Rattle.bm_world.proofs.living.LivingSideLives.first.Goals as goal

pub invariant_of-self : goal.invariant_of-self
invariant_of-self c =
    let i = c.self.inside in
    (c.self.invariant.0, c.self.invariant.1, shelved-first-or c.first.result i.slots.slots.items i.graphs c.first.new.self c.args.place c.first.ensures.moves c.first.ensures.err c.self.invariant.2)

pub returns-clause-does : goal.returns-clause-does
returns-clause-does c =
    let i = c.self.inside in
    let a : LivingState = record { side = i.side; slots = i.slots.slots.items; begun = i.begun.counts.items; standings = i.standings.standings.items; asked = i.asked; contents = i.contents; graphs = i.graphs } in
    let name = (graph_at c.args.place i.graphs).name in
    rw (← c.self.view_is) (ok-two c.first.result (λ (x : ℕ × Option ObjId). c.first.new.self ≡ graphs_after c.args.place (first_call x.1) c.args.tag i.graphs) (λ (x : ℕ × Option ObjId). Calls (graph_names_in i.graphs) name x.0 (first_call x.1) c.args.tag (shelf_of i.graphs) (shelf_of c.first.new.self)) (λ (x : ℕ × Option ObjId). LivingDoes (act.Calls name x.0 (first_call x.1) c.args.tag ∷ []) a (record a { graphs = c.first.new.self })) (λ x e called. rw e (does-first name x.0 c.args.place x.1 c.args.tag a (rw e at called))) c.first.ensures.graphs c.first.ensures.called)

pub returns-clause-lives : goal.returns-clause-lives
returns-clause-lives c =
    let i = c.self.inside in
    rw (← c.self.view_is) (ok-so c.first.result (λ (x : ℕ × Option ObjId). IfSome x.1 (λ id. standing_from 0 i.graphs id.unit ≡ Some (record { life = id.life; place = c.args.place }))) (λ (x : ℕ × Option ObjId). IfSome x.1 (λ id. (l : Living) × HasLife (lives_of i.slots.slots.items) id.unit id.life l)) (λ x stood. some-has i.slots.slots.items i.graphs c.args.place x.1 c.self.invariant.2 stood) c.first.ensures.stood)

pub returns-clause-moves : goal.returns-clause-moves
returns-clause-moves c = rw (← c.self.view_is) c.first.ensures.moves
