use Rattle.std.proofs.Common.{◌≡◌, None, Option, Some, subst}
use Rattle.std.specs.Prelude.{IfSome}
use Rattle.bm_journal.specs.declared.ids.ObjId.{ObjId}
use Rattle.bm_graph.specs.Ways.{pop_call}
use Rattle.bm_law_order.specs.Graphs.{graph_at, standing_from}
use Rattle.bm_world.specs.LivingState.{LivingState}
use Rattle.bm_world.proofs.LivingCalls.{does-pop, does-pop-none, is-some-living, known-placed, living-placed, none-left, rights-placed, shelved-none-popped, shelved-popped, stands-has, stands-living}
use Rattle.bm_world.proofs.living.LivingSideLives.pop.Goals as goal

pub place-requires-clause-there : goal.place-requires-clause-there
place-requires-clause-there c =
    let i = c.self.inside in
    let id = c.in-Some.object in
    let stood = subst (λ (o : Option ObjId). IfSome o (λ x. standing_from 0 i.graphs x.unit ≡ Some (record { life = x.life; place = c.args.place }))) c.in-Some.is c.in_ok-position.ensures.stood in
    is-some-living i.slots.slots.items i.graphs id.unit (record { life = id.life; place = c.args.place }) c.self.invariant.2 stood

pub invariant_of-self-in-Some : goal.invariant_of-self-in-Some
invariant_of-self-in-Some c =
    let i = c.self.inside in
    let id = c.in-Some.object in
    let stood = subst (λ (o : Option ObjId). IfSome o (λ x. standing_from 0 i.graphs x.unit ≡ Some (record { life = x.life; place = c.args.place }))) c.in-Some.is c.in_ok-position.ensures.stood in
    let lt = stands-living i.slots.slots.items i.graphs id.unit (record { life = id.life; place = c.args.place }) c.self.invariant.2 stood in
    let moves = rw c.in-Some.is at c.in_ok-position.ensures.moves in
    rw c.place.ensures (living-placed i.side.post i.side.grace.plain.number i.side.grace.tracing.number i.slots.slots.items i.begun.counts.items i.standings.standings.items i.asked id.unit None lt c.self.invariant.0, c.self.invariant.1, shelved-popped i.slots.slots.items i.graphs c.pop.new.self c.args.place c.args.end id lt moves c.self.invariant.2)

pub invariant_of-self-in_default : goal.invariant_of-self-in_default
invariant_of-self-in_default c =
    let i = c.self.inside in
    let moves = rw (none-left c.in_ok-position.popped c.in_default.not-Some) at c.in_ok-position.ensures.moves in
    (c.self.invariant.0, c.self.invariant.1, shelved-none-popped i.slots.slots.items i.graphs c.pop.new.self c.args.place c.args.end moves c.self.invariant.2)

pub returns-in-Some-clause-known : goal.returns-in-Some-clause-known
returns-in-Some-clause-known c =
    let i = c.self.inside in
    let id = c.in-Some.object in
    let a : LivingState = record { side = i.side; slots = i.slots.slots.items; begun = i.begun.counts.items; standings = i.standings.standings.items; asked = i.asked; contents = i.contents; graphs = i.graphs } in
    let stood = subst (λ (o : Option ObjId). IfSome o (λ x. standing_from 0 i.graphs x.unit ≡ Some (record { life = x.life; place = c.args.place }))) c.in-Some.is c.in_ok-position.ensures.stood in
    let lt = stands-living i.slots.slots.items i.graphs id.unit (record { life = id.life; place = c.args.place }) c.self.invariant.2 stood in
    let now = rw c.in-Some.is at c.in_ok-position.ensures.graphs in
    rw (← c.self.view_is, c.place.ensures, now) (known-placed c.args.place (pop_call c.args.end (Some id)) c.args.tag id.unit None a lt)

pub returns-in-Some-clause-same : goal.returns-in-Some-clause-same
returns-in-Some-clause-same c =
    let i = c.self.inside in
    let id = c.in-Some.object in
    let stood = subst (λ (o : Option ObjId). IfSome o (λ x. standing_from 0 i.graphs x.unit ≡ Some (record { life = x.life; place = c.args.place }))) c.in-Some.is c.in_ok-position.ensures.stood in
    let lt = stands-living i.slots.slots.items i.graphs id.unit (record { life = id.life; place = c.args.place }) c.self.invariant.2 stood in
    rw (← c.self.view_is, c.place.ensures) (rights-placed i.side.post i.side.grace.plain.number i.side.grace.tracing.number i.slots.slots.items i.begun.counts.items i.standings.standings.items id.unit None lt)

pub returns-in-Some-clause-does : goal.returns-in-Some-clause-does
returns-in-Some-clause-does c =
    let i = c.self.inside in
    let id = c.in-Some.object in
    let a : LivingState = record { side = i.side; slots = i.slots.slots.items; begun = i.begun.counts.items; standings = i.standings.standings.items; asked = i.asked; contents = i.contents; graphs = i.graphs } in
    let stood = subst (λ (o : Option ObjId). IfSome o (λ x. standing_from 0 i.graphs x.unit ≡ Some (record { life = x.life; place = c.args.place }))) c.in-Some.is c.in_ok-position.ensures.stood in
    let lt = stands-living i.slots.slots.items i.graphs id.unit (record { life = id.life; place = c.args.place }) c.self.invariant.2 stood in
    let now = rw c.in-Some.is at c.in_ok-position.ensures.graphs in
    let called = rw now at (rw c.in-Some.is at c.in_ok-position.ensures.called) in
    rw (← c.self.view_is, c.place.ensures, now) (does-pop (graph_at c.args.place i.graphs).name c.in_ok-position.position c.args.place c.args.end id c.args.tag a lt called)

pub returns-in_default-clause-does : goal.returns-in_default-clause-does
returns-in_default-clause-does c =
    let i = c.self.inside in
    let a : LivingState = record { side = i.side; slots = i.slots.slots.items; begun = i.begun.counts.items; standings = i.standings.standings.items; asked = i.asked; contents = i.contents; graphs = i.graphs } in
    let none = none-left c.in_ok-position.popped c.in_default.not-Some in
    let now = rw none at c.in_ok-position.ensures.graphs in
    let called = rw now at (rw none at c.in_ok-position.ensures.called) in
    rw (← c.self.view_is, none, now) (does-pop-none (graph_at c.args.place i.graphs).name c.in_ok-position.position c.args.place c.args.end c.args.tag a called)

pub returns-in-Some-clause-moves : goal.returns-in-Some-clause-moves
returns-in-Some-clause-moves c = rw (← c.self.view_is) (rw c.in-Some.is at c.in_ok-position.ensures.moves)

pub returns-in_default-clause-moves : goal.returns-in_default-clause-moves
returns-in_default-clause-moves c = rw (← c.self.view_is) c.in_ok-position.ensures.moves

pub returns-in-Some-clause-lives : goal.returns-in-Some-clause-lives
returns-in-Some-clause-lives c =
    let i = c.self.inside in
    let id = c.in-Some.object in
    let stood = subst (λ (o : Option ObjId). IfSome o (λ x. standing_from 0 i.graphs x.unit ≡ Some (record { life = x.life; place = c.args.place }))) c.in-Some.is c.in_ok-position.ensures.stood in
    rw (← c.self.view_is) (stands-has i.slots.slots.items i.graphs id.unit (record { life = id.life; place = c.args.place }) c.self.invariant.2 stood)
