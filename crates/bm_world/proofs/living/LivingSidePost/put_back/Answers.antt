use Rattle.std.proofs.Common.{arith, ◌∙◌, ap, length, subst, sym, [], ◌∷◌, refl}
use Rattle.std.specs.List.{All}
use Rattle.bm_post.specs.Rights.{Holds, IsSettled, MayLeave, numbers}
use Rattle.bm_world.specs.LivingState.{LivingState, rights_living}
use Rattle.bm_world.specs.Standings.{left_by}
use Rattle.bm_world.proofs.Alive.{holds-post, lasting-left, leave-over, leave-post, living-back, loses-living, numbers-fit, settled-post, settled-waited}
use Rattle.bm_world.proofs.Left.{copied-size, left-other}
use Rattle.bm_world.proofs.living.LivingSidePost.put_back.Goals as goal
use Rattle.bm_law_order.specs.Act as act
use Rattle.bm_law_order.specs.Act.{sealed}
use Rattle.bm_world.proofs.LivingDid.{kept-sealed, lifts-so, made-one, waits-given, waits-left}

pub put_back-requires-clause-mine : goal.put_back-requires-clause-mine
put_back-requires-clause-mine c =
    let i = c.self.inside in
    holds-post i.side.grace.plain.number i.side.grace.tracing.number i.standings.standings.items i.side.post i.slots.slots.items i.begun.counts.items c.args.units.items (subst (λ (s : LivingState). Holds (rights_living s) c.args.units.items) (sym c.self.view_is) c.requires.mine)

pub put_back-requires-clause-fit : goal.put_back-requires-clause-fit
put_back-requires-clause-fit c =
    let i = c.self.inside in
    leave-post i.side.grace.plain.number i.side.grace.tracing.number i.standings.standings.items i.side.post i.slots.slots.items i.begun.counts.items c.args.units.items (subst (λ (s : LivingState). All (MayLeave (rights_living s)) c.args.units.items) (sym c.self.view_is) c.requires.fit)

pub invariant_of-self : goal.invariant_of-self
invariant_of-self c =
    let i = c.self.inside in
    let us = c.args.units.items in
    let holds = subst (λ (s : LivingState). Holds (rights_living s) us) (sym c.self.view_is) c.requires.mine in
    let fit = subst (λ (s : LivingState). All (MayLeave (rights_living s)) us) (sym c.self.view_is) c.requires.fit in
    (rw (c.leave.ensures.standings, c.put_back.ensures.grace) (living-back i.side.post c.put_back.new.self.post i.side.grace.plain.number i.side.grace.tracing.number i.slots.slots.items i.begun.counts.items i.standings.standings.items i.asked us c.put_back.ensures.state holds fit c.put_back.ensures.back c.self.invariant.0), ap length c.leave.ensures.before ∙ (copied-size us i.standings.standings.items i.standings.before.items ∙ c.self.invariant.1), c.self.invariant.2)

pub returns-clause-back : goal.returns-clause-back
returns-clause-back c =
    let i = c.self.inside in
    rw (← c.self.view_is, c.leave.ensures.standings, c.put_back.ensures.grace) (loses-living i.side.post c.put_back.new.self.post i.side.grace.plain.number i.side.grace.tracing.number i.slots.slots.items i.begun.counts.items i.standings.standings.items (left_by c.args.units.items i.standings.standings.items) (numbers c.args.units.items) c.put_back.ensures.back)

pub returns-clause-does : goal.returns-clause-does
returns-clause-does c =
    let i = c.self.inside in
    let us = c.args.units.items in
    let ss = i.standings.standings.items in
    let p = i.side.grace.plain.number in
    let t = i.side.grace.tracing.number in
    let holds = subst (λ (s : LivingState). Holds (rights_living s) us) (sym c.self.view_is) c.requires.mine in
    let fit = subst (λ (s : LivingState). All (MayLeave (rights_living s)) us) (sym c.self.view_is) c.requires.fit in
    let a : LivingState = record { side = i.side; slots = i.slots.slots.items; begun = i.begun.counts.items; standings = ss; asked = i.asked; contents = i.contents; graphs = i.graphs } in
    let waits = waits-left (act.Returns (sealed us)) p t i.slots.slots.items us ss (λ x y h. h) c.self.invariant.0.standing holds.once (numbers-fit p t ss i.side.post i.slots.slots.items i.begun.counts.items us c.self.invariant.0.standing.size fit) (leave-over p t ss i.side.post i.slots.slots.items i.begun.counts.items us fit) in
    rw (← c.self.view_is, c.leave.ensures.standings) (lifts-so (act.Returns (sealed us) ∷ []) a (record a { side = c.put_back.new.self; standings = left_by us ss }) refl refl (omega arith) refl refl waits (λ n s. kept-sealed us ss n s.0) (made-one (act.Returns (sealed us)) (λ w. refl) (λ w. refl) (λ names w. refl)) c.put_back.ensures.does)

pub returns-clause-lasts : goal.returns-clause-lasts
returns-clause-lasts c =
    let i = c.self.inside in
    let us = c.args.units.items in
    let p = i.side.grace.plain.number in
    let t = i.side.grace.tracing.number in
    let ss = i.standings.standings.items in
    rw (← c.self.view_is, c.leave.ensures.standings, c.put_back.ensures.grace) (lasting-left (numbers us) i.side.post c.put_back.new.self.post p t i.slots.slots.items i.begun.counts.items ss us (loses-living i.side.post c.put_back.new.self.post p t i.slots.slots.items i.begun.counts.items ss (left_by us ss) (numbers us) c.put_back.ensures.back))

pub returns-clause-gives : goal.returns-clause-gives
returns-clause-gives c settled =
    let i = c.self.inside in
    let us = c.args.units.items in
    let ss = i.standings.standings.items in
    let p = i.side.grace.plain.number in
    let t = i.side.grace.tracing.number in
    let holds = subst (λ (s : LivingState). Holds (rights_living s) us) (sym c.self.view_is) c.requires.mine in
    let fit = subst (λ (s : LivingState). All (MayLeave (rights_living s)) us) (sym c.self.view_is) c.requires.fit in
    let all = subst (λ (s : LivingState). All (IsSettled (rights_living s)) us) (sym c.self.view_is) settled in
    let a : LivingState = record { side = i.side; slots = i.slots.slots.items; begun = i.begun.counts.items; standings = ss; asked = i.asked; contents = i.contents; graphs = i.graphs } in
    let waits = waits-given us ss holds.once (numbers-fit p t ss i.side.post i.slots.slots.items i.begun.counts.items us c.self.invariant.0.standing.size fit) (settled-waited i.begun.counts.items ss us all) in
    rw (← c.self.view_is, c.leave.ensures.standings) (lifts-so (act.GivesBack (numbers us) ∷ []) a (record a { side = c.put_back.new.self; standings = left_by us ss }) refl refl (omega arith) refl refl waits (λ n s. left-other us ss n s.0) (made-one (act.GivesBack (numbers us)) (λ w. refl) (λ w. refl) (λ names w. refl)) (c.put_back.ensures.gives (settled-post p t ss i.side.post i.slots.slots.items i.begun.counts.items us all)))
