use Rattle.std.proofs.Common.{arith, ◌≡◌, ◌∙◌, ℕ, ap, length, subst, sym, [], ◌∷◌, refl, Ok, Err, Result}
use Rattle.std.specs.List.{All}
use Rattle.bm_post.specs.Rights.{Holds, IsSettled, MayLeave, WaitedBy, numbers}
use Rattle.bm_law_order.specs.Act as act
use Rattle.bm_law_order.specs.Act.{sealed}
use Rattle.bm_world.specs.LivingState.{AreLiving, LivingState, rights_living, rights_with_living}
use Rattle.bm_world.specs.Standings.{copied, left_by, standing_at, waits_told}
use Rattle.bm_world.proofs.Alive.{holds-post, lasting-sent, leave-over, leave-post, living-sent, numbers-fit, settled-post, settled-waited, waited-over, waited-post}
use Rattle.bm_world.proofs.Left.{Standings, back-same, copied-size, left-other, left-size}
use Rattle.bm_world.proofs.LivingDid.{kept-sealed, lifts-so, made-one, waits-drained, waits-left, waits-released}
use Rattle.bm_world.proofs.living.LivingSidePost.send.Goals as goal

pub send-requires-clause-mine : goal.send-requires-clause-mine
send-requires-clause-mine c =
    let i = c.self.inside in
    holds-post i.side.grace.plain.number i.side.grace.tracing.number i.standings.standings.items i.side.post i.slots.slots.items i.begun.counts.items c.args.units.items (subst (λ (s : LivingState). Holds (rights_living s) c.args.units.items) (sym c.self.view_is) c.requires.mine)

pub send-requires-clause-fit : goal.send-requires-clause-fit
send-requires-clause-fit c =
    let i = c.self.inside in
    leave-post i.side.grace.plain.number i.side.grace.tracing.number i.standings.standings.items i.side.post i.slots.slots.items i.begun.counts.items c.args.units.items (subst (λ (s : LivingState). All (MayLeave (rights_living s)) c.args.units.items) (sym c.self.view_is) c.requires.fit)

pub invariant_of-self : goal.invariant_of-self
invariant_of-self c =
    let i = c.self.inside in
    let us = c.args.units.items in
    let ss = i.standings.standings.items in
    let holds = subst (λ (s : LivingState). Holds (rights_living s) us) (sym c.self.view_is) c.requires.mine in
    let fit = subst (λ (s : LivingState). All (MayLeave (rights_living s)) us) (sym c.self.view_is) c.requires.fit in
    let sent : Result ℕ ℕ = Ok 0 in
    (rw (c.leave.ensures.standings, c.send.ensures.grace) (living-sent sent c.args.to c.args.class i.side.post c.send.new.self.post i.side.grace.plain.number i.side.grace.tracing.number i.slots.slots.items i.begun.counts.items ss (left_by us ss) i.asked us c.in-Ok.ensures.state tt refl tt holds fit c.in-Ok.ensures.sent c.self.invariant.0), ap length c.leave.ensures.before ∙ (copied-size us ss i.standings.before.items ∙ c.self.invariant.1), c.self.invariant.2)

pub come_back-requires-clause-size : goal.come_back-requires-clause-size
come_back-requires-clause-size c = let i = c.self.inside in ap length c.leave.ensures.standings ∙ (left-size c.args.units.items i.standings.standings.items ∙ c.self.invariant.0.standing.size)

pub come_back-requires-clause-room : goal.come_back-requires-clause-room
come_back-requires-clause-room c = let i = c.self.inside in ap length c.leave.ensures.before ∙ (copied-size c.args.units.items i.standings.standings.items i.standings.before.items ∙ c.self.invariant.1)

pub returns-in-Err-clause-err_standings : goal.returns-in-Err-clause-err_standings
returns-in-Err-clause-err_standings c =
    let i = c.self.inside in
    let us = c.args.units.items in
    let ss = i.standings.standings.items in
    let b = i.standings.before.items in
    let same : c.in-Err.units.items ≡ us = c.in-Err.ensures.refused in
    let size = c.self.invariant.0.standing.size in
    let room = c.self.invariant.1 in
    let back : c.come_back.new.self.standings.items ≡ copied us (copied us ss b) (left_by us ss) =
    c.come_back.ensures.standings ∙ (ap (λ xs. copied xs c.leave.new.self.before.items c.leave.new.self.standings.items) same ∙ (ap (λ (x : Standings). copied us x c.leave.new.self.standings.items) c.leave.ensures.before ∙ ap (λ (x : Standings). copied us (copied us ss b) x) c.leave.ensures.standings)) in
    rw (← c.self.view_is) (back ∙ back-same us ss b (room ∙ sym size))

pub invariant_of-self-in-Err : goal.invariant_of-self-in-Err
invariant_of-self-in-Err c =
    let i = c.self.inside in
    let ss = i.standings.standings.items in
    let stay : c.come_back.new.self.standings.items ≡ ss = subst (λ (s : LivingState). c.come_back.new.self.standings.items ≡ s.standings) (sym c.self.view_is) (returns-in-Err-clause-err_standings c) in
    let P : Standings → Type 0 = λ x. AreLiving i.side.post i.side.grace.plain.number i.side.grace.tracing.number i.slots.slots.items i.begun.counts.items x i.asked in
    (rw (c.send.ensures.grace, c.in-Err.ensures.err_state) (subst P (sym stay) c.self.invariant.0), ap length c.come_back.ensures.before ∙ (ap length c.leave.ensures.before ∙ (copied-size c.args.units.items ss i.standings.before.items ∙ c.self.invariant.1)), c.self.invariant.2)

pub returns-in-Ok-clause-lasts : goal.returns-in-Ok-clause-lasts
returns-in-Ok-clause-lasts c =
    let i = c.self.inside in
    let us = c.args.units.items in
    let ss = i.standings.standings.items in
    let sent : Result ℕ ℕ = Ok 0 in
    rw (← c.self.view_is, c.leave.ensures.standings, c.send.ensures.grace) (lasting-sent sent (numbers us) i.side.post c.send.new.self.post i.side.grace.plain.number i.side.grace.tracing.number i.slots.slots.items i.begun.counts.items ss (left_by us ss) us tt refl tt c.in-Ok.ensures.sent)

pub returns-in-Ok-clause-does : goal.returns-in-Ok-clause-does
returns-in-Ok-clause-does c =
    let i = c.self.inside in
    let us = c.args.units.items in
    let ss = i.standings.standings.items in
    let p = i.side.grace.plain.number in
    let t = i.side.grace.tracing.number in
    let holds = subst (λ (s : LivingState). Holds (rights_living s) us) (sym c.self.view_is) c.requires.mine in
    let fit = subst (λ (s : LivingState). All (MayLeave (rights_living s)) us) (sym c.self.view_is) c.requires.fit in
    let a : LivingState = record { side = i.side; slots = i.slots.slots.items; begun = i.begun.counts.items; standings = ss; asked = i.asked; contents = i.contents; graphs = i.graphs } in
    let waits = waits-left (act.Sends c.args.class c.args.to (sealed us)) p t i.slots.slots.items us ss (λ x y h. h) c.self.invariant.0.standing holds.once (numbers-fit p t ss i.side.post i.slots.slots.items i.begun.counts.items us c.self.invariant.0.standing.size fit) (leave-over p t ss i.side.post i.slots.slots.items i.begun.counts.items us fit) in
    rw (← c.self.view_is, c.leave.ensures.standings) (lifts-so (act.Sends c.args.class c.args.to (sealed us) ∷ []) a (record a { side = c.send.new.self; standings = left_by us ss }) refl refl (omega arith) refl refl waits (λ n s. kept-sealed us ss n s.0) (made-one (act.Sends c.args.class c.args.to (sealed us)) (λ w. refl) (λ w. refl) (λ names w. refl)) c.in-Ok.ensures.does)

pub returns-in-Err-clause-lasts : goal.returns-in-Err-clause-lasts
returns-in-Err-clause-lasts c =
    let i = c.self.inside in
    let us = c.args.units.items in
    let ss = i.standings.standings.items in
    let refused : Result ℕ ℕ = Err 0 in
    let stay : c.come_back.new.self.standings.items ≡ ss = subst (λ (s : LivingState). c.come_back.new.self.standings.items ≡ s.standings) (sym c.self.view_is) (returns-in-Err-clause-err_standings c) in
    rw (← c.self.view_is, c.send.ensures.grace) (lasting-sent refused (numbers us) i.side.post c.send.new.self.post i.side.grace.plain.number i.side.grace.tracing.number i.slots.slots.items i.begun.counts.items ss c.come_back.new.self.standings.items us c.in-Err.ensures.err_state tt stay tt)

pub returns-in-Err-clause-may : goal.returns-in-Err-clause-may
returns-in-Err-clause-may c =
    let i = c.self.inside in
    let us = c.args.units.items in
    let ss = i.standings.standings.items in
    let stay : c.come_back.new.self.standings.items ≡ ss = subst (λ (s : LivingState). c.come_back.new.self.standings.items ≡ s.standings) (sym c.self.view_is) (returns-in-Err-clause-err_standings c) in
    let P : Standings → Type 0 = λ x. All (MayLeave (rights_with_living i.side.post i.side.grace.plain.number i.side.grace.tracing.number i.slots.slots.items i.begun.counts.items x)) us in
    let fit : P ss = subst (λ (s : LivingState). All (MayLeave (rights_living s)) us) (sym c.self.view_is) c.requires.fit in
    rw (c.send.ensures.grace) (subst P (sym stay) fit)

pub returns-in-Err-clause-idle : goal.returns-in-Err-clause-idle
returns-in-Err-clause-idle c =
    let i = c.self.inside in
    let ss = i.standings.standings.items in
    let stay : c.come_back.new.self.standings.items ≡ ss = subst (λ (s : LivingState). c.come_back.new.self.standings.items ≡ s.standings) (sym c.self.view_is) (returns-in-Err-clause-err_standings c) in
    let a : LivingState = record { side = i.side; slots = i.slots.slots.items; begun = i.begun.counts.items; standings = ss; asked = i.asked; contents = i.contents; graphs = i.graphs } in
    rw (← c.self.view_is) (lifts-so [] a (record a { side = c.send.new.self; standings = c.come_back.new.self.standings.items }) refl refl (omega arith) refl refl (ap waits_told stay) (λ n s. ap (λ xs. standing_at xs n) stay) (λ w. refl, λ w. refl, λ names w. refl) c.in-Err.ensures.idle)

pub returns-in-Ok-clause-drains : goal.returns-in-Ok-clause-drains
returns-in-Ok-clause-drains c settled =
    let i = c.self.inside in
    let us = c.args.units.items in
    let ss = i.standings.standings.items in
    let p = i.side.grace.plain.number in
    let t = i.side.grace.tracing.number in
    let holds = subst (λ (s : LivingState). Holds (rights_living s) us) (sym c.self.view_is) c.requires.mine in
    let fit = subst (λ (s : LivingState). All (MayLeave (rights_living s)) us) (sym c.self.view_is) c.requires.fit in
    let all = subst (λ (s : LivingState). All (IsSettled (rights_living s)) us) (sym c.self.view_is) settled in
    let a : LivingState = record { side = i.side; slots = i.slots.slots.items; begun = i.begun.counts.items; standings = ss; asked = i.asked; contents = i.contents; graphs = i.graphs } in
    let waits = waits-drained c.args.class c.args.to us ss holds.once (numbers-fit p t ss i.side.post i.slots.slots.items i.begun.counts.items us c.self.invariant.0.standing.size fit) (settled-waited i.begun.counts.items ss us all) in
    rw (← c.self.view_is, c.leave.ensures.standings) (lifts-so (act.Drains c.args.class c.args.to (numbers us) ∷ []) a (record a { side = c.send.new.self; standings = left_by us ss }) refl refl (omega arith) refl refl waits (λ n s. left-other us ss n s.0) (made-one (act.Drains c.args.class c.args.to (numbers us)) (λ w. refl) (λ w. refl) (λ names w. refl)) (c.in-Ok.ensures.drains (settled-post p t ss i.side.post i.slots.slots.items i.begun.counts.items us all)))

pub returns-in-Ok-clause-releases : goal.returns-in-Ok-clause-releases
returns-in-Ok-clause-releases c seal waited =
    let i = c.self.inside in
    let us = c.args.units.items in
    let ss = i.standings.standings.items in
    let p = i.side.grace.plain.number in
    let t = i.side.grace.tracing.number in
    let holds = subst (λ (s : LivingState). Holds (rights_living s) us) (sym c.self.view_is) c.requires.mine in
    let fit = subst (λ (s : LivingState). All (MayLeave (rights_living s)) us) (sym c.self.view_is) c.requires.fit in
    let all = subst (λ (s : LivingState). All (WaitedBy (rights_living s) seal) us) (sym c.self.view_is) waited in
    let a : LivingState = record { side = i.side; slots = i.slots.slots.items; begun = i.begun.counts.items; standings = ss; asked = i.asked; contents = i.contents; graphs = i.graphs } in
    let waits = waits-released c.args.class c.args.to p t seal us ss holds.once (numbers-fit p t ss i.side.post i.slots.slots.items i.begun.counts.items us c.self.invariant.0.standing.size fit) (waited-over p t ss i.side.post i.slots.slots.items i.begun.counts.items us seal all) in
    rw (← c.self.view_is, c.leave.ensures.standings) (lifts-so (act.Releases c.args.class c.args.to (numbers us) seal.stamp seal.seen ∷ []) a (record a { side = c.send.new.self; standings = left_by us ss }) refl refl (omega arith) refl refl waits (λ n s. left-other us ss n s.0) (made-one (act.Releases c.args.class c.args.to (numbers us) seal.stamp seal.seen) (λ w. refl) (λ w. refl) (λ names w. refl)) (c.in-Ok.ensures.releases seal (waited-post p t ss i.side.post i.slots.slots.items i.begun.counts.items us seal all)))
