use Rattle.bm_world.proofs.Alive.{living-received, receives-living}
use Rattle.bm_world.proofs.Lived.{lived-received, parcel-lived}
use Rattle.bm_world.proofs.living.LivingSidePost.receive.Goals as goal
use Rattle.std.proofs.Common.{arith, [], ◌∷◌, refl}
use Rattle.std.specs.Option.{option_map_or}
use Rattle.bm_law_order.specs.Act as act
use Rattle.bm_post.specs.Rights.{numbers}
use Rattle.bm_world.proofs.LivingDid.{keep-one, lifts, made-one}

pub invariant_of-self : goal.invariant_of-self
invariant_of-self c =
    let i = c.self.inside in
    let said = c.receive.ensures in (
      rw c.receive.ensures.grace (living-received i.side.grace.plain.number i.side.grace.tracing.number i.standings.standings.items c.receive.result (λ v. v.items) c.args.class i.side.post c.receive.new.self.post i.slots.slots.items i.begun.counts.items i.asked said.state said.none_state said.some said.none
          (lived-received c.receive.result c.args.class i.begun.counts.items i.standings.standings.items i.side.post c.receive.new.self.post said.state said.none_state c.self.invariant.0.lived) c.self.invariant.0),
      c.self.invariant.1,
      c.self.invariant.2,
    )

pub returns-clause-some : goal.returns-clause-some
returns-clause-some c =
    let i = c.self.inside in
    let said = c.receive.ensures in
    let lived = parcel-lived c.receive.result (λ v. v.items) c.args.class i.begun.counts.items i.standings.standings.items i.side.post c.receive.new.self.post said.oldest c.self.invariant.0.lived in
    rw (← c.self.view_is, c.receive.ensures.grace) (receives-living i.side.grace.plain.number i.side.grace.tracing.number i.standings.standings.items c.receive.result (λ v. v.items) c.args.class i.side.post c.receive.new.self.post i.slots.slots.items i.begun.counts.items i.asked c.self.invariant.0 lived said.some)

pub returns-clause-does : goal.returns-clause-does
returns-clause-does c =
    let i = c.self.inside in
    rw (← c.self.view_is) (lifts (act.Receives c.args.class (option_map_or (λ units. numbers units.items) c.receive.result []) ∷ []) (record { side = i.side; slots = i.slots.slots.items; begun = i.begun.counts.items; standings = i.standings.standings.items; asked = i.asked; contents = i.contents; graphs = i.graphs }) (record { side = c.receive.new.self; slots = i.slots.slots.items; begun = i.begun.counts.items; standings = i.standings.standings.items; asked = i.asked; contents = i.contents; graphs = i.graphs }) refl refl (omega arith) refl refl refl (keep-one (act.Receives c.args.class (option_map_or (λ units. numbers units.items) c.receive.result [])) (λ w. refl)) (made-one (act.Receives c.args.class (option_map_or (λ units. numbers units.items) c.receive.result [])) (λ w. refl) (λ w. refl) (λ names w. refl)) c.receive.ensures.does)
