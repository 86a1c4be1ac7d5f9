use Rattle.std.proofs.Common.{arith, [], ◌∷◌, refl}
use Rattle.bm_law_order.specs.Act as act
use Rattle.bm_world.proofs.LivingDid.{keep-one, lifts, made-one}
use Rattle.bm_world.proofs.living.LivingSideGrace.finish.Goals as goal

pub returns-clause-does : goal.returns-clause-does
returns-clause-does c =
    let i = c.self.inside in
    rw (← c.self.view_is) (lifts (act.Finishes c.finish.result ∷ []) (record { side = i.side; slots = i.slots.slots.items; begun = i.begun.counts.items; standings = i.standings.standings.items; asked = i.asked; contents = i.contents; graphs = i.graphs }) (record { side = c.finish.new.self; slots = i.slots.slots.items; begun = i.begun.counts.items; standings = i.standings.standings.items; asked = i.asked; contents = i.contents; graphs = i.graphs }) refl refl (omega arith) refl refl refl (keep-one (act.Finishes c.finish.result) (λ w. refl)) (made-one (act.Finishes c.finish.result) (λ w. refl) (λ w. refl) (λ names w. refl)) c.finish.ensures.does)
