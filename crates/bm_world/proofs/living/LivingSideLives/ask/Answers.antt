use Rattle.std.proofs.Common.{arith, [], refl, ◌+◌}
use Rattle.bm_world.proofs.LivingDid.{lifts}
use Rattle.bm_world.specs.Told.{does-same}
use Rattle.bm_world.proofs.living.LivingSideLives.ask.Goals as goal

pub returns-clause-does : goal.returns-clause-does
returns-clause-does c =
    let i = c.self.inside in
    rw (← c.self.view_is) (lifts [] (record { side = i.side; slots = i.slots.slots.items; begun = i.begun.counts.items; standings = i.standings.standings.items; asked = i.asked; contents = i.contents; graphs = i.graphs }) (record { side = i.side; slots = i.slots.slots.items; begun = i.begun.counts.items; standings = i.standings.standings.items; asked = i.asked + 1; contents = i.contents; graphs = i.graphs }) refl refl (omega arith) refl refl refl (λ w. refl) (λ w. refl, λ w. refl, λ names w. refl) (does-same i.side))
