use Rattle.std.proofs.Common.{ap, subst, sym}
use Rattle.bm_world.specs.Lives.{PutLives}
use Rattle.bm_world.specs.LivingState.{LivingState, lives_of}
use Rattle.bm_world.specs.Slots.{unit_of}
use Rattle.bm_world.proofs.LivingDid.{does-exchange}
use Rattle.bm_world.proofs.living.LivingSideLives.exchange.Goals as goal

pub returns-clause-does : goal.returns-clause-does
returns-clause-does c =
    let i = c.self.inside in
    let a : LivingState = record { side = i.side; slots = i.slots.slots.items; begun = i.begun.counts.items; standings = i.standings.standings.items; asked = i.asked; contents = i.contents; graphs = i.graphs } in
    let lives = subst (λ (s : LivingState). PutLives (lives_of s.slots) c.args.put) (sym c.self.view_is) c.requires.lives in
    let e = c.exchange.ensures in
    rw (← c.self.view_is, e.held, e.by, e.slots) (does-exchange c.args.place c.args.put c.args.tag a (λ n o h. c.self.invariant.0.life n o.unit (ap unit_of h)) lives (rw e.slots at e.told) e.named)
