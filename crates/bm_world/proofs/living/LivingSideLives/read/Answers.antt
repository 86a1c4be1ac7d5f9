use Rattle.std.proofs.Common.{◌∙◌, ap, subst, sym}
use Rattle.std.specs.Prelude.{slice_get}
use Rattle.bm_grace.specs.Known.{Living}
use Rattle.bm_world.specs.Lives.{HasLife}
use Rattle.bm_world.specs.LivingState.{LivingState, lives_of}
use Rattle.bm_world.specs.Slots.{object_at, unit_of}
use Rattle.bm_world.proofs.KnownLiving.{counted-at, is-living, values-told}
use Rattle.bm_world.proofs.LivingDid.{does-read}
use Rattle.bm_world.proofs.living.LivingSideLives.read.Goals as goal

pub returns-clause-value : goal.returns-clause-value
returns-clause-value c =
    let i = c.self.inside in
    rw (← c.self.view_is) (ap (λ xs. slice_get xs c.args.place) (values-told (object_at i.slots.slots.items c.args.object.unit)) ∙ c.value.ensures)

pub returns-clause-does : goal.returns-clause-does
returns-clause-does c =
    let i = c.self.inside in
    let n = c.args.object.unit in
    let life = c.args.object.life in
    let lives = subst (λ (s : LivingState). (l : Living) × HasLife (lives_of s.slots) n life l) (sym c.self.view_is) c.requires.lives in
    let alive = is-living i.slots.slots.items n life lives.0 lives.1 in
    let counted = counted-at i.asked i.slots.slots.items n life alive (c.self.invariant.0.counted n) in
    let a : LivingState = record { side = i.side; slots = i.slots.slots.items; begun = i.begun.counts.items; standings = i.standings.standings.items; asked = i.asked; contents = i.contents; graphs = i.graphs } in
    rw (← c.self.view_is) (does-read n life c.args.place c.value.result a alive.object alive.is (sym alive.now_is ∙ c.self.invariant.0.life n alive.object.unit (ap unit_of alive.is)) c.value.ensures)
