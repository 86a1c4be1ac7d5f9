use Rattle.bm_world.proofs.Alive.{none-living}
use Rattle.bm_world.proofs.Shelving.{shelved-none}
use Rattle.bm_world.proofs.living.LivingSide.create.Goals as goal

pub invariant_of-result : goal.invariant_of-result
invariant_of-result c =
    (none-living c.args.side.post c.args.side.grace.plain.number c.args.side.grace.tracing.number c.in-Ok-new-2.slots.slots.items c.in-Ok.begun.counts.items c.in-Ok-new.standings.standings.items c.in-Ok-new-2.ensures.size c.in-Ok.ensures.size c.in-Ok-new.ensures.size c.in-Ok-new-2.ensures.empty c.in-Ok.ensures.none c.in-Ok-new.ensures.none c.requires.lived, c.in-Ok-new.ensures.room, shelved-none c.in-Ok-new-2.slots.slots.items c.args.graphs c.in-Ok-new-2.ensures.empty c.requires.bare)
