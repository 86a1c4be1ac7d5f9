use Rattle.bm_tree.proofs.Slots.{slot_read, free_full}
use Rattle.bm_tree.proofs.arena.fill.Goals as goal

pub unreachable-requires : goal.unreachable-requires
unreachable-requires g c =
    free_full _ _ _ _ c.requires.free.1
    (slot_read c.args.slots.now c.args.place c.index-slots-place.result c.replace.result _ c.requires.inside c.index-slots-place.is c.replace.ensures.value c.in-Full.is)

pub returns-clause-was : goal.returns-clause-was
returns-clause-was g c =
    slot_read c.args.slots.now c.args.place c.index-slots-place.result c.replace.result _ c.requires.inside c.index-slots-place.is c.replace.ensures.value c.in-Free.is
