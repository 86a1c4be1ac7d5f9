use Rattle.bm_tree.proofs.Slots.{slot_read, full_free}
use Rattle.bm_tree.proofs.arena.empty.Goals as goal

pub unreachable-requires : goal.unreachable-requires
unreachable-requires g c =
    full_free _ _ c.requires.full
    (slot_read c.args.slots.now c.args.place c.index-slots-place.result c.replace.result _ c.requires.inside c.index-slots-place.is c.replace.ensures.value c.in-Free.is)

pub returns-clause-was : goal.returns-clause-was
returns-clause-was g c =
    slot_read c.args.slots.now c.args.place c.index-slots-place.result c.replace.result _ c.requires.inside c.index-slots-place.is c.replace.ensures.value c.in-Full.is
