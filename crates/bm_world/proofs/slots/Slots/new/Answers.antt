use Rattle.bm_world.proofs.SlotLemmas.{all-empty}
use Rattle.bm_world.proofs.slots.Slots.new.Goals as goal

pub returns-clause-empty : goal.returns-clause-empty
returns-clause-empty c = all-empty c.loop-place._place _ c.loop-place.invariant.slots
