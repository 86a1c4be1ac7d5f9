use Rattle.bm_world.proofs.slots.give_up_slots.Given as goal

abbrev pub decreases-loop-slot : goal.decreases-loop-slot
decreases-loop-slot l = goal.left-loop-slot l
