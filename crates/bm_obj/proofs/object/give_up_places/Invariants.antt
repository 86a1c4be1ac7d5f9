use Rattle.bm_obj.proofs.object.give_up_places.Given as goal

abbrev pub decreases-loop-place : goal.decreases-loop-place
decreases-loop-place l = goal.left-loop-place l
