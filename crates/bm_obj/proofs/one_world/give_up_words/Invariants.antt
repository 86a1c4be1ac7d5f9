use Rattle.bm_obj.proofs.one_world.give_up_words.Given as goal

abbrev pub decreases-loop-word : goal.decreases-loop-word
decreases-loop-word l = goal.left-loop-word l
