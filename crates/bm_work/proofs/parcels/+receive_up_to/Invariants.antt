use Rattle.bm_work.proofs.parcels.+receive_up_to.Given as goal

abbrev pub decreases-receive_up_to : goal.decreases-receive_up_to
decreases-receive_up_to g l = l.left
