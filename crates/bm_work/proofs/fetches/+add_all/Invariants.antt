use Rattle.bm_work.proofs.fetches.+add_all.Given as goal

abbrev pub decreases-add_all : goal.decreases-add_all
decreases-add_all g l = l.left
