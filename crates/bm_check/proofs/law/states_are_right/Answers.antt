use Rattle.bm_check.proofs.LawLemmas as law
use Rattle.bm_check.proofs.law.states_are_right.Goals as goal

pub returns : goal.returns
returns c = law.states_are_right
