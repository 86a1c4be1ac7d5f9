use Rattle.bm_check.proofs.LawLemmas as law
use Rattle.bm_check.proofs.law.accepted_scripts_are_safe.Goals as goal

pub returns : goal.returns
returns c = law.accepted_is_safe
