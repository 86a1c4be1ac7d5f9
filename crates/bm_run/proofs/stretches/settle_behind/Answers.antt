use Rattle.bm_run.proofs.Results.{both-on-ok}
use Rattle.bm_run.proofs.stretches.settle_behind.Goals as goal

pub returns-clause-wrote : goal.returns-clause-wrote
returns-clause-wrote g c = rw c.in-Some.is (both-on-ok c.settle_script.result _ _ _ c.settle_script.ensures.grew c.settle_script.ensures.statements (λ g s. record { grew = g; ordinary = s.ordinary }))
