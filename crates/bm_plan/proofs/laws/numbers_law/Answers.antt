use Rattle.bm_plan.proofs.Numbers.{steps-total}
use Rattle.bm_plan.proofs.laws.numbers_law.Goals as goal

pub returns-clause-steps : goal.returns-clause-steps
returns-clause-steps c = steps-total
