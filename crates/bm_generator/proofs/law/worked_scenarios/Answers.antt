use Rattle.bm_generator.proofs.WorkedLemmas.{worked}
use Rattle.bm_generator.proofs.law.worked_scenarios.Goals as goal

pub returns : goal.returns
returns c = worked
