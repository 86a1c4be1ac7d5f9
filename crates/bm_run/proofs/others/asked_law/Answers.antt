use Rattle.bm_run.proofs.Asked.{asked-most, asked-turn}
use Rattle.bm_run.proofs.others.asked_law.Goals as goal

pub returns-clause-each : goal.returns-clause-each
returns-clause-each c = asked-most

pub returns-clause-turn : goal.returns-clause-turn
returns-clause-turn c = asked-turn
