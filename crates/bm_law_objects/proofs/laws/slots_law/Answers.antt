use Rattle.bm_law_objects.proofs.Chains.{follow-over, logs-chain}
use Rattle.bm_law_objects.proofs.laws.slots_law.Goals as goal

pub returns-clause-part : goal.returns-clause-part
returns-clause-part c = follow-over

pub returns-clause-logs : goal.returns-clause-logs
returns-clause-logs c = logs-chain
