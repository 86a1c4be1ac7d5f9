use Rattle.bm_law_graphs.proofs.TakesAlong.{logs-takes, takes-over}
use Rattle.bm_law_graphs.proofs.laws.takes_law.Goals as goal

pub returns-clause-part : goal.returns-clause-part
returns-clause-part c = takes-over

pub returns-clause-logs : goal.returns-clause-logs
returns-clause-logs c = logs-takes
