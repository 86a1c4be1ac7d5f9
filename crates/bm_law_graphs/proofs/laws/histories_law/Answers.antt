use Rattle.bm_law_graphs.proofs.Histories.{logs-history, placed-over}
use Rattle.bm_law_graphs.proofs.laws.histories_law.Goals as goal

pub returns-clause-part : goal.returns-clause-part
returns-clause-part c = placed-over

pub returns-clause-logs : goal.returns-clause-logs
returns-clause-logs c = logs-history
