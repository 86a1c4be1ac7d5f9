use Rattle.bm_law_places.proofs.Logs.{log-placed, logs-placed}
use Rattle.bm_law_places.proofs.laws.logs_law.Goals as goal

pub returns-clause-logs : goal.returns-clause-logs
returns-clause-logs c = logs-placed

pub returns-clause-one : goal.returns-clause-one
returns-clause-one c = log-placed
