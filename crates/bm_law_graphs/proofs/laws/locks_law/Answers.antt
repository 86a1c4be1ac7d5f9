use Rattle.bm_law_graphs.proofs.LocksAlong.{logs-consecutive}
use Rattle.bm_law_graphs.proofs.laws.locks_law.Goals as goal

pub returns : goal.returns
returns c = record { logs = logs-consecutive }
