use Rattle.bm_law_objects.proofs.ReadsAlong.{logs-reads, reads-over}
use Rattle.bm_law_objects.proofs.laws.reads_law.Goals as goal

pub returns-clause-part : goal.returns-clause-part
returns-clause-part c = reads-over

pub returns-clause-logs : goal.returns-clause-logs
returns-clause-logs c = logs-reads
