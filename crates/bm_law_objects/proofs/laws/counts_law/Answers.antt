use Rattle.bm_law_objects.proofs.References.{counts-over, laid-counts, logs-counts}
use Rattle.bm_law_objects.proofs.laws.counts_law.Goals as goal

pub returns-clause-part : goal.returns-clause-part
returns-clause-part c = counts-over

pub returns-clause-logs : goal.returns-clause-logs
returns-clause-logs c = logs-counts

pub returns-clause-laid : goal.returns-clause-laid
returns-clause-laid c = laid-counts
