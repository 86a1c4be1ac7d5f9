use Rattle.bm_law_logs.proofs.Handled.{null-handled, replies-handled, rows-handled}
use Rattle.bm_law_logs.proofs.log.handled_law.Goals as goal

pub returns-clause-rows : goal.returns-clause-rows
returns-clause-rows c = rows-handled

pub returns-clause-replies : goal.returns-clause-replies
returns-clause-replies c = replies-handled

pub returns-clause-null : goal.returns-clause-null
returns-clause-null c = null-handled
