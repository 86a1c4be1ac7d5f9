use Rattle.bm_law_laid.proofs.GraceOver.{logs-grace}
use Rattle.bm_law_laid.proofs.OverLogs.{logs-ended, logs-lives, logs-numbers, logs-receivers, logs-returns}
use Rattle.bm_law_laid.proofs.PagesNamed.{logs-short}
use Rattle.bm_law_laid.proofs.SectionsSaid.{logs-words}
use Rattle.bm_law_laid.proofs.StampsAlong.{logs-seen, logs-stamps}
use Rattle.bm_law_laid.proofs.logs.journal_law.Goals as goal

pub returns-clause-numbers : goal.returns-clause-numbers
returns-clause-numbers c = logs-numbers

pub returns-clause-given : goal.returns-clause-given
returns-clause-given c = logs-lives

pub returns-clause-returned : goal.returns-clause-returned
returns-clause-returned c = logs-returns

pub returns-clause-short : goal.returns-clause-short
returns-clause-short c = logs-short

pub returns-clause-receivers : goal.returns-clause-receivers
returns-clause-receivers c = logs-receivers

pub returns-clause-grace : goal.returns-clause-grace
returns-clause-grace c = logs-grace

pub returns-clause-stamps : goal.returns-clause-stamps
returns-clause-stamps c = logs-stamps

pub returns-clause-seen : goal.returns-clause-seen
returns-clause-seen c = logs-seen

pub returns-clause-ended : goal.returns-clause-ended
returns-clause-ended c = logs-ended

pub returns-clause-words : goal.returns-clause-words
returns-clause-words c = logs-words
