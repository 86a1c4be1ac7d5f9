use Rattle.bm_law_laid.proofs.NamedParts.{named-count, named-parts}
use Rattle.bm_law_laid.proofs.logs.named_law.Goals as goal

pub returns-clause-times : goal.returns-clause-times
returns-clause-times c = named-parts

pub returns-clause-count : goal.returns-clause-count
returns-clause-count c = named-count
