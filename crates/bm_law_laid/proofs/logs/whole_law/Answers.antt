use Rattle.bm_law_laid.proofs.WholeOrder.{whole-order}
use Rattle.bm_law_laid.proofs.logs.whole_law.Goals as goal

pub returns : goal.returns
returns c = whole-order
