use Rattle.bm_law_seals.proofs.Whole.{seals-fit}
use Rattle.bm_law_seals.proofs.laws.seals_law.Goals as goal

pub returns : goal.returns
returns c = seals-fit
