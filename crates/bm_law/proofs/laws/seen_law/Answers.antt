use Rattle.bm_law.proofs.Seen.{seen-effect}
use Rattle.bm_law.proofs.laws.seen_law.Goals as goal

pub returns : goal.returns
returns r c = seen-effect
