use Rattle.bm_law_order.proofs.Waited.{story-then-sealed}
use Rattle.bm_law_order.proofs.laws.wait_law.Goals as goal

pub returns : goal.returns
returns c = story-then-sealed
