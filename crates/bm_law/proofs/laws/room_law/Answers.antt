use Rattle.bm_law.proofs.Once.{room-seen}
use Rattle.bm_law.proofs.laws.room_law.Goals as goal

pub returns : goal.returns
returns r c = room-seen
