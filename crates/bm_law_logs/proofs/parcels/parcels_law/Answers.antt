use Rattle.bm_law_logs.proofs.WithHandlers.{parcels-handled}
use Rattle.bm_law_logs.proofs.parcels.parcels_law.Goals as goal

pub returns : goal.returns
returns c = parcels-handled
