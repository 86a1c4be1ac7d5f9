use Rattle.bm_law_logs.proofs.Closed.{told-sweeps}
use Rattle.bm_law_logs.proofs.sweeps.sweeps_law.Goals as goal

pub returns : goal.returns
returns c = told-sweeps
