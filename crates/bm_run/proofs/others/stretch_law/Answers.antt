use Rattle.bm_run.proofs.Stretch.{stretched}
use Rattle.bm_run.proofs.others.stretch_law.Goals as goal

pub returns : goal.returns
returns c = stretched
