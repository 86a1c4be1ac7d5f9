use Rattle.bm_law_graphs.proofs.RefusalsAlong.{refusals-over}
use Rattle.bm_law_graphs.proofs.laws.refusals_law.Goals as goal

pub returns : goal.returns
returns c = record { histories = refusals-over }
