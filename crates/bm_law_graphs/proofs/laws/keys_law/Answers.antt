use Rattle.bm_law_graphs.proofs.KeysAlong.{logs-keys}
use Rattle.bm_law_graphs.proofs.laws.keys_law.Goals as goal

pub returns : goal.returns
returns c = record { logs = logs-keys }
