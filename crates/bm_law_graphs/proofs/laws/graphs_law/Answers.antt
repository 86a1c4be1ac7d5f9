use Rattle.bm_law_graphs.proofs.Histories.{logs-history}
use Rattle.bm_law_graphs.proofs.KeysAlong.{logs-keys}
use Rattle.bm_law_graphs.proofs.LocksAlong.{logs-consecutive}
use Rattle.bm_law_graphs.proofs.RefusalsAlong.{refusals-over}
use Rattle.bm_law_graphs.proofs.TakesAlong.{logs-takes}
use Rattle.bm_law_graphs.proofs.laws.graphs_law.Goals as goal

pub returns : goal.returns
returns c = record {
  logs = λ names logs o is h empty. record {
    each = logs-history names logs o is h;
    keys = logs-keys names logs o is h;
    refusals = refusals-over names o h;
    locks = logs-consecutive names logs o is h;
    takes = logs-takes names logs o is h empty;
  };
}
