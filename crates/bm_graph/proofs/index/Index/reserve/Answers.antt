use Rattle.bm_graph.proofs.index.Index.reserve.Goals as goal

pub returns-clause-same : goal.returns-clause-same
returns-clause-same c = λ q. c.reserve.ensures.entries.2 (q.unit, q.life)
