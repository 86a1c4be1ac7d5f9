use Rattle.bm_graph.proofs.index.Index.insert.Goals as goal

pub returns : goal.returns
returns c = λ q. c.in-Ok.ensures.updates.0 (q.unit, q.life)
