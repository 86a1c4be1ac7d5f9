use Rattle.bm_graph.proofs.index.Index.remove.Goals as goal

pub returns : goal.returns
returns c = λ q. c.remove-place.ensures.updates.0 (q.unit, q.life)
