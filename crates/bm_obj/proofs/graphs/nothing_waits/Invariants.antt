use Rattle.std.proofs.Common.{◌≡◌, ◌≤◌, None, replicate, vec_len, vec_capacity}
use Rattle.bm_obj.proofs.graphs.nothing_waits.Given as goal

abbrev pub invariant-loop-graph : goal.invariant-loop-graph
invariant-loop-graph l = record { waits : l.waits.items ≡ replicate l._graph None; number : vec_len l.waits ≡ l._graph; room : l.count ≤ vec_capacity l.waits }
