use Rattle.std.proofs.Common.{◌≡◌, ◌++◌, drop}
use Rattle.bm_journal.specs.JournalText.{graph_lines}
use Rattle.bm_journal.proofs.text.put_graph_lines.Given as goal

-- what stands there and what is still to come
abbrev pub invariant-loop-graph : goal.invariant-loop-graph
invariant-loop-graph l = l.out.items ++ graph_lines l.maps (drop l.graph-index l.graphs) ≡ l.fn.out.items ++ graph_lines l.maps l.graphs
