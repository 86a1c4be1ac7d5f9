use Rattle.std.proofs.Common.{ℕ, Option}
use Rattle.bm_journal.specs.declared.ids.ObjId.{ObjId}
use Rattle.bm_graph.specs.Calls.{first_call}
use Rattle.bm_world.specs.GraphItems.{TreeGrows}
use Rattle.bm_world.specs.Graphs.{Grows}
use Rattle.bm_world.specs.NamedGraphs.{tree_named}
use Rattle.bm_world.proofs.GraphsDid.{ok-so}
use Rattle.bm_world.proofs.graphs.first_of.Goals as goal

pub returns-clause-grows : goal.returns-clause-grows
returns-clause-grows c =
    let name = c.args.graph.now.name in
    rw c.in-Tree.is (ok-so c.look_first.result (λ (a : ℕ × Option ObjId). TreeGrows c.in-Tree.tree c.look_first.new.tree a.0 (first_call a.1) c.args.tag) (λ (a : ℕ × Option ObjId). Grows (tree_named name c.in-Tree.tree) (tree_named name c.look_first.new.tree) a.0 (first_call a.1) c.args.tag) (λ a grows. grows name) c.look_first.ensures.grows)
