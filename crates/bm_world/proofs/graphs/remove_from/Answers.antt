use Rattle.bm_journal.specs.declared.past.PastCall.TheVariants as past
use Rattle.bm_world.specs.GraphItems.{TreeGrows}
use Rattle.bm_world.specs.Graphs.{Grows}
use Rattle.bm_world.specs.NamedGraphs.{tree_named}
use Rattle.bm_world.proofs.GraphsDid.{ok-so}
use Rattle.bm_world.proofs.graphs.remove_from.Goals as goal

pub returns-clause-grows : goal.returns-clause-grows
returns-clause-grows c =
    let name = c.args.graph.now.name in
    let call = past.Remove c.args.id in
    rw c.in-Tree.is (ok-so c.take_out.result (λ position. TreeGrows c.in-Tree.tree c.take_out.new.tree position call c.args.tag) (λ position. Grows (tree_named name c.in-Tree.tree) (tree_named name c.take_out.new.tree) position call c.args.tag) (λ position grows. grows name) c.take_out.ensures.grows)
