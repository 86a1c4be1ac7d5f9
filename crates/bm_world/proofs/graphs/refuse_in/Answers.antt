use Rattle.bm_graph.specs.Refused.{refused_call}
use Rattle.bm_world.specs.GraphItems.{ListGrows, TreeGrows}
use Rattle.bm_world.specs.Graphs.{Grows}
use Rattle.bm_world.specs.NamedGraphs.{list_named, tree_named}
use Rattle.bm_world.proofs.GraphsDid.{ok-so}
use Rattle.bm_world.proofs.graphs.refuse_in.Goals as goal

pub returns-in-List-clause-grows : goal.returns-in-List-clause-grows
returns-in-List-clause-grows c =
    let name = c.args.graph.now.name in
    let call = refused_call c.call_of-call.result c.args.id c.args.owner in
    rw (c.in-List.is, ← c.call_of-call.ensures.named c.args.id c.args.owner) (ok-so c.refuse_push.result (λ position. ListGrows c.in-List.list c.refuse_push.new.list position call c.args.tag) (λ position. Grows (list_named name c.in-List.list) (list_named name c.refuse_push.new.list) position call c.args.tag) (λ position grows. grows name) c.refuse_push.ensures.grows)

pub returns-in-Tree-clause-grows : goal.returns-in-Tree-clause-grows
returns-in-Tree-clause-grows c =
    let name = c.args.graph.now.name in
    let call = refused_call c.call_of-call.result c.args.id c.args.owner in
    rw (c.in-Tree.is, ← c.call_of-call.ensures.named c.args.id c.args.owner) (ok-so c.refuse_add.result (λ position. TreeGrows c.in-Tree.tree c.refuse_add.new.tree position call c.args.tag) (λ position. Grows (tree_named name c.in-Tree.tree) (tree_named name c.refuse_add.new.tree) position call c.args.tag) (λ position grows. grows name) c.refuse_add.ensures.grows)
