use Rattle.bm_journal.specs.declared.past.PastCall.TheVariants as past
use Rattle.bm_world.specs.GraphItems.{ListGrows, TreeGrows}
use Rattle.bm_world.specs.Graphs.{Grows}
use Rattle.bm_world.specs.NamedGraphs.{list_named, tree_named}
use Rattle.bm_world.proofs.GraphsDid.{ok-so}
use Rattle.bm_world.proofs.graphs.put_in.Goals as goal

pub returns-in-Front-clause-grows : goal.returns-in-Front-clause-grows
returns-in-Front-clause-grows c =
    let name = c.args.graph.now.name in
    let call = past.PushFront c.args.id in
    rw (c.in-List.is, c.in-Front.is) (ok-so c.push_front.result (λ position. ListGrows c.in-List.list c.push_front.new.list position call c.args.tag) (λ position. Grows (list_named name c.in-List.list) (list_named name c.push_front.new.list) position call c.args.tag) (λ position grows. grows name) c.push_front.ensures.grows)

pub returns-in-Back-clause-grows : goal.returns-in-Back-clause-grows
returns-in-Back-clause-grows c =
    let name = c.args.graph.now.name in
    let call = past.PushBack c.args.id in
    rw (c.in-List.is, c.in-Back.is) (ok-so c.push_back.result (λ position. ListGrows c.in-List.list c.push_back.new.list position call c.args.tag) (λ position. Grows (list_named name c.in-List.list) (list_named name c.push_back.new.list) position call c.args.tag) (λ position grows. grows name) c.push_back.ensures.grows)

pub returns-in-Ordered-way-clause-grows : goal.returns-in-Ordered-way-clause-grows
returns-in-Ordered-way-clause-grows c =
    let name = c.args.graph.now.name in
    let call = past.Add c.args.id c.args.key in
    rw (c.in-Tree.is, c.in-Ordered-way.is) (ok-so c.add.result (λ position. TreeGrows c.in-Tree.tree c.add.new.tree position call c.args.tag) (λ position. Grows (tree_named name c.in-Tree.tree) (tree_named name c.add.new.tree) position call c.args.tag) (λ position grows. grows name) c.add.ensures.grows)
