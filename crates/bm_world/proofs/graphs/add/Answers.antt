use Rattle.std.proofs.Common.{true}
use Rattle.bm_graph.specs.Contents.{nodes}
use Rattle.bm_journal.specs.declared.past.PastCall.TheVariants as past
use Rattle.bm_world.proofs.GraphNodes.{grown, no-tree-item, tree-right, tree-stepped}
use Rattle.bm_world.proofs.graphs.add.Goals as goal

pub add-requires : goal.add-requires
add-requires c = rw c.item.ensures.id (no-tree-item c.args.tree.now.items c.args.id c.requires.absent)

pub returns-in-Ok-clause-grows : goal.returns-in-Ok-clause-grows
returns-in-Ok-clause-grows c name =
    let old = c.args.tree.now in
    let new = c.add.new.self in
    let call = past.Add c.args.id c.args.key in
    let entry = rw (c.item.ensures.id, c.item.ensures.key) at c.in-Ok.ensures.entry in
    grown name true old.history new.history (nodes old.items) (nodes new.items) c.in-Ok.position c.args.tag call entry (tree-right new.history (nodes new.items) c.history-history.ensures.replays) (tree-stepped old.history new.history (nodes old.items) (nodes new.items) c.in-Ok.position c.args.tag call entry c.history-before.ensures.replays c.history-history.ensures.replays)
