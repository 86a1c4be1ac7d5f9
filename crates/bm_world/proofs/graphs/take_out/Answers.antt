use Rattle.std.proofs.Common.{true}
use Rattle.bm_graph.specs.Contents.{item_of, nodes}
use Rattle.bm_journal.specs.declared.past.PastCall.TheVariants as past
use Rattle.bm_graph.proofs.Rows.{item_of-id}
use Rattle.bm_world.proofs.GraphNodes.{grown, more-tree, some-item, there-item, tree-right, tree-stepped}
use Rattle.bm_world.proofs.graphs.take_out.Goals as goal

pub remove-requires : goal.remove-requires
remove-requires c = some-item (item_of c.args.tree.now.items c.args.id) (there-item c.args.tree.now.items c.args.id c.requires.there)

pub returns-clause-grows : goal.returns-clause-grows
returns-clause-grows c name =
    let old = c.args.tree.now in
    let new = c.remove.new.self in
    let call = past.Remove c.args.id in
    let entry = c.in_ok-position.ensures.entry in
    grown name true old.history new.history (nodes old.items) (nodes new.items) c.in_ok-position.position c.args.tag call entry (tree-right new.history (nodes new.items) c.history-history.ensures.replays) (tree-stepped old.history new.history (nodes old.items) (nodes new.items) c.in_ok-position.position c.args.tag call entry c.history-before.ensures.replays c.history-history.ensures.replays)

pub returns-clause-less : goal.returns-clause-less
returns-clause-less c =
    let taken = c.in_ok-position.ensures.items in
    let item = c.in_ok-position._item in
    more-tree c.remove.new.self.items c.args.tree.now.items item c.args.id item.key taken.before taken.after (item_of-id c.args.tree.now.items c.args.id item c.in_ok-position.ensures.value) taken.is taken.was
