use Rattle.std.proofs.Common.{◌∙◌, false}
use Rattle.bm_graph.specs.Contents.{ids}
use Rattle.bm_graph.specs.Ways.{pop_call}
use Rattle.bm_graph.specs.declared.ways.End.TheVariants as end_
use Rattle.bm_world.specs.GraphItems.{item_id}
use Rattle.bm_world.specs.NamedGraphs.{list_nodes}
use Rattle.bm_world.proofs.GraphNodes.{back-named, grown, last-popped, list-right, popped-back}
use Rattle.bm_world.proofs.graphs.pop_back.Goals as goal

pub returns-clause-grows : goal.returns-clause-grows
returns-clause-grows c name =
    let old = c.args.list.now in
    let new = c.pop_back.new.self in
    let popped = c.in_ok-position.popped in
    let entry = rw (← back-named popped) at c.in_ok-position.ensures.entry in
    rw c.id_in.ensures (grown name false old.history new.history (list_nodes old.items) (list_nodes new.items) c.in_ok-position.position c.args.tag (pop_call end_.Back (item_id popped)) entry (list-right new.history (ids new.items) c.history-history.ensures.replays) (popped-back old.items new.items popped c.in_ok-position.ensures.items))

pub returns-clause-item : goal.returns-clause-item
returns-clause-item c = c.id_in.ensures ∙ last-popped c.args.list.now.items c.pop_back.new.self.items c.in_ok-position.popped c.in_ok-position.ensures.items
