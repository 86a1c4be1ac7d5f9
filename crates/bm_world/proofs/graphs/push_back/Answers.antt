use Rattle.bm_world.proofs.GraphNodes.{more-back, no-list-item}
use Rattle.bm_world.proofs.graphs.push_back.Goals as goal

pub push_back-requires : goal.push_back-requires
push_back-requires c = rw c.item.ensures.id (no-list-item c.args.list.now.items c.args.id c.requires.absent)

pub returns-in-Ok-clause-more : goal.returns-in-Ok-clause-more
returns-in-Ok-clause-more c = more-back c.args.list.now.items c.push_back.new.self.items c.item.result c.args.id c.item.ensures.id c.in-Ok.ensures.items
