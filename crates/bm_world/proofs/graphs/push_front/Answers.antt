use Rattle.bm_world.proofs.GraphNodes.{more-front, no-list-item}
use Rattle.bm_world.proofs.graphs.push_front.Goals as goal

pub push_front-requires : goal.push_front-requires
push_front-requires c = rw c.item.ensures.id (no-list-item c.args.list.now.items c.args.id c.requires.absent)

pub returns-in-Ok-clause-more : goal.returns-in-Ok-clause-more
returns-in-Ok-clause-more c = more-front c.args.list.now.items c.push_front.new.self.items c.item.result c.args.id c.item.ensures.id c.in-Ok.ensures.items
