use Rattle.bm_cache_lists.proofs.Heads.{pop-gone}
use Rattle.bm_cache_lists.proofs.line.Line.pop.Goals as goal

pub returns-clause-gone : goal.returns-clause-gone
returns-clause-gone c = pop-gone c.self.inside.active c.self.inside.count c.self.inside.raised c.self.inside.target c.self.inside.plain c.self.inside.tracing c.pop.result c.args.stack c.head_index.result _ c.self.inside.links c.pop.new.self c.head_index.ensures c.pop.ensures.lists c.self.invariant.0 c.self.invariant.1 c.pop.ensures.gone
