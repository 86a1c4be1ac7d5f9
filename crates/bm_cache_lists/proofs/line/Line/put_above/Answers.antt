use Rattle.std.proofs.Common.{sym, ◌∙◌}
use Rattle.bm_cache_lists.proofs.Heads.{put-empty, put-turned}
use Rattle.bm_cache_lists.proofs.line.Line.put_above.Goals as goal

pub returns-then-len-eq0 : goal.returns-then-len-eq0
returns-then-len-eq0 c =
    put-empty c.self.inside.active c.self.inside.count c.self.inside.raised c.self.inside.target c.self.inside.plain c.self.inside.tracing c.args.from c.args.to c.head_index-list.result c.head_index-below.result c.self.inside.links c.hand_on.new.self c.args.self.now c.head_index-list.ensures c.head_index-below.ensures c.self.invariant.0 c.self.view_is (sym c.len.ensures ∙ c.if-len-eq0.true) c.hand_on.ensures

pub returns-else-len-eq0 : goal.returns-else-len-eq0
returns-else-len-eq0 c =
    put-turned c.self.inside.active c.self.inside.count c.self.inside.raised c.self.inside.target c.self.inside.plain c.self.inside.tracing c.args.from c.args.to c.head_index-list.result c.head_index-below.result c.self.inside.links c.pour.new.self c.pour-else-len-eq0.new.self c.args.self.now c.head_index-list.ensures c.head_index-below.ensures c.requires c.self.invariant.0 c.self.invariant.1 c.self.view_is c.pour.ensures c.pour-else-len-eq0.ensures
