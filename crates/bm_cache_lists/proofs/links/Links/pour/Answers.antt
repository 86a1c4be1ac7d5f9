use Rattle.std.proofs.Common.{◌∙◌}
use Rattle.bm_cache_lists.proofs.Turned.{turned-step, turned-all}
use Rattle.bm_cache_lists.proofs.links.Links.pour.Goals as goal

pub loop-number-preserved : goal.loop-number-preserved
loop-number-preserved c =
    rw (c.push.ensures, c.in-Some.ensures.lists) (turned-step c.args.from c.args.to c.in-Some.number c.args.self.now c.loop-number.self c.requires.from c.requires.to c.requires.two c.loop-number.invariant c.in-Some.ensures.number)

pub returns : goal.returns
returns c = c.in_default.ensures.lists ∙ turned-all c.args.from c.args.to c.args.self.now c.loop-number.self c.requires.two c.loop-number.invariant c.in_default.ensures.number
