use Rattle.std.proofs.Common.{length, get_or, ap, ◌∙◌, sym}
use Rattle.bm_cache_lists.proofs.Chains.{at-chain, length-follow, none, within}
use Rattle.bm_cache_lists.proofs.links.Links.len.Goals as goal

pub returns : goal.returns
returns c =
    let next = c.self.inside.next.items in
    let h = get_or c.self.inside.heads c.args.list none in
    rw (← c.self.view_is) (sym (ap length (at-chain next c.self.inside.heads c.args.list (within next c.self.inside.heads c.args.list c.self.invariant.0 c.requires)) ∙ length-follow next h.length h.first))
