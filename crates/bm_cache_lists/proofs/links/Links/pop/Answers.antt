use Rattle.std.proofs.Common.{get_or, arith}
use Rattle.std.proofs.lemmas.List.{get_or_read}
use Rattle.bm_cache_lists.specs.Chain.{chains}
use Rattle.bm_cache_lists.proofs.Chains.{linked-pop, pop-view, top-under, top-is, gone-once, within-chains, none}
use Rattle.bm_cache_lists.proofs.links.Links.pop.Goals as goal

pub overflow_cast-number : goal.overflow_cast-number
overflow_cast-number c = omega (arith, c.self.invariant.0.room, top-under c.self.inside.next.items c.self.inside.heads c.args.list c.self.invariant.0 c.requires c.if-head-eq0.false)

pub index-requires : goal.index-requires
index-requires c = omega (arith, c.self.inside.next.ok.0, top-under c.self.inside.next.items c.self.inside.heads c.args.list c.self.invariant.0 c.requires c.if-head-eq0.false)

pub invariant_of-self : goal.invariant_of-self
invariant_of-self c =
    let f = (get_or c.self.inside.heads c.args.list none).first in
    let b = top-under c.self.inside.next.items c.self.inside.heads c.args.list c.self.invariant.0 c.requires c.if-head-eq0.false in
    (linked-pop c.self.inside.next.items c.self.inside.heads c.args.list c.index.result.now c.self.invariant.0 c.requires c.if-head-eq0.false (get_or_read c.self.inside.next.items f c.index.result.now b c.index.ensures 0), c.self.invariant.1)

pub returns-clause-number : goal.returns-clause-number
returns-clause-number c = rw (← c.self.view_is) (top-is c.self.inside.next.items c.self.inside.heads c.args.list c.self.invariant.0 c.requires c.if-head-eq0.false)

pub returns-clause-gone : goal.returns-clause-gone
returns-clause-gone c =
    let xss = chains c.self.inside.next.items c.self.inside.heads in
    let f = (get_or c.self.inside.heads c.args.list none).first in
    let b = top-under c.self.inside.next.items c.self.inside.heads c.args.list c.self.invariant.0 c.requires c.if-head-eq0.false in
    rw (pop-view c.self.inside.next.items c.self.inside.heads c.args.list c.index.result.now c.self.invariant.0 c.requires c.if-head-eq0.false (get_or_read c.self.inside.next.items f c.index.result.now b c.index.ensures 0))
    (gone-once xss c.args.list f (within-chains c.self.inside.next.items c.self.inside.heads c.args.list c.self.invariant.0 c.requires) c.self.invariant.0.once (top-is c.self.inside.next.items c.self.inside.heads c.args.list c.self.invariant.0 c.requires c.if-head-eq0.false))

pub returns-clause-lists : goal.returns-clause-lists
returns-clause-lists c =
    let f = (get_or c.self.inside.heads c.args.list none).first in
    let b = top-under c.self.inside.next.items c.self.inside.heads c.args.list c.self.invariant.0 c.requires c.if-head-eq0.false in
    rw (← c.self.view_is) (pop-view c.self.inside.next.items c.self.inside.heads c.args.list c.index.result.now c.self.invariant.0 c.requires c.if-head-eq0.false (get_or_read c.self.inside.next.items f c.index.result.now b c.index.ensures 0))
