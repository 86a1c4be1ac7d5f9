use Rattle.std.proofs.Common.{get_or, arith}
use Rattle.std.proofs.lemmas.List.{get_or_read}
use Rattle.bm_cache_lists.specs.Chain.{chain_of}
use Rattle.bm_cache_lists.proofs.Chains.{none}
use Rattle.bm_cache_lists.proofs.Turned.{read-under, read-step}
use Rattle.bm_cache_lists.proofs.links.Links.listed.Goals as goal

pub overflow_cast-at : goal.overflow_cast-at
overflow_cast-at c = omega (arith, c.self.invariant.0.room, read-under c.self.inside.next.items (get_or c.self.inside.heads c.args.list none).length c.loop-place._place c.loop-place.at c.loop-place.numbers.items _ c.loop-place-test.true c.loop-place.invariant)

pub index-at-requires : goal.index-at-requires
index-at-requires c = omega (arith, c.self.inside.next.ok.0, read-under c.self.inside.next.items (get_or c.self.inside.heads c.args.list none).length c.loop-place._place c.loop-place.at c.loop-place.numbers.items _ c.loop-place-test.true c.loop-place.invariant)

pub loop-place-preserved : goal.loop-place-preserved
loop-place-preserved c =
    let next = c.self.inside.next.items in
    let head = get_or c.self.inside.heads c.args.list none in
    let b = read-under next head.length c.loop-place._place c.loop-place.at c.loop-place.numbers.items (chain_of next head) c.loop-place-test.true c.loop-place.invariant in
    rw c.in_ok-push.ensures.items (read-step next head.length c.loop-place._place c.loop-place.at c.index-at.result.now c.loop-place.numbers.items (chain_of next head) c.loop-place-test.true (get_or_read next c.loop-place.at c.index-at.result.now b c.index-at.ensures 0) c.loop-place.invariant)
