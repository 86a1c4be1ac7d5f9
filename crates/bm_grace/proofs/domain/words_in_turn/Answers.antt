use Rattle.std.proofs.Common.{arith}
use Rattle.bm_grace.proofs.InTurn.{in_turn-more}
use Rattle.bm_grace.proofs.domain.words_in_turn.Goals as goal

pub loop-i-preserved : goal.loop-i-preserved
loop-i-preserved c =
    let words = in_turn-more c.loop-i.i c.args.plain.now c.args.tracing.now (omega arith) (omega arith) in
    (rw (c.push-in-loop-i.ensures.items, c.push.ensures.items, c.loop-i.invariant.0, words), omega arith)
