use Rattle.bm_generator.proofs.TextLemmas.{piece_written, piece_passed}
use Rattle.bm_generator.proofs.scenario.put_pieces.Goals as goal

pub loop-preserved : goal.loop-preserved
loop-preserved c = record {
  text = piece_written _ _ _ c.args.count c.loop.counter _ _ _ c.loop-test.true c.piece-piece.ensures.piece c.piece-piece.ensures.state c.in_ok-put_piece.ensures c.loop.invariant.text;
  state = piece_passed c.args.count c.loop.counter _ _ _ c.loop-test.true c.piece-piece.ensures.state c.loop.invariant.state;
}
