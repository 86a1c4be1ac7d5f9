use Rattle.bm_generator.proofs.TextLemmas.{line_written}
use Rattle.bm_generator.proofs.pieces.put_swap.Goals as goal

pub returns : goal.returns
returns c = line_written _ _ _ _ _ _ _ c.in_ok-put_bytes.ensures c.in_ok-put_line.ensures c.in_ok-put_bytes-2.ensures
