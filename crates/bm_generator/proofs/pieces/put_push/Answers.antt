use Rattle.bm_generator.proofs.TextLemmas.{job_written}
use Rattle.bm_generator.proofs.pieces.put_push.Goals as goal

pub returns : goal.returns
returns c =
    job_written _ _ _ _ _ _ _ _ _ _ c.in_ok-put_bytes.ensures c.in_ok-put_number.ensures.ok c.in_ok-push.ensures.items c.in_ok-put_line.ensures c.in_ok-put_bytes-2.ensures
