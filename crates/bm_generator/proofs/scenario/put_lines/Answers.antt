use Rattle.bm_lang.proofs.Printed.{on_ok_then}
use Rattle.bm_generator.proofs.TextLemmas.{lines_written}
use Rattle.bm_generator.proofs.scenario.put_lines.Goals as goal

pub returns : goal.returns
returns c =
    on_ok_then c.put_bytes-4.result c.put_bytes-4.ensures (λ h. lines_written _ _ _ _ _ _ _ _ _ _ _ c.in_ok-put_bytes.ensures c.in_ok-put_swap.ensures c.in_ok-put_bytes-2.ensures c.in_ok-put_bytes-3.ensures h)
