use Rattle.bm_lang.proofs.Printed.{on_ok_then}
use Rattle.bm_lang.proofs.printing.put_on_graph.Goals as goal

pub returns-in-PushFront : goal.returns-in-PushFront
returns-in-PushFront c =
    let e = rw (c.map_name-in-PushFront.ensures, c.as_bytes.ensures.value) at c.three.ensures in
    rw c.in-PushFront.is (on_ok_then c.three.result e (λ h l types. h))
