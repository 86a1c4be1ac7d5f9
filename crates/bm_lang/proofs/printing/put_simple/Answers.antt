use Rattle.bm_lang.proofs.Printed.{on_ok_then}
use Rattle.bm_lang.proofs.printing.put_simple.Goals as goal

pub returns-in-New : goal.returns-in-New
returns-in-New c =
    let e = rw c.as_slice.ensures at c.put_creation.ensures in
    rw c.in-New.is (on_ok_then c.put_creation.result e (λ h l. h l))
