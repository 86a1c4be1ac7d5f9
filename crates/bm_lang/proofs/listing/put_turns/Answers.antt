use Rattle.bm_lang.proofs.Printed.{on_ok_then}
use Rattle.bm_lang.proofs.Listed.{turns_printed}
use Rattle.bm_lang.proofs.listing.put_turns.Goals as goal

pub returns-in_ok-put_numbers-in-Some : goal.returns-in_ok-put_numbers-in-Some
returns-in_ok-put_numbers-in-Some c =
    let e2 = rw c.as_slice.ensures at c.in_ok-put_numbers-in-Some.ensures in
    rw c.in-Some.is (on_ok_then c.put-in-Some.result c.put-in-Some.ensures (λ h. turns_printed c.in-Some.turns _ _ _ _ c.in_ok-put-in-Some.ensures e2 h))
