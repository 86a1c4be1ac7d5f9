use Rattle.bm_lang.proofs.Printed.{on_ok_then}
use Rattle.bm_lang.proofs.Listed.{header_printed}
use Rattle.bm_lang.proofs.listing.put_header.Goals as goal

pub returns : goal.returns
returns c =
    let e2 = rw c.text.ensures at c.in_ok-put-2.ensures in
    let e4 = rw c.text-2.ensures at c.in_ok-put-3.ensures in
    let e6 = rw c.text-3.ensures at c.in_ok-put-4.ensures in
    let e7 = rw (c.text-4.ensures, c.on_or_off.ensures) at c.put-5.ensures in
    on_ok_then c.put-5.result e7 (λ h. header_printed c.args.processors c.args.pages c.args.deferred _ _ _ _ _ _ _ _ c.in_ok-put.ensures e2 c.in_ok-put_count.ensures e4 c.in_ok-put_count-2.ensures e6 h)
