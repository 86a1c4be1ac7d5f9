use Rattle.bm_lang.proofs.Printed.{on_ok_then}
use Rattle.bm_lang.proofs.Listed.{type_printed}
use Rattle.bm_lang.proofs.listing.put_type.Goals as goal

pub returns : goal.returns
returns c =
    let e2 = rw c.as_slice.ensures at c.in_ok-put_fields.ensures in
    on_ok_then c.put.result c.put.ensures (λ h. type_printed c.args.declaration.now.line c.args.declaration.now.name c.args.declaration.now.counted c.args.declaration.now.node c.args.declaration.now.fields c.args.declaration.now.pad _ _ _ _ c.in_ok-put_type_front.ensures e2 h)
