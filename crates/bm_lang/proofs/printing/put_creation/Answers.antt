use Rattle.std.specs.Prelude.{map}
use Rattle.bm_lang.specs.Spelling.{type_form, type_name}
use Rattle.bm_lang.proofs.Printed.{on_ok_then, creation_printed}
use Rattle.bm_lang.proofs.printing.put_creation.Goals as goal

pub returns : goal.returns
returns c =
    let e1 = rw c.text.ensures at c.in_ok-put.ensures in
    let e2 = rw c.as_bytes.ensures.value at c.in_ok-put-2.ensures in
    let e3 = rw c.type_name.ensures at c.in_ok-put-3.ensures in
    on_ok_then c.put_numbers.result c.put_numbers.ensures (λ h l. creation_printed _ _ _ _ _ c.args.name.now (type_name (map type_form c.args.types.now) c.args.type_id.0) _ l c.args.values.now e1 e2 e3 h (c.byte_before.ensures (type_name (map type_form c.args.types.now) c.args.type_id.0)))
