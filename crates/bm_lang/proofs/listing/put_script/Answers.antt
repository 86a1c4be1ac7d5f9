use Rattle.std.specs.Prelude.{map}
use Rattle.bm_lang.specs.Spelling.{type_form, map_form, script_word}
use Rattle.bm_lang.proofs.Printed.{on_ok_then}
use Rattle.bm_lang.proofs.Listed.{script_printed, script_no_line}
use Rattle.bm_lang.proofs.listing.put_script.Goals as goal

pub returns : goal.returns
returns c =
    let e1 = rw c.text.ensures at c.in_ok-put.ensures in
    let e2 = rw c.as_bytes.ensures.value at c.in_ok-put-2.ensures in
    let e3 = rw (c.text-2.ensures, c.script_word.ensures) at c.in_ok-put-3.ensures in
    on_ok_then c.put_block.result c.put_block.ensures (λ h. script_printed (map type_form c.args.types.now) (map map_form c.args.maps.now) c.args.script.now.line c.args.script.now.name (script_word c.args.script.now.kind) c.args.script.now.body _ _ _ _ _ e1 e2 e3 h (script_no_line c.args.script.now.kind))
