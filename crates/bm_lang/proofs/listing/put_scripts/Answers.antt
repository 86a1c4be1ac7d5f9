use Rattle.std.proofs.Common.{refl}
use Rattle.std.specs.Prelude.{map}
use Rattle.bm_lang.specs.Spelling.{type_form, map_form, spell_script}
use Rattle.bm_lang.proofs.Printed.{one_line}
use Rattle.bm_lang.proofs.listing.put_scripts.Goals as goal

pub loop-script-preserved : goal.loop-script-preserved
loop-script-preserved c = one_line (spell_script (map type_form c.args.types.now) (map map_form c.args.maps.now)) _ _ _ c.args.scripts.now c.loop-script.script-index c.script-item.result c.loop-script-test.true c.script-item.is refl c.loop-script.invariant c.in_ok-put_script.ensures
