use Rattle.std.proofs.Common.{refl}
use Rattle.std.specs.Prelude.{map}
use Rattle.bm_lang.specs.Spelling.{type_form, spell_map}
use Rattle.bm_lang.proofs.Printed.{one_line}
use Rattle.bm_lang.proofs.listing.put_maps.Goals as goal

pub loop-declaration-preserved : goal.loop-declaration-preserved
loop-declaration-preserved c = one_line (spell_map (map type_form c.args.types.now)) _ _ _ c.args.maps.now c.loop-declaration.declaration-index c.declaration-item.result c.loop-declaration-test.true c.declaration-item.is refl c.loop-declaration.invariant c.in_ok-put_map.ensures
