use Rattle.std.proofs.Common.{refl}
use Rattle.bm_lang.specs.Spelling.{spell_type}
use Rattle.bm_lang.proofs.Printed.{one_line}
use Rattle.bm_lang.proofs.listing.put_types.Goals as goal

pub loop-declaration-preserved : goal.loop-declaration-preserved
loop-declaration-preserved c = one_line spell_type _ _ _ c.args.types.now c.loop-declaration.declaration-index c.declaration-item.result c.loop-declaration-test.true c.declaration-item.is refl c.loop-declaration.invariant c.in_ok-put_type.ensures
