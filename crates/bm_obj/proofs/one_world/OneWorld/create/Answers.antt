use Rattle.std.proofs.Common.{arith}
use Rattle.bm_obj.proofs.Calls.{kept-new}
use Rattle.bm_obj.proofs.one_world.OneWorld.create.Goals as goal

pub invariant_of-result : goal.invariant_of-result
invariant_of-result c =
    let pages = c.requires.pages in
    rw (c.in_ok-places.ensures, c.in-Ok.ensures, c.len.ensures) (kept-new _ _ _ _ _ _ c.args.slots.ok.0 (omega arith) (omega arith) c.requires.fields)
