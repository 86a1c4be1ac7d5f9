-- Objects that may be put into a list and a tree.
use Rattle.std.proofs.Common.{◌<◌, Option, length, subst, sym}
use Rattle.bm_journal.specs.declared.ids.ObjId.{ObjId}
use Rattle.bm_grace.specs.Known.{Living, Lives}
use Rattle.bm_world.specs.Lives.{HasLife, values_in}
use Rattle.bm_tests_world.specs.Playing.{IsReady}

-- an object that lives, and has a field
pub ready : (lives : Lives) (o : ObjId) (l : Living) → HasLife lives o.unit o.life l → 0 < length l.values → IsReady lives o
ready lives o l has some = record { living = (l, has); keyed = subst (λ (x : Option Living). 0 < length (values_in x)) (sym has.is) some }
