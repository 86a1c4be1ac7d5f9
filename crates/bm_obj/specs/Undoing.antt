-- When a reference that goes into a note and comes out again leaves what a side knows as it was. (This project's own.)
use Rattle.std.specs.Prelude.{◌≡◌, ◌<◌, Option, None, IfSome, is_some, true}
use Rattle.bm_obj.specs.Known.{Known}
use Rattle.bm_obj.specs.Reference.{Held, Reference}

-- Where there are references to a life, they look so, and there is one at least, as specs/Reference.antt says of them.
abbrev pub HoldsLife : Reference → Option Held → Type 0
HoldsLife r held = IfSome held (λ h. (h.to ≡ r) × (0 < h.count))

-- What a side knows of a life: its references are to that life, and so are those in notes, where it tells that; and while it has the
-- claim no note carries it.
pub record IsOfLife (r : Reference) (k : Known) : Type 0 where
  pub hands : HoldsLife r (k.refs r.unit)
  pub notes : IfSome k.notes (λ notes. HoldsLife r (notes r.unit).refs)
  pub claim :
      IfSome k.notes (λ notes. is_some (k.claims r.unit) ≡ true → (notes r.unit).claim ≡ None)
