-- What holds of units while grace periods go on.
use Rattle.std.proofs.Common.{List, ◌∙◌, inl, inr}
use Rattle.std.specs.List.{All}
use Rattle.bm_page.specs.UnitState.{UnitState}
use Rattle.bm_grace.specs.Rights.{Ages, Rights}
use Rattle.bm_post.specs.Rights.{Holds, MayLeave}

-- units that are mine are mine still
pub holds-aged : (units : List UnitState) (before now : Rights) → Ages before now → Holds before units → Holds now units
holds-aged units before now a h = record { each = λ k d lt. a.mine _ ∙ h.each k d lt; once = h.once }

-- a unit that may leave may leave still
pub leave-aged : (units : List UnitState) (before now : Rights) → Ages before now → All (MayLeave before) units → All (MayLeave now) units
leave-aged units before now a h k d lt = elim (h k d lt) [
  | inl settled ↦ inl (a.settled _ _ _ ∙ settled)
  | inr ripe ↦ inr (a.ripe _ _ _ ripe)
]

-- and so it is over two calls
pub ages-join : (a b c : Rights) → Ages a b → Ages b c → Ages a c
ages-join a b c x y = record {
  mine = λ n. y.mine n ∙ x.mine n;
  settled = λ n life seal. y.settled n life seal ∙ x.settled n life seal;
  due = λ n life seal. y.due n life seal ∙ x.due n life seal;
  ripe = λ n life seal h. y.ripe n life seal (x.ripe n life seal h);
  since = λ d s n h. y.since d s n (x.since d s n h);
}
