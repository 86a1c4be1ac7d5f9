-- What a reference shows.
use Rattle.std.specs.Prelude.{ℕ}
use Rattle.bm_journal.specs.declared.ids.ObjId.{ObjId}

-- A reference: the unit, which of its lives, the number of the object's type, and the processor that made the object.
pub record Reference : Type 0 where
  pub unit : ℕ
  pub life : ℕ
  pub def : ℕ
  pub maker : ℕ

-- References to one life: how they all look, and how many there are, at least one.
pub record Held : Type 0 where
  pub to : Reference
  pub count : ℕ

-- the object: the unit and its life
abbrev pub id_of : Reference → ObjId
id_of r = record { unit = r.unit; life = r.life }
