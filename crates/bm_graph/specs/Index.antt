-- What an index from objects to places holds.
use Rattle.std.specs.Prelude.{ℕ, ◌≡◌, Bool, ◌&&◌, ◌==◌, Option, if◌then◌else◌}
use Rattle.std.specs.HashMap.{get, spare}
use Rattle.bm_journal.specs.declared.ids.ObjId.{ObjId}
use Rattle.bm_graph.specs.declared.index.Index.{Index}
use Rattle.bm_graph.specs.Objects.{same_object}

-- two keys of the index are one: the unit's number and the life
abbrev pub same_key : ℕ × ℕ → ℕ × ℕ → Bool
same_key a b = a.0 == b.0 && a.1 == b.1

-- the place that the index has for an object
abbrev pub place_in : Index → ObjId → Option ℕ
place_in index id = get same_key index.places (id.unit, id.life)

-- how many objects more it takes without memory
abbrev pub room_in : Index → ℕ
room_in index = spare index.places

-- the index has for each object what it had
abbrev pub HoldsSame : (old new : Index) → Type 0
HoldsSame old new = (q : ObjId) → place_in new q ≡ place_in old q

-- the index has this for the object, and for each other what it had
abbrev pub Changes : (old new : Index) → ObjId → Option ℕ → Type 0
Changes old new id place =
    (q : ObjId) → place_in new q ≡ (if same_object id q then place else place_in old q)
