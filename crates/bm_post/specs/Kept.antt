-- What the pool and the inboxes keep true.
use Rattle.std.specs.Prelude.{◌≡◌, ℕ, ◌+◌, ◌%◌, ◌^◌, ◌<◌, ◌≤◌, true, List, [], length, slice_index_or}
use Rattle.std.specs.List.{All}
use Rattle.bm_page.specs.UnitState.{UnitState}
use Rattle.bm_page.specs.Stock.{Stock, stocked_at}
use Rattle.bm_post.specs.Calls.{IsOf}
use Rattle.bm_post.specs.PostState.{Parcels, waits}
use Rattle.bm_post.specs.HasRoom.{has_room}

-- a unit has room for one life more
abbrev pub HasRoom : UnitState → Type 0
HasRoom unit = has_room unit.number unit.life ≡ true

-- A parcel of a class: not empty, and each unit of the class, with room for one life more.
pub record IsParcel (class : ℕ) (units : List UnitState) : Type 0 where
  pub some : 0 < length units
  pub of_class : All (IsOf class) units
  pub room : All HasRoom units

-- a pool has no more units than can be named, and each of them has room for one life more
pub record IsRoomy (pool : Stock) : Type 0 where
  pub size : length pool.units ≤ 2 ^ 16
  pub lives : (n : ℕ) → (stocked_at pool.units n).life + 1 < 2 ^ 32

-- No unit stands in two parcels, each that stands in one is out of the pool, the parcels of an inbox are of its class, and
-- all units have room for one life more.
pub record IsPost (processors processor : ℕ) (pool : Stock) (inboxes : List Parcels) : Type 0 where
  pub processor_limit : processors ≤ 8
  pub turn : processor < processors
  pub inbox_count : length inboxes ≡ 88
  pub once : (n : ℕ) → waits n inboxes ≤ 1
  pub out : (n : ℕ) → 0 < waits n inboxes → (stocked_at pool.units n).out ≡ true
  pub whole : (i : ℕ) → All (IsParcel (i % 11)) (slice_index_or inboxes i [])
  pub roomy : IsRoomy pool
