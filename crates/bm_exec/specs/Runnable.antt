-- What a script's statements need of what is declared, to run on a machine.
use Rattle.std.specs.Prelude.{◌≡◌, ℕ, Bool, true, false, ◌&&◌, ◌||◌, not, List, length, eqb, nat_le, nat_lt, slice_get, map, None, Option, Some}
use Rattle.bm_class.specs.Sizes.{class_of_size}
use Rattle.bm_lang.specs.declared.scenario.Action.{Action, New, Drop, Acquire, Get, Exchange, If', Repeat, Section, Lock, Unlock, Yield, PushFront, PushBack, PopFront, PopBack, Add, First, Remove, Held-Action-If-2, None', Some'}
use Rattle.bm_lang.specs.declared.scenario.Block.{Block, Block', Row_of-Statement, end_of-Statement, more_of-Statement}
use Rattle.bm_lang.specs.declared.scenario.MapDeclaration.{MapDeclaration}
use Rattle.bm_lang.specs.declared.scenario.MapKind.{MapKind}
use Rattle.bm_lang.specs.declared.scenario.MapKind.TheVariants as kind
use Rattle.bm_lang.specs.declared.scenario.TypeDeclaration.{TypeDeclaration}
use Rattle.bm_law_scenario.specs.Declared.{Declared}
use Rattle.bm_law_scenario.specs.Opened.{object_size}

-- the type is declared with so many fields
abbrev pub has_fields : Option TypeDeclaration → ℕ → Bool
has_fields None n = false
has_fields (Some d) n = eqb n (length d.fields)

-- which kind of map it is
abbrev pub is_slot_kind : MapKind → Bool
is_slot_kind kind.Slot = true
is_slot_kind kind.List = false
is_slot_kind kind.Tree = false

abbrev pub is_graph_kind : (is_tree : Bool) → MapKind → Bool
is_graph_kind b kind.Slot = false
is_graph_kind b kind.List = not b
is_graph_kind b kind.Tree = b

-- the map is declared, as a slot
abbrev pub is_slot : Option MapDeclaration → Bool
is_slot None = false
is_slot (Some m) = is_slot_kind m.kind

-- .. as a tree, or else as a list
abbrev pub is_graph : (is_tree : Bool) → Option MapDeclaration → Bool
is_graph b None = false
is_graph b (Some m) = is_graph_kind b m.kind

-- the type is declared with some field
abbrev pub has_some_field : Option TypeDeclaration → Bool
has_some_field None = false
has_some_field (Some d) = nat_lt 0 (length d.fields)

-- the map's objects have a first field, by which a tree orders them
abbrev pub has_key : List TypeDeclaration → Option MapDeclaration → Bool
has_key types None = false
has_key types (Some m) = has_some_field (slice_get types m.type_id.0)

abbrev mutual
  pub can_run_action : Declared → Action → Bool
  can_run_action d (New x t values) =
      has_fields (slice_get d.types t.0) (length values) && nat_le (length values) 8
  can_run_action d (Drop x) = true
  can_run_action d (If' x body otherwise) = can_run_block d body && can_run_else d otherwise
  can_run_action d (Repeat n body) = can_run_block d body
  can_run_action d (Section body) = can_run_block d body
  can_run_action d (Acquire y x) = true
  can_run_action d (Get x field) = true
  can_run_action d (Exchange y slot x) = is_slot (slice_get d.maps slot.0)
  can_run_action d (Lock graph) =
      is_graph false (slice_get d.maps graph.0) || is_graph true (slice_get d.maps graph.0)
  can_run_action d Unlock = true
  can_run_action d Yield = true
  can_run_action d (PushFront list x) = is_graph false (slice_get d.maps list.0)
  can_run_action d (PushBack list x) = is_graph false (slice_get d.maps list.0)
  can_run_action d (PopFront x list) = is_graph false (slice_get d.maps list.0)
  can_run_action d (PopBack x list) = is_graph false (slice_get d.maps list.0)
  can_run_action d (Add tree x) =
      is_graph true (slice_get d.maps tree.0) && has_key d.types (slice_get d.maps tree.0)
  can_run_action d (First x tree) = is_graph true (slice_get d.maps tree.0)
  can_run_action d (Remove y tree x) = is_graph true (slice_get d.maps tree.0)

  pub can_run_else : Declared → Held-Action-If-2 → Bool
  can_run_else d None' = true
  can_run_else d (Some' body) = can_run_block d body

  pub can_run_block : Declared → Block → Bool
  can_run_block d (Block' shape row end_line) = can_run_row d row

  pub can_run_row : Declared → {m : _} → Row_of-Statement m → Bool
  can_run_row d end_of-Statement = true
  can_run_row d (more_of-Statement line action rest) = can_run_action d action && can_run_row d rest

-- Each type has a class, which stands at its place in this list.
pub record Classes (types : List TypeDeclaration) (classes : List ℕ) : Type 0 where
  pub each : map Some classes ≡ map (λ d. class_of_size (object_size d)) types
