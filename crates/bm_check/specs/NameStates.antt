-- The six states of a name, and what can be asked of one. A state that owns has an object that must be given up; the first
-- of the two may be null instead. A soft state has a non-owning reference into a graph, which ends with the graph's lock.
use Rattle.std.specs.Prelude.{◌==◌, ◌&&◌, ◌||◌, Bool, true, false, not, Option, Some, None, if◌then◌else◌}
use Rattle.bm_lang.specs.declared.scenario.TypeId.{TypeId}
use Rattle.bm_lang.specs.declared.scenario.MapId.{MapId}
use Rattle.bm_check.specs.declared.name_state.NameState.{NameState}
use Rattle.bm_check.specs.declared.name_state.NameState.TheVariants.{Unbound, Spent, Maybe, Owned, Soft, MaybeSoft}

-- nothing stands under the name: a statement may bind it
abbrev pub is_free : NameState → Bool
is_free Unbound = true
is_free Spent = true
is_free (Maybe t) = false
is_free (Owned t) = false
is_free (Soft t g) = false
is_free (MaybeSoft t g) = false

abbrev pub owns : NameState → Bool
owns Unbound = false
owns Spent = false
owns (Maybe t) = true
owns (Owned t) = true
owns (Soft t g) = false
owns (MaybeSoft t g) = false

abbrev pub is_soft : NameState → Bool
is_soft Unbound = false
is_soft Spent = false
is_soft (Maybe t) = false
is_soft (Owned t) = false
is_soft (Soft t g) = true
is_soft (MaybeSoft t g) = true

abbrev pub may_be_null : NameState → Bool
may_be_null Unbound = false
may_be_null Spent = false
may_be_null (Maybe t) = true
may_be_null (Owned t) = false
may_be_null (Soft t g) = false
may_be_null (MaybeSoft t g) = true

-- the type of the object that stands under the name, if it isn't null
abbrev pub type_in : NameState → Option TypeId
type_in Unbound = None
type_in Spent = None
type_in (Maybe t) = Some t
type_in (Owned t) = Some t
type_in (Soft t g) = Some t
type_in (MaybeSoft t g) = Some t

-- the graph that a non-owning reference leads into
abbrev pub graph_in : NameState → Option MapId
graph_in Unbound = None
graph_in Spent = None
graph_in (Maybe t) = None
graph_in (Owned t) = None
graph_in (Soft t g) = Some g
graph_in (MaybeSoft t g) = Some g

-- the state once the name is known not to be null
abbrev pub non_null : NameState → NameState
non_null Unbound = Unbound
non_null Spent = Spent
non_null (Maybe t) = Owned t
non_null (Owned t) = Owned t
non_null (Soft t g) = Soft t g
non_null (MaybeSoft t g) = Soft t g

-- a non-owning reference ends
abbrev pub soft_spent : NameState → NameState
soft_spent s = if is_soft s then Spent else s

-- two states are one
abbrev pub is_same : NameState → NameState → Bool
is_same Unbound Unbound = true
is_same Spent Spent = true
is_same (Maybe t) (Maybe u) = t.0 == u.0
is_same (Owned t) (Owned u) = t.0 == u.0
is_same (Soft t g) (Soft u h) = (t.0 == u.0) && (g.0 == h.0)
is_same (MaybeSoft t g) (MaybeSoft u h) = (t.0 == u.0) && (g.0 == h.0)
is_same _ _ = false

-- two states are one, or both are free
abbrev pub agrees : NameState → NameState → Bool
agrees s t = is_same s t || (is_free s && is_free t)

-- after an `if`, of the states at the ends of its branches: where they differ, and one of them owns, rule 5 is broken
abbrev pub clashes : NameState → NameState → Bool
clashes s t = not (agrees s t) && (owns s || owns t)

-- .. and otherwise the name is spent where they differ
abbrev pub joined_state : NameState → NameState → NameState
joined_state s t = if is_same s t then s else Spent

-- after a `repeat`, of the states at its body's start and end: that of the start, or spent where the body spent it
abbrev pub repeated_state : NameState → NameState → NameState
repeated_state s Spent = Spent
repeated_state s Unbound = s
repeated_state s (Maybe t) = s
repeated_state s (Owned t) = s
repeated_state s (Soft t g) = s
repeated_state s (MaybeSoft t g) = s
