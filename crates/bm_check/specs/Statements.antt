-- The table of statements: what each needs of the names and of the lock, and what it leaves. A statement's needs are tried in
-- this order, and the first that isn't met is the rule broken: in a handler (11), a second lock (8), outside the graph's lock
-- (7), under a lock (9), in another block than the lock (10); then each name that is used, in the text's order; then the name
-- that is bound.
use Rattle.std.specs.Prelude.{ℕ, ◌==◌, ◌&&◌, Bool, true, false, not, List, Option, Some, None, is_some, slice_get, if◌then◌else◌}
use Rattle.std.specs.Option.{option_or, option_map, option_map_or}
use Rattle.std.specs.List.{list_any}
use Rattle.std.specs.Str.{bytes_eq}
use Rattle.bm_lang.specs.declared.scenario.Action.{Action, New, Drop, Acquire, Get, Exchange, If', Repeat, Section, Lock, Unlock, Yield, PushFront, PushBack, PopFront, PopBack, Add, First, Remove}
use Rattle.bm_lang.specs.declared.scenario.Parts.{Parts}
use Rattle.bm_lang.specs.declared.scenario.TypeDeclaration.{TypeDeclaration}
use Rattle.bm_lang.specs.declared.scenario.MapDeclaration.{MapDeclaration}
use Rattle.bm_lang.specs.declared.scenario.ScriptKind.{ScriptKind}
use Rattle.bm_lang.specs.declared.scenario.ScriptKind.TheVariants.{Plain, Sleepable, Handler}
use Rattle.bm_lang.specs.declared.scenario.TypeId.{TypeId}
use Rattle.bm_lang.specs.declared.scenario.MapId.{MapId}
use Rattle.bm_check.specs.declared.name_state.NameState.{NameState}
use Rattle.bm_check.specs.declared.name_state.NameState.TheVariants.{Unbound, Spent, Maybe, Owned, Soft, MaybeSoft}
use Rattle.bm_check.specs.declared.name_state.HeldLock.{HeldLock}
use Rattle.bm_check.specs.declared.name_state.HeldLock.TheVariants.{Nothing, Here, Around}
use Rattle.bm_check.specs.declared.rule.Rule.{Rule}
use Rattle.bm_check.specs.declared.rule.Rule.TheVariants as rule
use Rattle.bm_check.specs.NameStates.{is_free, owns, may_be_null, type_in, graph_in}
use Rattle.bm_check.specs.Names.{Names, put, soft_ended}

-- where a statement stands: the scenario's types and maps, and the kind of its script
pub record Setting : Type 0 where
  pub types : List TypeDeclaration
  pub maps : List MapDeclaration
  pub kind : ScriptKind

abbrev pub setting_of : Parts → ScriptKind → Setting
setting_of s k = record { types = s.types; maps = s.maps; kind = k }

-- the type of the objects that a map holds
abbrev pub type_of_map : Setting → MapId → Option TypeId
type_of_map e g = option_map (λ m. m.type_id) (slice_get e.maps g.0)

abbrev pub holds_type : Setting → MapId → TypeId → Bool
holds_type e g t = option_map_or (λ u. u.0 == t.0) (type_of_map e g) false

abbrev pub is_counted : Setting → TypeId → Bool
is_counted e t = option_map_or (λ d. d.counted) (slice_get e.types t.0) false

abbrev pub has_field : Setting → List ℕ → TypeId → Bool
has_field e f t = option_map_or (λ d. list_any (bytes_eq f) d.fields) (slice_get e.types t.0) false

abbrev pub any_type : TypeId → Bool
any_type t = true

-- a need and the rule that it is: none where the need is met
abbrev pub need : Bool → Rule → Option Rule
need met r = if met then None else Some r

-- needs of the place: rules 11, 8, 7, 9, 10

abbrev pub is_handler : ScriptKind → Bool
is_handler Plain = false
is_handler Sleepable = false
is_handler Handler = true

abbrev pub is_free_of_locks : HeldLock → Bool
is_free_of_locks Nothing = true
is_free_of_locks (Here g) = false
is_free_of_locks (Around g) = false

abbrev pub is_lock_of : MapId → HeldLock → Bool
is_lock_of g Nothing = false
is_lock_of g (Here h) = g.0 == h.0
is_lock_of g (Around h) = g.0 == h.0

abbrev pub is_from_around : HeldLock → Bool
is_from_around Nothing = false
is_from_around (Here g) = false
is_from_around (Around g) = true

abbrev pub no_handler : Setting → Option Rule
no_handler e = need (not (is_handler e.kind)) rule.NotInHandler

abbrev pub no_second_lock : HeldLock → Option Rule
no_second_lock l = need (is_free_of_locks l) rule.OneLock

abbrev pub under_lock_of : MapId → HeldLock → Option Rule
under_lock_of g l = need (is_lock_of g l) rule.UnderItsLock

abbrev pub some_lock : HeldLock → Option Rule
some_lock l = need (not (is_free_of_locks l)) rule.UnderItsLock

abbrev pub outside_locks : HeldLock → Option Rule
outside_locks l = need (is_free_of_locks l) rule.NotUnderLock

abbrev pub lock_from_here : HeldLock → Option Rule
lock_from_here l = need (not (is_from_around l)) rule.LockInItsBlock

-- needs of a name that is used: rules 1, 3, 12, 2. `fits` says which types and kinds of reference are needed

abbrev pub used : NameState → Bool → Option Rule
used Unbound fits = Some rule.BoundOnce
used Spent fits = Some rule.NotSpent
used (Maybe t) fits = need fits rule.RightKind
used (Owned t) fits = need fits rule.RightKind
used (Soft t g) fits = need fits rule.RightKind
used (MaybeSoft t g) fits = need fits rule.RightKind

abbrev pub used_non_null : NameState → Bool → Option Rule
used_non_null s fits = option_or (used s fits) (need (not (may_be_null s)) rule.NotNull)

-- an owning reference to an object of a type that passes the test
abbrev pub owning : (TypeId → Bool) → NameState → Option Rule
owning test s = used_non_null s (owns s && option_map_or test (type_in s) false)

-- any reference to an object of a type that passes the test
abbrev pub reading : (TypeId → Bool) → NameState → Option Rule
reading test s = used_non_null s (option_map_or test (type_in s) false)

-- a non-owning reference into this graph, or null
abbrev pub non_owning : MapId → NameState → Option Rule
non_owning g s = used s (option_map_or (λ h. g.0 == h.0) (graph_in s) false)

-- a reference that may be null
abbrev pub doubtful : NameState → Option Rule
doubtful s = used s (may_be_null s)

-- a map that isn't declared holds no type, and what takes from it isn't met
abbrev pub declared : Setting → MapId → Option Rule
declared e g = need (is_some (type_of_map e g)) rule.RightKind

-- a name that a statement binds, and its state
pub record Binding : Type 0 where
  pub name : List ℕ
  pub state : NameState

abbrev pub binds : List ℕ → NameState → Option Binding
binds x s = Some (record { name = x; state = s })

-- what is bound is of the type that a map holds, or of the type of a reference
abbrev pub binds_of : List ℕ → Option TypeId → (TypeId → NameState) → Option Binding
binds_of x t s = option_map (λ u. record { name = x; state = s u }) t

-- a row of the table
pub record Row : Type 0 where
  pub needs : Option Rule
  pub leaves : Names
  pub bound : Option Binding

abbrev pub row : Option Rule → Names → Option Binding → Row
row a n b = record { needs = a; leaves = n; bound = b }

-- a node in a graph of a counted type is owned by the graph alone, and nothing is left to its pusher
abbrev pub pushed : Setting → MapId → NameState → NameState
pushed e g s = option_map_or (λ t. if is_counted e t then Spent else Soft t g) (type_in s) Spent

abbrev pub pushes : Setting → HeldLock → Names → MapId → List ℕ → Row
pushes e l n g x =
    row (option_or (under_lock_of g l) (owning (holds_type e g) (n.state x)))
    (put n x (pushed e g (n.state x))) None

abbrev pub pops : Setting → HeldLock → Names → List ℕ → MapId → Row
pops e l n x g =
    row (option_or (under_lock_of g l) (declared e g)) (soft_ended n)
    (binds_of x (type_of_map e g) Maybe)

-- THE TABLE: needs, names left, name bound. A block's own statements are in the judgement on blocks
abbrev pub row_of : Setting → HeldLock → Names → Action → Row
row_of e l n (New x t values) = row (outside_locks l) n (binds x (Maybe t))
row_of e l n (Drop x) =
    row (option_or (outside_locks l) (owning any_type (n.state x))) (put n x Spent) None
row_of e l n (Acquire y x) =
    row (owning (is_counted e) (n.state x)) n (binds_of y (type_in (n.state x)) Owned)
row_of e l n (Get x f) = row (reading (has_field e f) (n.state x)) n None
row_of e l n (Exchange y s (Some x)) =
    row (option_or (outside_locks l) (owning (holds_type e s) (n.state x))) (put n x Spent)
    (binds_of y (type_of_map e s) Maybe)
row_of e l n (Exchange y s None) =
    row (option_or (outside_locks l) (declared e s)) n (binds_of y (type_of_map e s) Maybe)
row_of e l n (PushFront q x) = pushes e l n q x
row_of e l n (PushBack q x) = pushes e l n q x
row_of e l n (Add t x) = pushes e l n t x
row_of e l n (PopFront x q) = pops e l n x q
row_of e l n (PopBack x q) = pops e l n x q
row_of e l n (First x t) =
    row (option_or (under_lock_of t l) (declared e t)) n
    (binds_of x (type_of_map e t) (λ u. MaybeSoft u t))
row_of e l n (Remove y t x) =
    row (option_or (under_lock_of t l) (option_or (non_owning t (n.state x)) (declared e t)))
    (soft_ended n) (binds_of y (type_of_map e t) Maybe)
row_of e l n (Lock g) = row (option_or (no_handler e) (no_second_lock l)) n None
row_of e l n Unlock = row (option_or (some_lock l) (lock_from_here l)) (soft_ended n) None
row_of e l n Yield = row (option_or (no_handler e) (outside_locks l)) n None
row_of e l n (If' x body otherwise) = row (doubtful (n.state x)) n None
row_of e l n (Repeat count body) = row None n None
row_of e l n (Section body) = row None n None

-- the name that is bound is free once the statement has spent what it spends
abbrev pub bound_free : Names → Option Binding → Option Rule
bound_free n None = None
bound_free n (Some b) = need (is_free (n.state b.name)) rule.BoundOnce

abbrev pub with_binding : Names → Option Binding → Names
with_binding n None = n
with_binding n (Some b) = put n b.name b.state

-- the rule that a statement breaks, and the names after it
abbrev pub broken_by : Row → Option Rule
broken_by r = option_or r.needs (bound_free r.leaves r.bound)

abbrev pub names_after : Row → Names
names_after r = with_binding r.leaves r.bound

-- the lock after a statement
abbrev pub lock_after : HeldLock → Action → HeldLock
lock_after l (Lock g) = Here g
lock_after l Unlock = Nothing
lock_after l _ = l
