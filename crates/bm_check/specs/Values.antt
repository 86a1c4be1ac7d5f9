-- What names hold while a script runs, and what each statement needs of that and leaves, whatever the replies. Of the reply
-- to a call that may answer null these definitions know one bit: whether an object came.
use Rattle.std.specs.Prelude.{◌≡◌, ℕ, suc, zero, Bool, true, false, List, Some, None, ◌⊎◌, if◌then◌else◌}
use Rattle.std.specs.Str.{bytes_eq}
use Rattle.bm_lang.specs.declared.scenario.Action.{Action, New, Drop, Acquire, Get, Exchange, If', Repeat, Section, Lock, Unlock, Yield, PushFront, PushBack, PopFront, PopBack, Add, First, Remove, Held-Action-If-2, None', Some'}
use Rattle.bm_lang.specs.declared.scenario.Block.{Block, Block', Row_of-Statement, end_of-Statement, more_of-Statement}
use Rattle.bm_lang.specs.declared.scenario.Parts.{Parts}
use Rattle.bm_lang.specs.declared.scenario.Script.{Script}
use Rattle.bm_lang.specs.declared.scenario.TypeId.{TypeId}
use Rattle.bm_lang.specs.declared.scenario.MapId.{MapId}
use Rattle.bm_check.specs.declared.name_state.NameState.{NameState}
use Rattle.bm_check.specs.declared.name_state.NameState.TheVariants.{Unbound, Spent, Maybe, Owned, Soft, MaybeSoft}
use Rattle.bm_check.specs.declared.name_state.HeldLock.{HeldLock}
use Rattle.bm_check.specs.declared.name_state.HeldLock.TheVariants.{Nothing, Here}
use Rattle.bm_check.specs.Statements.{Setting, setting_of, type_of_map, holds_type, is_counted, has_field, is_handler, is_lock_of}
use Rattle.bm_check.specs.Names.{Covered}
use Rattle.bm_check.specs.Blocks.{Place, Reaches, from_inside, judged_action}
use Rattle.bm_check.specs.Scripts.{Accepted}

-- what a name holds: nothing, null, an owning reference to an object of a type, or a non-owning one into a graph
pub data Value : Type 0 where
  Empty : Value
  Null : Value
  Owning : TypeId → Value
  NonOwning : TypeId → MapId → Value

abbrev pub is_owning : Value → Bool
is_owning Empty = false
is_owning Null = false
is_owning (Owning t) = true
is_owning (NonOwning t g) = false

-- what a script has while it runs: the values of its names, and the lock that it holds
pub record Store : Type 0 where
  pub value : List ℕ → Value
  pub lock : HeldLock

abbrev pub with_value : Store → List ℕ → Value → Store
with_value s x v = record { value = λ y. if bytes_eq x y then v else s.value y; lock = s.lock }

-- Non-owning references end, where objects may leave their list or tree.
abbrev pub soft_spent : Value → Value
soft_spent (NonOwning t g) = Empty
soft_spent v = v

abbrev pub soft_ended : Store → Store
soft_ended s = record { value = λ x. soft_spent (s.value x); lock = s.lock }

abbrev pub with_lock : Store → HeldLock → Store
with_lock s l = record { value = s.value; lock = l }

-- nothing is lost where a name gets a new value
abbrev pub MayBind : Store → List ℕ → Type 0
MayBind s x = is_owning (s.value x) ≡ false

abbrev pub NoLock : Store → Type 0
NoLock s = s.lock ≡ Nothing

abbrev pub HoldsLock : Store → MapId → Type 0
HoldsLock s g = is_lock_of g s.lock ≡ true

abbrev pub NotHandler : Setting → Type 0
NotHandler e = is_handler e.kind ≡ false

-- a name gets what a call answers: an object or null
abbrev pub Answered : Store → List ℕ → Value → (Store → Type 0) → Type 0
Answered s x v Q = MayBind s x × ((came : Bool) → Q (with_value s x (if came then v else Null)))

-- an owning reference of a type is given up by a name
abbrev pub Gives : Store → List ℕ → (TypeId → Type 0) → (TypeId → Type 0) → Type 0
Gives s x P Q = (t : TypeId) × (s.value x ≡ Owning t) × P t × Q t

abbrev pub Refers : Value → TypeId → Type 0
Refers v t = (v ≡ Owning t) ⊎ ((g : MapId) × (v ≡ NonOwning t g))

abbrev pub Pushes : Setting → Store → MapId → List ℕ → (Store → Type 0) → Type 0
Pushes e s g x Q =
    HoldsLock s g
    × Gives s x (λ t. holds_type e g t ≡ true)
    (λ t. Q (with_value s x (if is_counted e t then Empty else NonOwning t g)))

abbrev pub Pops : Setting → Store → List ℕ → MapId → (TypeId → Value) → (Store → Type 0) → Type 0
Pops e s x g v Q =
    HoldsLock s g × ((t : TypeId) × (type_of_map e g ≡ Some t) × Answered s x (v t) Q)

abbrev pub Exchanges : Setting → Store → List ℕ → MapId → (Store → Type 0) → Type 0
Exchanges e s y g Q = (t : TypeId) × (type_of_map e g ≡ Some t) × Answered s y (Owning t) Q

-- so many times
abbrev pub Times : ℕ → (Store → (Store → Type 0) → Type 0) → Store → (Store → Type 0) → Type 0
Times zero F s Q = Q s
Times (suc n) F s Q = F s (λ r. Times n F r Q)

-- A statement finds all that it needs, and so do those that it holds, whatever the replies, and Q holds of what it leaves.
-- A block sees a lock from around it as such, and leaves the lock as it was.
abbrev mutual
  pub SafeAction : Setting → Store → Action → (Store → Type 0) → Type 0
  SafeAction e s (New x t values) Q = NoLock s × Answered s x (Owning t) Q
  SafeAction e s (Drop x) Q = NoLock s × Gives s x (λ t. Unit {0}) (λ t. Q (with_value s x Empty))
  SafeAction e s (Acquire y x) Q =
      Gives s x (λ t. is_counted e t ≡ true) (λ t. MayBind s y × Q (with_value s y (Owning t)))
  SafeAction e s (Get x f) Q = (t : TypeId) × Refers (s.value x) t × (has_field e f t ≡ true) × Q s
  SafeAction e s (Exchange y g (Some x)) Q =
      NoLock s
      × Gives s x (λ t. holds_type e g t ≡ true) (λ t. Exchanges e (with_value s x Empty) y g Q)
  SafeAction e s (Exchange y g None) Q = NoLock s × Exchanges e s y g Q
  SafeAction e s (PushFront q x) Q = Pushes e s q x Q
  SafeAction e s (PushBack q x) Q = Pushes e s q x Q
  SafeAction e s (Add t x) Q = Pushes e s t x Q
  SafeAction e s (PopFront x q) Q = Pops e (soft_ended s) x q Owning Q
  SafeAction e s (PopBack x q) Q = Pops e (soft_ended s) x q Owning Q
  SafeAction e s (First x t) Q = Pops e s x t (λ u. NonOwning u t) Q
  SafeAction e s (Remove y t x) Q =
      ((s.value x ≡ Null) ⊎ ((u : TypeId) × (s.value x ≡ NonOwning u t)))
      × Pops e (soft_ended s) y t Owning Q
  SafeAction e s (Lock g) Q = NotHandler e × NoLock s × Q (with_lock s (Here g))
  SafeAction e s Unlock Q = (g : MapId) × (s.lock ≡ Here g) × Q (with_lock (soft_ended s) Nothing)
  SafeAction e s Yield Q = NotHandler e × NoLock s × Q s
  SafeAction e s (If' x body otherwise) Q =
      (s.value x ≡ Null → SafeElse e s otherwise Q)
      × ((t : TypeId) → Refers (s.value x) t → SafeBlock e s body Q)
      × ((s.value x ≡ Null) ⊎ ((t : TypeId) × Refers (s.value x) t))
  SafeAction e s (Repeat count body) Q = Times count (λ r. SafeBlock e r body) s Q
  SafeAction e s (Section body) Q = SafeBlock e s body Q

  pub SafeElse : Setting → Store → Held-Action-If-2 → (Store → Type 0) → Type 0
  SafeElse e s None' Q = Q s
  SafeElse e s (Some' body) Q = SafeBlock e s body Q

  pub SafeBlock : Setting → Store → Block → (Store → Type 0) → Type 0
  SafeBlock e s (Block' shape row line) Q =
      SafeRow e (with_lock s (from_inside s.lock)) row
      (λ r. (r.lock ≡ from_inside s.lock) × Q (with_lock r s.lock))

  pub SafeRow : Setting → Store → {m : _} → Row_of-Statement m → (Store → Type 0) → Type 0
  SafeRow e s end_of-Statement Q = Q s
  SafeRow e s (more_of-Statement line action rest) Q =
      SafeAction e s action (λ r. SafeRow e r rest Q)

-- a value is what a state says
abbrev pub Fits : NameState → Value → Type 0
Fits Unbound v = is_owning v ≡ false
Fits Spent v = is_owning v ≡ false
Fits (Maybe t) v = (v ≡ Null) ⊎ (v ≡ Owning t)
Fits (Owned t) v = v ≡ Owning t
Fits (Soft t g) v = v ≡ NonOwning t g
Fits (MaybeSoft t g) v = (v ≡ Null) ⊎ (v ≡ NonOwning t g)

-- the values and the lock of a run are what the checker knows of this place
pub record Stands (p : Place) (s : Store) : Type 0 where
  pub values : (x : List ℕ) → Fits (p.names.state x) (s.value x)
  pub lock : s.lock ≡ p.lock

abbrev pub empty_store : Store
empty_store = record { value = λ x. Empty; lock = Nothing }

pub record OwnsNothing (s : Store) : Type 0 where
  pub values : (x : List ℕ) → is_owning (s.value x) ≡ false
  pub lock : s.lock ≡ Nothing

-- THE LAW: along an accepted script, whatever the replies, each statement finds what it needs, and at the end nothing is owned
abbrev pub AcceptedIsSafe : Type 0
AcceptedIsSafe =
    (scenario : Parts) (script : Script) → Accepted scenario script
    → SafeBlock (setting_of scenario script.kind) empty_store script.body OwnsNothing

-- .. and for a single statement: begun with values that are what the states say, it finds what it needs, and leaves such values
abbrev pub StatesAreRight : Type 0
StatesAreRight =
    (e : Setting) (p : Place) (line : ℕ) (a : Action) (q : Place)
    → judged_action e p line a ≡ Reaches q → Covered p.names → (s : Store) → Stands p s
    → SafeAction e s a (Stands q)
