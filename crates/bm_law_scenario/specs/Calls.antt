-- What the calls of a script leave at its level, and in the script's names. (This project's own language. That an
-- allocation may answer null, that the reference given has to be given up, and that the memory is freed after the last
-- one, are bpf_obj_new_impl and bpf_obj_drop_impl in kernel/bpf/helpers.c.)
use Rattle.std.specs.Prelude.{◌≡◌, ◌<◌, ◌⊎◌, ℕ, Bool, true, false, is_some, List, [], ◌∷◌, Option, Some, None, slice_get}
use Rattle.bm_journal.specs.declared.entry.Entry.{Entry}
use Rattle.bm_journal.specs.declared.entry.Entry.TheVariants as entry
use Rattle.bm_journal.specs.declared.ids.ObjId.{ObjId}
use Rattle.bm_journal.specs.declared.ids.Tag.{Tag}
use Rattle.bm_journal.specs.declared.past.PastCall.TheVariants as past
use Rattle.bm_lang.specs.declared.scenario.MapDeclaration.{MapDeclaration}
use Rattle.bm_lang.specs.declared.scenario.MapId.{MapId}
use Rattle.bm_lang.specs.declared.scenario.TypeDeclaration.{TypeDeclaration}
use Rattle.bm_lang.specs.declared.scenario.TypeId.{TypeId}
use Rattle.bm_law.specs.Phrases.{alloc_took, alloc_empty, alloc_busy, DelayPhrase, FreePhrase}
use Rattle.bm_law.specs.State.{State}
use Rattle.bm_graph.specs.Calls.{first_call}
use Rattle.bm_graph.specs.Entries.{call_entry}
use Rattle.bm_graph.specs.Ways.{is_for_tree, pop_call, push_call, refused_push}
use Rattle.bm_graph.specs.declared.ways.End.{End}
use Rattle.bm_graph.specs.declared.ways.Way.{Way}
use Rattle.bm_law_scenario.specs.Declared.{Declared, IsGraph, IsSlot}
use Rattle.bm_law_scenario.specs.Held.{Held, Nothing, Null, Object, Soft, Names, soft_ended, with_name}
use Rattle.bm_law_scenario.specs.Opened.{OfClass}

-- an allocation from class c, with its reply: a unit and its new life, or null
abbrev pub Allocates : ℕ → List Entry → Option (ℕ × ℕ) → Type 0
Allocates c own None =
    ((a : ℕ) × (own ≡ alloc_empty c a)) ⊎ ((b a : ℕ) × (1 < b) × (own ≡ alloc_busy c b a))
Allocates c own (Some object) =
    (seal : Option (ℕ × ℕ)) × (k a : ℕ) × (own ≡ alloc_took c object.0 object.1 seal k a)

-- what a name holds after a reply to a call for an object of type t
abbrev pub answered : TypeId → Option (ℕ × ℕ) → Held
answered t None = Null
answered t (Some object) = Object t object.0 object.1

-- `new x T v..`: the call, an allocation from the class of T, and its reply, which x then holds
pub record RunsNew (types : List TypeDeclaration) (x : List ℕ) (t : TypeId) (values : List ℕ)
    (names : Names) (part : List Entry) (after : Names) : Type 0 where
  pub class : ℕ
  pub declared : TypeDeclaration
  pub of_class : OfClass types t.0 class declared
  pub own : List Entry
  pub reply : Option (ℕ × ℕ)
  pub part_is : part ≡ entry.New declared.name values ∷ own
  pub allocates : Allocates class own reply
  pub after_is : after ≡ with_name x (answered t reply) names

-- The free of a unit whose last reference is given up: with delay where objects of its type are counted, with whether a plain batch of its
-- class is in progress then, and else a plain one. (__bpf_obj_drop_impl in kernel/bpf/helpers.c frees a counted object by
-- bpf_mem_free_rcu, since programs in a read section may still hold it.)
abbrev pub Frees : (counted : Bool) → (c u home : ℕ) → (batch : Bool) → List Entry → Type 0
Frees false c u home batch own = FreePhrase c u home own
Frees true c u home batch own = DelayPhrase c u home batch own

-- whether a plain batch of a class is in progress, where nothing is known of it
abbrev pub any_batch : ℕ → Bool → Type 0
any_batch c batch = Unit {0}

-- the same, by these lists
abbrev pub batch_in : State ℕ → ℕ → Bool → Type 0
batch_in s c batch = batch ≡ is_some (s.rows c).deferred.plain

-- a name holds a reference to this object
abbrev pub RefersTo : List ℕ → TypeId → (u life : ℕ) → Names → Type 0
RefersTo x type u life names = names x ≡ Object type u life

-- `drop x`, where x holds the last reference to an object: the call, its reply, and the free of the unit. Then x holds nothing.
pub record RunsDrop (types : List TypeDeclaration) (x : List ℕ) (known : ℕ → Bool → Type 0)
    (names : Names) (part : List Entry) (after : Names) : Type 0 where
  pub type : TypeId
  pub unit : ℕ
  pub life : ℕ
  pub held : RefersTo x type unit life names
  pub class : ℕ
  pub declared : TypeDeclaration
  pub of_class : OfClass types type.0 class declared
  pub home : ℕ
  pub batch : Bool
  pub batch_is : known class batch
  pub own : List Entry
  pub part_is : part ≡ entry.Drop unit life ∷ entry.Last ∷ own
  pub frees : Frees declared.counted class unit home batch own
  pub after_is : after ≡ with_name x Nothing names

-- type t is declared so, and its objects carry a count of references
pub record IsCounted (types : List TypeDeclaration) (t : ℕ) : Type 0 where
  pub declared : TypeDeclaration
  pub found : slice_get types t ≡ Some declared
  pub counted : declared.counted ≡ true

-- `acquire y x`, where x holds a reference to an object of a type with a count: the call, which names how many references it saw. Then y
-- holds one more. (bpf_refcount_acquire_impl in kernel/bpf/helpers.c.)
pub record RunsAcquire (types : List TypeDeclaration) (y x : List ℕ) (names : Names)
    (part : List Entry) (after : Names) : Type 0 where
  pub type : TypeId
  pub unit : ℕ
  pub life : ℕ
  pub held : RefersTo x type unit life names
  pub of_type : IsCounted types type.0
  pub seen : ℕ
  pub some : 0 < seen
  pub part_is : part ≡ entry.Acquire unit life seen ∷ []
  pub after_is : after ≡ with_name y (Object type unit life) names

-- type t is declared with this field, at this place among its fields
pub record IsField (types : List TypeDeclaration) (t : ℕ) (field : List ℕ) (place : ℕ) :
    Type 0 where
  pub declared : TypeDeclaration
  pub found : slice_get types t ≡ Some declared
  pub named : slice_get declared.fields place ≡ Some field

-- a name holds a reference to this object, an owning one or not
abbrev pub Reaches : List ℕ → TypeId → (u life : ℕ) → Names → Type 0
Reaches x type u life names =
    RefersTo x type u life names ⊎ ((graph : MapId) × (names x ≡ Soft type graph u life))

-- `get x field`, where x holds a reference to an object of a type with this field, be it a non-owning one: the call, which names the field's place
-- and the value that it found. The names hold what they held. (In the kernel a program reads through the pointer that it has.)
pub record RunsGet (types : List TypeDeclaration) (x field : List ℕ) (names : Names)
    (part : List Entry) (after : Names) : Type 0 where
  pub type : TypeId
  pub unit : ℕ
  pub life : ℕ
  pub held : Reaches x type unit life names
  pub place : ℕ
  pub of_type : IsField types type.0 field place
  pub value : ℕ
  pub part_is : part ≡ entry.Get unit life place value ∷ []
  pub after_is : after ≡ names

-- `drop x`, where x holds a reference to an object that has others: the call, and its reply, which names how many references there were.
-- The object stays. Then x holds nothing.
pub record RunsStill (types : List TypeDeclaration) (x : List ℕ) (names : Names) (part : List Entry)
    (after : Names) : Type 0 where
  pub type : TypeId
  pub unit : ℕ
  pub life : ℕ
  pub held : RefersTo x type unit life names
  pub of_type : IsCounted types type.0
  pub seen : ℕ
  pub others : 1 < seen
  pub part_is : part ≡ entry.Drop unit life ∷ entry.Still seen ∷ []
  pub after_is : after ≡ with_name x Nothing names

-- `drop x`: the reference that x holds is given up, and it is the last, or it isn't
abbrev pub RunsGivingUp :
    List TypeDeclaration → (x : List ℕ) → (known : ℕ → Bool → Type 0) → Names → List Entry → Names
    → Type 0
RunsGivingUp types x known names part after =
    RunsStill types x names part after ⊎ RunsDrop types x known names part after

-- What an exchange puts into a slot of this type: nothing where null is given, and else the reference that the name holds, which then holds
-- nothing.
abbrev pub Puts : Option (List ℕ) → TypeId → Names → Option ObjId → Names → Type 0
Puts None type names put after = (put ≡ None) × (after ≡ names)
Puts (Some x) type names put after =
    (o : ObjId) × (put ≡ Some o) × RefersTo x type o.unit o.life names
    × (after ≡ with_name x Nothing names)

-- what a name holds that takes what a slot of this type held
abbrev pub taken : TypeId → Option ObjId → Held
taken t None = Null
taken t (Some o) = Object t o.unit o.life

-- `xchg y s x` and `xchg y s null`: the call, which names the slot, what it puts there, what it found there and the exchange that had put that.
-- Then y holds what was found, also where it is the name that gave. (bpf_kptr_xchg in kernel/bpf/helpers.c: one xchg of the slot's word.)
pub record RunsExchange (maps : List MapDeclaration) (y : List ℕ) (slot : MapId)
    (given : Option (List ℕ)) (names : Names) (part : List Entry) (after : Names) : Type 0 where
  pub declared : MapDeclaration
  pub is_slot : IsSlot maps slot.0 declared
  pub put : Option ObjId
  pub was : Option ObjId
  pub by : Option Tag
  pub between : Names
  pub puts : Puts given declared.type_id names put between
  pub part_is : part ≡ entry.Xchg declared.name put was by ∷ []
  pub after_is : after ≡ with_name y (taken declared.type_id was) between

-- ---- lists and trees

-- a lock is held around statements
abbrev pub Locked : Declared → MapId → Type 0
Locked d g = d.lock ≡ Some g

-- `lock g`, where no lock is held: its line. The names hold what they held. (bpf_spin_lock in kernel/bpf/helpers.c. That a script holds one lock at a
-- time is the verifier's rule: process_spin_lock in kernel/bpf/verifier.c.)
pub record RunsLock (d : Declared) (g : MapId) (names : Names) (part : List Entry) (after : Names) :
    Type 0 where
  pub is_tree : Bool
  pub declared : MapDeclaration
  pub is_graph : IsGraph d.maps is_tree g.0 declared
  pub none : d.lock ≡ None
  pub part_is : part ≡ entry.Lock declared.name ∷ []
  pub after_is : after ≡ names

-- `unlock`: its line, which names the list or tree whose lock is held. Non-owning references end there. (bpf_spin_unlock in kernel/bpf/helpers.c;
-- invalidate_non_owning_refs in kernel/bpf/verifier.c.)
pub record RunsUnlock (d : Declared) (names : Names) (part : List Entry) (after : Names) :
    Type 0 where
  pub graph : MapId
  pub locked : Locked d graph
  pub is_tree : Bool
  pub declared : MapDeclaration
  pub is_graph : IsGraph d.maps is_tree graph.0 declared
  pub part_is : part ≡ entry.Unlock declared.name ∷ []
  pub after_is : after ≡ soft_ended names

-- what a name holds once its object is in a list or tree: nothing where its type carries a count of references, which a program may have more of,
-- and else a non-owning reference to it
abbrev pub put_in : (counted : Bool) → TypeId → MapId → (u life : ℕ) → Held
put_in true t g u life = Nothing
put_in false t g u life = Soft t g u life

-- `push_front q x`, `push_back q x` and `add t x`, done: the call, with its position. Then the list or tree owns what x held. (bpf_list_push_front_impl,
-- bpf_list_push_back_impl and bpf_rbtree_add_impl in kernel/bpf/helpers.c. That x holds nothing afterwards where there is a count is this project's
-- own.)
pub record RunsPush (d : Declared) (way : Way) (g : MapId) (x : List ℕ) (names : Names)
    (part : List Entry) (after : Names) : Type 0 where
  pub locked : Locked d g
  pub declared : MapDeclaration
  pub is_graph : IsGraph d.maps (is_for_tree way) g.0 declared
  pub object : TypeDeclaration
  pub of_type : slice_get d.types declared.type_id.0 ≡ Some object
  pub id : ObjId
  pub held : RefersTo x declared.type_id id.unit id.life names
  pub position : ℕ
  pub part_is : part ≡ call_entry declared.name position [] (push_call way id 0) ∷ []
  pub after_is :
      after ≡ with_name x (put_in object.counted declared.type_id g id.unit id.life) names

-- .. refused, since the object is in a list or tree already: the call, which names that one, and then the reference that x holds is given up.
-- (__bpf_list_add and __bpf_rbtree_add in kernel/bpf/helpers.c answer -EINVAL and drop it.)
pub record RunsRefused (d : Declared) (way : Way) (g : MapId) (x : List ℕ)
    (known : ℕ → Bool → Type 0) (names : Names) (part : List Entry) (after : Names) :
    Type 0 where
  pub locked : Locked d g
  pub declared : MapDeclaration
  pub is_graph : IsGraph d.maps (is_for_tree way) g.0 declared
  pub id : ObjId
  pub held : RefersTo x declared.type_id id.unit id.life names
  pub position : ℕ
  pub owner : ℕ
  pub owning : MapDeclaration
  pub is_owner : slice_get d.maps owner ≡ Some owning
  pub own : List Entry
  pub part_is :
      part ≡ call_entry declared.name position owning.name (refused_push way id 0 owner) ∷ own
  pub gives_up : RunsGivingUp d.types x known names own after

abbrev pub RunsPutting :
    Declared → Way → MapId → (x : List ℕ) → (known : ℕ → Bool → Type 0) → Names → List Entry → Names
    → Type 0
RunsPutting d way g x known names part after =
    RunsPush d way g x names part after ⊎ RunsRefused d way g x known names part after

-- `pop_front x q` and `pop_back x q`: the call, with what it took, if the list wasn't empty, and its position. Non-owning references end, and then x
-- holds what was taken. (bpf_list_pop_front and bpf_list_pop_back in kernel/bpf/helpers.c. That the references end is this project's own.)
pub record RunsPop (d : Declared) (end : End) (q : MapId) (x : List ℕ) (names : Names)
    (part : List Entry) (after : Names) : Type 0 where
  pub locked : Locked d q
  pub declared : MapDeclaration
  pub is_graph : IsGraph d.maps false q.0 declared
  pub item : Option ObjId
  pub position : ℕ
  pub part_is : part ≡ call_entry declared.name position [] (pop_call end item) ∷ []
  pub after_is : after ≡ with_name x (taken declared.type_id item) (soft_ended names)

-- what a name holds that sees the first object of a tree
abbrev pub found_in : TypeId → MapId → Option ObjId → Held
found_in t g None = Null
found_in t g (Some o) = Soft t g o.unit o.life

-- `first x t`: the call, with the least object, if the tree isn't empty, and its position. Then x holds a non-owning reference to it.
-- (bpf_rbtree_first in kernel/bpf/helpers.c.)
pub record RunsFirst (d : Declared) (t : MapId) (x : List ℕ) (names : Names) (part : List Entry)
    (after : Names) : Type 0 where
  pub locked : Locked d t
  pub declared : MapDeclaration
  pub is_graph : IsGraph d.maps true t.0 declared
  pub item : Option ObjId
  pub position : ℕ
  pub part_is : part ≡ call_entry declared.name position [] (first_call item) ∷ []
  pub after_is : after ≡ with_name x (found_in declared.type_id t item) names

-- `remove y t x`, where x holds a non-owning reference to an object in the tree: the call, with its position. Non-owning references end, and then y owns
-- the object. (bpf_rbtree_remove in kernel/bpf/helpers.c.)
pub record RunsTaking (d : Declared) (t : MapId) (y x : List ℕ) (names : Names) (part : List Entry)
    (after : Names) : Type 0 where
  pub declared : MapDeclaration
  pub is_graph : IsGraph d.maps true t.0 declared
  pub id : ObjId
  pub held : names x ≡ Soft declared.type_id t id.unit id.life
  pub position : ℕ
  pub part_is : part ≡ call_entry declared.name position [] (past.Remove id) ∷ []
  pub after_is : after ≡ with_name y (Object declared.type_id id.unit id.life) (soft_ended names)

-- .. and where x holds null: no call, and y holds null
pub record RunsNoTaking (y x : List ℕ) (names : Names) (part : List Entry) (after : Names) :
    Type 0 where
  pub null : names x ≡ Null
  pub part_is : part ≡ []
  pub after_is : after ≡ with_name y Null (soft_ended names)

abbrev pub RunsRemove : Declared → MapId → (y x : List ℕ) → Names → List Entry → Names → Type 0
RunsRemove d t y x names part after =
    Locked d t × (RunsTaking d t y x names part after ⊎ RunsNoTaking y x names part after)
