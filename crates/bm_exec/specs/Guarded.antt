-- The lock that ordinary code holds, and the objects that are in lists and trees. Only the code that holds the lock of a list or tree calls on it.
use Rattle.std.specs.Prelude.{◌≡◌, ℕ, Bool, true, false, List, [], ◌∷◌, Option, Some, None, eqb, slice_get, if◌then◌else◌}
use Rattle.bm_check.specs.declared.name_state.HeldLock.{HeldLock}
use Rattle.bm_check.specs.declared.name_state.HeldLock.TheVariants.{Nothing as NoLock}
use Rattle.bm_graph.specs.Calls.{first_call}
use Rattle.bm_graph.specs.Entries.{call_entry}
use Rattle.bm_graph.specs.Ways.{pop_call, push_call, refused_push}
use Rattle.bm_graph.specs.declared.ways.End.{End}
use Rattle.bm_graph.specs.declared.ways.Way.{Way}
use Rattle.bm_journal.specs.declared.entry.Entry.TheVariants as entry
use Rattle.bm_journal.specs.declared.ids.ObjId.{ObjId}
use Rattle.bm_journal.specs.declared.past.PastCall.TheVariants as past
use Rattle.bm_lang.specs.declared.scenario.MapDeclaration.{MapDeclaration}
use Rattle.bm_lang.specs.declared.scenario.MapId.{MapId}
use Rattle.bm_lang.specs.declared.scenario.TypeDeclaration.{TypeDeclaration}
use Rattle.bm_lang.specs.declared.scenario.TypeId.{TypeId}
use Rattle.bm_law.specs.Lists.{Log}
use Rattle.bm_law.specs.Spans.{Records}
use Rattle.bm_law_scenario.specs.Calls.{IsCounted}
use Rattle.bm_law_scenario.specs.Declared.{Declared, IsGraph}
use Rattle.bm_law_scenario.specs.Held.{Names, Soft}
use Rattle.bm_exec.specs.Stores.{locked_in}
use Rattle.bm_exec.specs.Living.{IsMade, Living, Lives, TakenOut, TakesOut, let_go, type_in}

-- An object that is in a list or tree: the place of that one among the maps, and the object's class, its life, its type and its values. How many
-- references there are to it isn't told: names may hold some, and handlers may get and give up some.
pub record Shelved : Type 0 where
  pub place : ℕ
  pub class : ℕ
  pub life : ℕ
  pub type : ℕ
  pub values : List ℕ

-- The list or tree whose lock the code holds, by its place among the maps, and by unit the object that is in a list or tree.
pub record Guarded : Type 0 where
  pub lock : Option ℕ
  pub within : ℕ → Option Shelved

abbrev pub with_guard : Option ℕ → Guarded → Guarded
with_guard lock g = record g { lock = lock }

-- the same, but that unit u is this object in a list or tree, or in none
abbrev pub with_shelved : (u : ℕ) → Option Shelved → Guarded → Guarded
with_shelved u s g = record g { within = λ v. if eqb u v then s else g.within v }

-- an object that lives, as it is in the list or tree at a place
abbrev pub shelved_at : (place : ℕ) → Option Living → Option Shelved
shelved_at place None = None
shelved_at place (Some l) =
    Some
    (record { place = place; class = l.class; life = l.life; type = l.type; values = l.values })

-- an object is taken out, if there was one
abbrev pub without_shelved : Option ObjId → Guarded → Guarded
without_shelved None g = g
without_shelved (Some o) g = with_shelved o.unit None g

-- the values of the fields of an object that is in a list or tree
abbrev pub shelved_values : Option Shelved → List ℕ
shelved_values None = []
shelved_values (Some s) = s.values

-- Unit u in its life n is in the list or tree at this place, as an object of type t.
pub record IsShelved (types : List TypeDeclaration) (t place : ℕ) (g : Guarded) (u n : ℕ) :
    Type 0 where
  pub shelved : Shelved
  pub found : g.within u ≡ Some shelved
  pub place_is : shelved.place ≡ place
  pub life_is : shelved.life ≡ n
  pub type_is : shelved.type ≡ t
  pub made : IsMade types shelved.class t shelved.values

-- A reference is put into the list or tree at a place, of this name: its entry, with its position; the object was in no list or tree. Names hold one
-- reference less then.
pub record PutIn (l place : ℕ) (name : List ℕ) (way : Way) (o : ObjId) (log log' : Option Log)
    (lives lives' : Lives) (g g' : Guarded) : Type 0 where
  pub position : ℕ
  pub records : Records l (call_entry name position [] (push_call way o 0) ∷ []) log log'
  pub free : g.within o.unit ≡ None
  pub less : lives' ≡ let_go o.unit lives
  pub now_in : g' ≡ with_shelved o.unit (shelved_at place (lives o.unit)) g

-- A reference isn't put in, since its object is in a list or tree already, beside the name that holds it: its entry, which names that one. Nothing else
-- changes.
pub record Refused (l : ℕ) (types : List TypeDeclaration) (maps : List MapDeclaration)
    (name : List ℕ) (way : Way) (o : ObjId) (log log' : Option Log) (lives lives' : Lives)
    (g g' : Guarded) :
    Type 0 where
  pub position : ℕ
  pub owner : ℕ
  pub owning : MapDeclaration
  pub is_owner : slice_get maps owner ≡ Some owning
  pub counted : IsCounted types (type_in (lives o.unit))
  pub records :
      Records l (call_entry name position owning.name (refused_push way o 0 owner) ∷ []) log log'
  pub lives_same : lives' ≡ lives
  pub guarded_same : g' ≡ g

-- An object of type t is taken from an end of a list, if it has any: its entry. Names hold one reference more then.
pub record Popped (l : ℕ) (types : List TypeDeclaration) (t : ℕ) (name : List ℕ) (end : End)
    (log log' : Option Log) (lives lives' : Lives) (g g' : Guarded) (was : Option ObjId) :
    Type 0 where
  pub position : ℕ
  pub records : Records l (call_entry name position [] (pop_call end was) ∷ []) log log'
  pub takes : TakesOut types t lives lives' was
  pub now_in : g' ≡ without_shelved was g

-- what is found is in the tree at a place, as an object of type t
abbrev pub IsFound : (types : List TypeDeclaration) (t place : ℕ) → Guarded → Option ObjId → Type 0
IsFound types t place g None = Unit {0}
IsFound types t place g (Some o) = IsShelved types t place g o.unit o.life

-- The first object of a tree is looked for: its entry.
pub record Found (l : ℕ) (types : List TypeDeclaration) (t place : ℕ) (name : List ℕ)
    (log log' : Option Log) (g : Guarded) (item : Option ObjId) : Type 0 where
  pub position : ℕ
  pub records : Records l (call_entry name position [] (first_call item) ∷ []) log log'
  pub found : IsFound types t place g item

-- An object of type t is taken out of a tree: its entry. Names hold one reference more then.
pub record Removed (l : ℕ) (types : List TypeDeclaration) (t : ℕ) (name : List ℕ) (o : ObjId)
    (log log' : Option Log) (lives lives' : Lives) (g g' : Guarded) : Type 0 where
  pub position : ℕ
  pub records : Records l (call_entry name position [] (past.Remove o) ∷ []) log log'
  pub takes : TakenOut types t lives lives' o
  pub now_in : g' ≡ with_shelved o.unit None g

-- A field of an object that is in a list or tree is read, by its place: its entry, which names the value that the object has there.
pub record HasLooked (l : ℕ) (o : ObjId) (field : ℕ) (log log' : Option Log) (g : Guarded) :
    Type 0 where
  pub value : ℕ
  pub records : Records l (entry.Get o.unit o.life field value ∷ []) log log'
  pub found : slice_get (shelved_values (g.within o.unit)) field ≡ Some value

-- ---- a script under a lock

-- the place of a list or tree among the maps
abbrev pub place_in : Option MapId → Option ℕ
place_in None = None
place_in (Some graph) = Some graph.0

-- a lock that is held is of a list or tree that is declared
abbrev pub IsLock : List MapDeclaration → Option MapId → Type 0
IsLock maps None = Unit {0}
IsLock maps (Some graph) = (b : Bool) × (m : MapDeclaration) × IsGraph maps b graph.0 m

-- Code of level l runs a script, of a handler or of another kind, that holds this lock, where g is guarded: only ordinary code runs one that isn't a
-- handler's, and a handler's holds no lock. At level 0 the lock that is held is the script's.
pub record Guards (maps : List MapDeclaration) (handler : Bool) (l : ℕ) (g : Guarded)
    (lock : HeldLock) : Type 0 where
  pub ground : handler ≡ false → l ≡ 0
  pub none : handler ≡ true → lock ≡ NoLock
  pub held : l ≡ 0 → g.lock ≡ place_in (locked_in lock)
  pub declared : IsLock maps (locked_in lock)

-- Unit u in its life n, as an object of type t, is in the list or tree whose lock is held, which holds objects of this type.
pub record IsSeen (d : Declared) (g : Guarded) (lock : HeldLock) (t : TypeId) (graph : MapId)
    (u n : ℕ) : Type 0 where
  pub locked : locked_in lock ≡ Some graph
  pub typed : (m : MapDeclaration) → slice_get d.maps graph.0 ≡ Some m → t ≡ m.type_id
  pub shelved : IsShelved d.types t.0 graph.0 g u n

-- each name that holds a non-owning reference holds one to such an object
abbrev pub Sees : Declared → Guarded → HeldLock → Names → Type 0
Sees d g lock names =
    (x : List ℕ) (t : TypeId) (graph : MapId) (u n : ℕ) → names x ≡ Soft t graph u n
    → IsSeen d g lock t graph u n

-- no name holds a non-owning reference
abbrev pub SeesNothing : Names → Type 0
SeesNothing names =
    (x : List ℕ) (t : TypeId) (graph : MapId) (u n : ℕ) → names x ≡ Soft t graph u n → ⊥
