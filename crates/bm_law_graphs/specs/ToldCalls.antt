-- What is known of the calls of a processor's log on lists and trees, chunk by chunk, and what their entries then make of the lists and trees
-- along an order. (This project's own: journals are. Documentation/bpf/graph_ds_impl.rst: calls are made under the lock.)
use Rattle.std.specs.Prelude.{◌≡◌, ◌<◌, ◌⊎◌, ℕ, true, Some, None, List, ◌++◌, length}
use Rattle.std.specs.List.{slice_get}
use Rattle.bm_journal.specs.declared.ids.ObjId.{ObjId}
use Rattle.bm_journal.specs.declared.past.PastCall.{PastCall}
use Rattle.bm_journal.specs.declared.past.PastCall.TheVariants as past
use Rattle.bm_law.specs.Lists.{Log}
use Rattle.bm_law_order.specs.Calls.{calls_in, closes, lock_in, tag_after}
use Rattle.bm_law_order.specs.Chunk.{Chunk, acts_of}
use Rattle.bm_law_order.specs.Chunk as chunk
use Rattle.bm_law_order.specs.Graphs.{GraphsLead, Refuses, Shelf, effect_of, place_of}
use Rattle.bm_law_order.specs.Orders.{AllFit, by, over}
use Rattle.bm_law_objects.specs.Objects.{Asked, Objects}
use Rattle.bm_law_graphs.specs.LocksTold.{LocksTold}
use Rattle.bm_law_graphs.specs.Shelves.{Shelved, ShelvedFit, shelved_after}

-- each name of a map is found at its own place
abbrev pub FoundApart : List (List ℕ) → Type 0
FoundApart names =
    (place : ℕ) (name : List ℕ) → slice_get names place ≡ Some name → place_of names name ≡ place

-- processor p may call the list or tree of this name: its log holds the lock, or it is the closing's, in which nobody holds one
abbrev pub MayCall : (p : ℕ) → (graph : List ℕ) → Log → Type 0
MayCall p graph log =
    (lock_in log ≡ Some graph) ⊎ ((p ≡ 0) × (closes log ≡ true) × (lock_in log ≡ None))

-- a call that is refused names the map at whose place the object stands
abbrev pub NamesOwner : List (List ℕ) → PastCall → (owner : List ℕ) → Type 0
NamesOwner names call owner =
    (id : ObjId) (place : ℕ) → effect_of call ≡ Refuses id place
    → slice_get names place ≡ Some owner

-- What the log of processor p before it says of a chunk of level l: a lock is taken where none is held, and given back where it is; and a list
-- or tree is called under its lock or in the closing, with the tag of the next call.
abbrev pub JudgedCall : (names : List (List ℕ)) → (p l : ℕ) → Log → Chunk → Type 0
JudgedCall names p l log (chunk.Locking graph) = (l ≡ 0) × (lock_in log ≡ None)
JudgedCall names p l log (chunk.Unlocking graph) = (l ≡ 0) × (lock_in log ≡ Some graph)
JudgedCall names p l log (chunk.Calling graph position call owner tag) =
    (l ≡ 0) × MayCall p graph log × NamesOwner names call owner × (tag ≡ tag_after p (calls_in log))
JudgedCall names p l log _ = Unit {0}

-- a list or tree that is called is one of these maps
abbrev pub NamesGraph : (names : List (List ℕ)) → Chunk → Type 0
NamesGraph names (chunk.Calling graph position call owner tag) = place_of names graph < length names
NamesGraph names _ = Unit {0}

-- this object was made, and its first value is the key
abbrev pub HasMadeKey : ObjId → (key : ℕ) → Objects → Type 0
HasMadeKey id key objects =
    (asked : Asked) × (objects.made id.unit ≡ Some (record { life = id.life; asked = asked }))
    × (slice_get asked.values 0 ≡ Some key)

-- an addition to a tree, done or refused, is of an object that was made with its key
abbrev pub KeyedBy : PastCall → Objects → Type 0
KeyedBy (past.Add id key) objects = HasMadeKey id key objects
KeyedBy (past.AddAlready id key owner) objects = HasMadeKey id key objects
KeyedBy _ objects = Unit {0}

abbrev pub KeyedCall : Chunk → Objects → Type 0
KeyedCall (chunk.Calling graph position call owner tag) objects = KeyedBy call objects
KeyedCall _ objects = Unit {0}

-- A chunk of level l stands behind the log of processor p, where histories and standings are these, and its acts make those of them; the log
-- says of it what it has to, and it names a list or tree that there is, with its key.
pub record IsTold (names : List (List ℕ)) (p l : ℕ) (log : Log) (c : Chunk) (x : Shelved)
    (before now : Shelf) : Type 0 where
  pub histories : x.shelves.histories ≡ before.histories
  pub within : x.shelves.within ≡ before.within
  pub calls : x.objects.calls p ≡ calls_in log
  pub locks : LocksTold p log x.shelves
  pub judged : JudgedCall names p l log c
  pub named : NamesGraph names c
  pub keyed : KeyedCall c x.objects
  pub leads : GraphsLead names (acts_of c) before now

-- Entries of processor p that its log adds find the lists, the trees and the locks that they name, and leave these histories and standings,
-- and locks as the longer log tells.
pub record ShelvesGo (names : List (List ℕ)) (p : ℕ) (log added : Log) (x : Shelved) (now : Shelf) :
    Type 0 where
  pub fit : AllFit (shelved_after names) (ShelvedFit names) (by p added) x
  pub histories : (over (shelved_after names) (by p added) x).shelves.histories ≡ now.histories
  pub within : (over (shelved_after names) (by p added) x).shelves.within ≡ now.within
  pub locks : LocksTold p (log ++ added) (over (shelved_after names) (by p added) x).shelves
