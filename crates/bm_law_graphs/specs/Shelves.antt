-- What calls on lists and trees need along one order of the entries of all logs. Each list and tree has a lock, and is one object to
-- which one call after the other is made; an object is in one of them at most. (Documentation/bpf/graph_ds_impl.rst: an object that a
-- list or tree owns is in no other one, and calls are made under the lock. Histories are this project's own.)
use Rattle.std.specs.Prelude.{◌≡◌, ◌<◌, ◌⊎◌, ℕ, Bool, true, false, ◌||◌, eqb, if◌then◌else◌, Option, Some, None, List, [], ◌∷◌, ◌++◌, get_or, length}
use Rattle.std.specs.Option.{is_some}
use Rattle.std.specs.Str.{bytes_eq}
use Rattle.bm_journal.specs.declared.ids.Tag.{Tag}
use Rattle.bm_journal.specs.declared.entry.Entry.{Entry}
use Rattle.bm_journal.specs.declared.entry.Entry.TheVariants as entry
use Rattle.bm_journal.specs.declared.past.Past.{Past}
pub use Rattle.bm_law_order.specs.Graphs.{EffectFits, Replays, Standing, moved, recorded}
use Rattle.bm_law_order.specs.Orders.{AllFit, Order}
use Rattle.bm_law_objects.specs.Objects.{Asked, Made, Objects, first_objects, objects_after, tag_after}
use Rattle.bm_law_graphs.specs.Calls.{Effect, GraphCall, Looks, Puts, Refuses, Takes, effect_of, graph_call, place_of}

-- By name the history of a list or tree so far; by unit where the object in it stands, if it is in a list or tree; by name the processor
-- that holds the lock, if any; and whether processor 0 has begun the closing.
pub record Shelves : Type 0 where
  pub histories : List ℕ → List Past
  pub within : ℕ → Option Standing
  pub holders : List ℕ → Option ℕ
  pub closing : Bool

abbrev pub first_shelves : Shelves
first_shelves =
    record { histories = λ name. []; within = λ u. None; holders = λ name. None; closing = false }

-- ---- what an entry of processor p makes of them

abbrev pub entry_of : GraphCall → Tag → Past
entry_of x tag = record { tag = tag; call = x.call }

abbrev pub called : List (List ℕ) → Option GraphCall → Tag → Shelves → Shelves
called names None tag s = s
called names (Some x) tag s =
    record s {
      histories = recorded x.graph (entry_of x tag) s.histories;
      within = moved (place_of names x.graph) (effect_of x.call) s.within;
    }

abbrev pub with_holder : List ℕ → Option ℕ → (List ℕ → Option ℕ) → List ℕ → Option ℕ
with_holder name holder holders other = if bytes_eq name other then holder else holders other

abbrev pub holders_after : (p : ℕ) → Entry → (List ℕ → Option ℕ) → List ℕ → Option ℕ
holders_after p (entry.Lock name) holders = with_holder name (Some p) holders
holders_after p (entry.Unlock name) holders = with_holder name None holders
holders_after p _ holders = holders

abbrev pub closing_after : (p : ℕ) → Entry → Bool → Bool
closing_after p entry.Close closing = eqb p 0 || closing
closing_after p _ closing = closing

-- with its lock taken or given back
abbrev pub guarded_after : (p : ℕ) → Entry → Shelves → Shelves
guarded_after p e s =
    record s { holders = holders_after p e s.holders; closing = closing_after p e s.closing }

-- Objects go their own way; lists and trees beside them.
pub record Shelved : Type 0 where
  pub objects : Objects
  pub shelves : Shelves

-- the first value that an object was made with orders it in a tree
abbrev pub key_of : Option Made → ℕ
key_of None = 0
key_of (Some made) = get_or made.asked.values 0 0

-- the call that an entry is, with its key, and the tag that it has if it is one
abbrev pub call_in : List (List ℕ) → Entry → Objects → Option GraphCall
call_in names e objects = graph_call names (λ u. key_of (objects.made u)) e

abbrev pub tag_in : (p : ℕ) → Objects → Tag
tag_in p objects = tag_after p (objects.calls p)

abbrev pub shelved_after : List (List ℕ) → (p l : ℕ) → Entry → Shelved → Shelved
shelved_after names p l e s = record {
  objects = objects_after p l e s.objects;
  shelves =
      called names (call_in names e s.objects) (tag_in p s.objects) (guarded_after p e s.shelves);
}

-- ---- what it needs of them

-- In the closing no lock is taken: nobody holds any.
pub record IsClosing (p : ℕ) (graph : List ℕ) (s : Shelves) : Type 0 where
  pub first : p ≡ 0
  pub closing : s.closing ≡ true
  pub free : s.holders graph ≡ None

-- A call on a list or tree that there is, at level 0 under its lock or in the closing; its position is the number of calls on it before, its
-- reply is right after these, and what it does to its object fits where that stands.
pub record IsCall (names : List (List ℕ)) (p l : ℕ) (x : GraphCall) (tag : Tag) (s : Shelves) :
    Type 0 where
  pub declared : place_of names x.graph < length names
  pub level : l ≡ 0
  pub guarded : (s.holders x.graph ≡ Some p) ⊎ IsClosing p x.graph s
  pub position : x.position ≡ length (s.histories x.graph)
  pub right : Replays (s.histories x.graph ++ entry_of x tag ∷ [])
  pub fits : EffectFits (place_of names x.graph) (effect_of x.call) s.within

abbrev pub CallFits :
    (names : List (List ℕ)) → (p l : ℕ) → Option GraphCall → Tag → Shelves → Type 0
CallFits names p l None tag s = Unit {0}
CallFits names p l (Some x) tag s = IsCall names p l x tag s

-- a lock is taken where nobody holds it, and given back by who does
abbrev pub LockFits : (p l : ℕ) → Entry → Shelves → Type 0
LockFits p l (entry.Lock name) s = (l ≡ 0) × (s.holders name ≡ None)
LockFits p l (entry.Unlock name) s = (l ≡ 0) × (s.holders name ≡ Some p)
LockFits p l _ s = Unit {0}

-- this life of the unit was made with a first value
pub record HasKey (u life : ℕ) (objects : Objects) : Type 0 where
  pub asked : Asked
  pub made_is : objects.made u ≡ Some (record { life = life; asked = asked })
  pub has_key : 0 < length asked.values

abbrev pub KeyFits : Entry → Objects → Type 0
KeyFits (entry.Add name u life pos) objects = HasKey u life objects
KeyFits (entry.AddAlready name u life owner pos) objects = HasKey u life objects
KeyFits _ objects = Unit {0}

abbrev pub ShelvedFit : List (List ℕ) → (p l : ℕ) → Entry → Shelved → Type 0
ShelvedFit names p l e s =
    LockFits p l e s.shelves × KeyFits e s.objects
    × CallFits names p l (call_in names e s.objects) (tag_in p s.objects) s.shelves

-- At the outset nothing is made, each list and tree is empty, and nobody holds a lock.
abbrev pub nothing_shelved : Shelved
nothing_shelved = record { objects = first_objects; shelves = first_shelves }

-- Each entry of an order finds the lists and trees, and the locks, that it names, from the outset.
abbrev pub IsShelved : List (List ℕ) → Order → Type 0
IsShelved names order = AllFit (shelved_after names) (ShelvedFit names) order nothing_shelved
