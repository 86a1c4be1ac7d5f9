-- One object's way into a list and out again: the worlds in between, the list, and its page. What each call does to a world is
-- bm_obj's (specs/WorldState.antt); who owns an item is said in docs/graphs.md.
use Rattle.std.specs.Prelude.{◌≡◌, ℕ, ◌^◌, Bool, true, false, List, [], ◌∷◌, Option, None, Some, IfSome, replicate}
use Rattle.bm_journal.specs.declared.ids.Tag.{Tag}
use Rattle.bm_graph.specs.declared.graph.Graph.{Graph}
use Rattle.bm_graph.specs.declared.graph.Graph.TheVariants as graph
use Rattle.bm_graph.specs.declared.item.Item.{Item}
use Rattle.bm_obj.specs.Carrying.{NoClaimFor}
use Rattle.bm_obj.specs.Known.{HasPage}
use Rattle.bm_obj.specs.Reference.{Reference, id_of}
use Rattle.bm_obj.specs.Waits.{waiting_at}
use Rattle.bm_obj.specs.WorldState.{World, known_of, opening_word}
use Rattle.bm_obj.specs.declared.note.Note.{Note}
use Rattle.bm_obj.specs.declared.note.Note.TheVariants as note
use Rattle.bm_obj.specs.declared.object.UnitPlace.{UnitPlace}
use Rattle.bm_obj.specs.declared.object.UnitPlace.TheVariants.{Free, Lives}
use Rattle.bm_obj.specs.declared.type_def.Node.TheVariants.{List as ListNode}
use Rattle.bm_obj.specs.declared.waiting.Waiting.{Waiting}

-- the object: the first life of unit 0, of type 0, made by processor 0
abbrev pub first : Reference
first = record { unit = 0; life = 1; def = 0; maker = 0 }

-- a call of processor 0
abbrev pub tag_of : ℕ → Tag
tag_of serial = record { processor = 0; serial = serial }

-- all places of the page but that of unit 0
unfoldable pub others : List UnitPlace
others = replicate 255 (Free 0)

-- the world that the tests begin with, but for what is in the place of unit 0, what waits for the graph, and what was marked last
abbrev pub world_with : UnitPlace → Option Waiting → Option Tag → World
world_with place waits last = record {
  places = place ∷ others;
  words = opening_word ∷ [];
  slots = 0 ∷ [];
  graphs = 0 ∷ [];
  defs = record { fields = 1; counted = true; node = ListNode; pad = 0 } ∷ [];
  processor = 0;
  acquires = 2 ^ 30;
  waits = waits ∷ [];
  last = last;
}

-- the object with the value 7 and one reference: who owns it, whether the reference is in a note, and whether the claim is
abbrev pub object_with : Option ℕ → ℕ → Bool → UnitPlace
object_with owner noted carried = Lives (record {
  unit = record { number = 0; class = 2; home = 0; life = 1; seal = None };
  count = 1;
  def = 0;
  values = 7 ∷ [];
  owner = owner;
  noted = noted;
  carried = carried;
})

-- The program has the reference, and no graph owns the object; and graph 0 owns it, by a note that carries both.
abbrev pub in_hands : UnitPlace
in_hands = object_with None 0 false

abbrev pub in_list : UnitPlace
in_list = object_with (Some 0) 1 true

-- .. which is the list's item
abbrev pub first_item : Item Note
first_item = record { reference = note.Item first (Some 0); id = id_of first; key = 7 }

-- the items of a list
abbrev pub items_in : Graph Note → Option (List (Item Note))
items_in (graph.List list) = Some list.items
items_in (graph.Tree tree) = None

-- The graph's page may go out: the side has it, with no claim for the graph, and nothing waits.
abbrev pub MayLeave : World → Type 0
MayLeave world =
    HasPage 0 (known_of world) × NoClaimFor 0 (known_of world) × (waiting_at world.waits 0 ≡ None)

-- A visit finds this world, a list of these items, and the page of graph 0.
abbrev pub Finds : World → List (Item Note) → World → Graph Note → Note → Type 0
Finds world items now lent page =
    (now ≡ world) × (items_in lent ≡ Some items) × (page ≡ note.Page 0)

-- It leaves the page there; and where the list has an entry for it, this world and a list of these items.
abbrev pub LeavesBy :
    {A : Type 0} → World → List (Item Note) → Option A → World → Graph Note → Note → Type 0
LeavesBy world items at now left page =
    (page ≡ note.Page 0) × IfSome at (λ _. (now ≡ world) × (items_in left ≡ Some items))

-- a shelf of one list of these items, with its page
abbrev pub IsShelf : List (Item Note) → List (Graph Note × Note) → Type 0
IsShelf items shelf =
    (lent : Graph Note) × (shelf ≡ (lent, note.Page 0) ∷ []) × (items_in lent ≡ Some items)
