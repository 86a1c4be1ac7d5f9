-- Worked histories of a list and a tree, and wrong ones beside them.
use Rattle.std.specs.Prelude.{ℕ, List, [], ◌∷◌, ◌++◌}
use Rattle.bm_journal.specs.declared.ids.ObjId.{ObjId}
use Rattle.bm_journal.specs.declared.past.Past.{Past}
use Rattle.bm_journal.specs.declared.past.PastCall.{PastCall}
use Rattle.bm_journal.specs.declared.past.PastCall.TheVariants as past
use Rattle.bm_graph.specs.Objects.{Node}

-- the first life of a unit
abbrev pub object : ℕ → ObjId
object unit = record { unit = unit; life = 1 }

abbrev pub node : ℕ → ℕ → Node
node unit key = record { id = object unit; key = key }

-- calls of processor 0, with their serials
abbrev pub by : List (ℕ × PastCall) → List Past
by [] = []
by (p ∷ ps) = record { tag = record { processor = 0; serial = p.0 }; call = p.1 } ∷ by ps

-- objects of keys 5, 5 and 3 are added to a tree
abbrev pub three_added : List Past
three_added =
    by ((5, past.Add (object 3) 5) ∷ (6, past.Add (object 2) 5) ∷ (7, past.Add (object 1) 3) ∷ [])

-- the first one is looked at and taken, until there is none
abbrev pub all_taken : List Past
all_taken =
    by
    ((8, past.First (object 1)) ∷ (9, past.Remove (object 1)) ∷ (11, past.First (object 3))
    ∷ (12, past.Remove (object 3)) ∷ (14, past.First (object 2))
    ∷ (15, past.Remove (object 2)) ∷ (17, past.FirstNone) ∷ [])

-- of the two equal keys the one added last comes first
abbrev pub equal_key_first : List Past
equal_key_first = three_added ++ by ((8, past.Remove (object 1)) ∷ (9, past.First (object 2)) ∷ [])

-- a look takes the node out
abbrev pub first_takes : List Past
first_takes = three_added ++ by ((8, past.First (object 1)) ∷ (9, past.First (object 3)) ∷ [])

-- a node is removed that isn't in the tree
abbrev pub removed_twice : List Past
removed_twice = three_added ++ by ((8, past.Remove (object 2)) ∷ (9, past.Remove (object 2)) ∷ [])

-- the tree isn't empty yet
abbrev pub none_early : List Past
none_early = three_added ++ by ((8, past.FirstNone) ∷ [])

-- three objects are pushed onto a list, the third one at the front, and a push of the first one is refused
abbrev pub three_pushed : List Past
three_pushed =
    by
    ((1, past.PushBack (object 1)) ∷ (2, past.PushBack (object 2))
    ∷ (3, past.PushFront (object 3)) ∷ (4, past.PushBackAlready (object 1) 0) ∷ [])

-- both ends are popped, the last item, and then none
abbrev pub all_popped : List Past
all_popped =
    by
    ((6, past.PopBack (object 2)) ∷ (7, past.PopFront (object 3)) ∷ (8, past.PopBack (object 1))
    ∷ (9, past.PopFrontNone) ∷ (10, past.PopBackNone) ∷ [])

-- the item of the other end is popped
abbrev pub other_end : List Past
other_end = three_pushed ++ by ((6, past.PopFront (object 2)) ∷ [])

-- an object is pushed that is in the list
abbrev pub pushed_twice : List Past
pushed_twice = three_pushed ++ by ((6, past.PushFront (object 1)) ∷ [])

-- another life of the same unit is another object
abbrev pub other_life : List Past
other_life = three_pushed ++ by ((6, past.PopFront (record { unit = 3; life = 2 })) ∷ [])

-- the list isn't empty yet
abbrev pub pop_finds_none : List Past
pop_finds_none = three_pushed ++ by ((6, past.PopFrontNone) ∷ [])

-- an addition is a call of a tree
abbrev pub added_to_list : List Past
added_to_list = three_pushed ++ by ((6, past.Add (object 6) 1) ∷ [])
