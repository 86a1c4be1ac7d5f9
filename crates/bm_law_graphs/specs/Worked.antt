-- Worked orders with a tree and with lists, made by hand: of the entries of processors only those that objects, lists and trees need.
use Rattle.std.specs.Prelude.{ℕ, if◌then◌else◌, Option, Some, None, List, [], ◌∷◌, ◌++◌, codes}
use Rattle.std.specs.Str.{bytes_eq}
use Rattle.bm_journal.specs.declared.ids.ObjId.{ObjId}
use Rattle.bm_journal.specs.declared.entry.Entry.{Entry}
use Rattle.bm_journal.specs.declared.entry.Entry.TheVariants as entry
use Rattle.bm_journal.specs.declared.past.Past.{Past}
use Rattle.bm_journal.specs.declared.past.PastCall.{PastCall}
use Rattle.bm_journal.specs.declared.past.PastCall.TheVariants as past
use Rattle.bm_law.specs.Lists.{Log}
use Rattle.bm_law_order.specs.Orders.{Order, by, over, part_of}
use Rattle.bm_law_order.specs.Story.{at_level}
use Rattle.bm_law_graphs.specs.Calls.{object}
use Rattle.bm_law_graphs.specs.Shelves.{nothing_shelved, shelved_after}

-- entries of level 0 of processor p
abbrev pub entries : (p : ℕ) → List Entry → Order
entries p es = by p (at_level 0 es)

-- the first life of a unit
abbrev pub item : ℕ → Option ObjId
item u = Some (object u 1)

-- a call of processor p, with its serial
abbrev pub past_by : (p serial : ℕ) → PastCall → Past
past_by p serial call = record { tag = record { processor = p; serial = serial }; call = call }

-- an object of the unit is made with this value
abbrev pub makes : (u value : ℕ) → List Entry
makes u value = entry.New (codes "node") (value ∷ []) ∷ entry.Given u 1 ∷ []

-- an object is given up
abbrev pub ends : (u : ℕ) → List Entry
ends u = entry.Drop u 1 ∷ entry.Last ∷ entry.Free u 0 ∷ []

-- the history of a list or tree after an order
abbrev pub history_of : (names : List (List ℕ)) → (name : List ℕ) → Order → List Past
history_of names name o = (over (shelved_after names) o nothing_shelved).shelves.histories name

-- ---- a tree

abbrev pub t : List ℕ
t = codes "t"

abbrev pub one_tree : List (List ℕ)
one_tree = t ∷ []

-- A script makes three objects of keys 5, 5 and 3, and adds them to a tree under its lock.
abbrev pub tree_made : Order
tree_made =
    entries 0
    (makes 3 5 ++ entry.Get 3 1 0 5 ∷ [] ++ makes 2 5 ++ makes 1 3 ++ entry.Lock t
    ∷ entry.Add t 3 1 0 ∷ entry.Add t 2 1 1 ∷ entry.Add t 1 1 2 ∷ [])

-- Then these entries follow.
abbrev pub on_tree : List Entry → Order
on_tree es = tree_made ++ entries 0 es

-- It looks at the first one and takes it. In the closing the others are taken, of the equal keys the one that was added first, and none
-- is left.
abbrev pub taken_in_order : List Entry
taken_in_order =
    entry.First t (item 1) 3 ∷ entry.Remove t 1 1 4 ∷ entry.Unlock t ∷ [] ++ ends 1 ++ entry.Close
    ∷ entry.First t (item 3) 5 ∷ entry.Remove t 3 1 6 ∷ [] ++ ends 3 ++ entry.First t (item 2) 7
    ∷ entry.Remove t 2 1 8 ∷ [] ++ ends 2 ++ entry.First t None 9 ∷ []

abbrev pub tree_order : Order
tree_order = on_tree taken_in_order

-- Of two equal keys the one that was added first comes first.
abbrev pub least_taken : Order
least_taken = on_tree (entry.Remove t 1 1 3 ∷ entry.First t (item 3) 4 ∷ [])

-- An addition of a node that is in the tree is refused.
abbrev pub added_again : Order
added_again = on_tree (entry.AddAlready t 2 1 t 3 ∷ [])

abbrev pub refused_addition : List Past
refused_addition = past_by 0 8 (past.AddAlready (object 2 1) 5 0) ∷ []

-- ---- an object for which two processors have a reference each

abbrev pub s : List ℕ
s = codes "s"

abbrev pub q : List ℕ
q = codes "q"

abbrev pub r : List ℕ
r = codes "r"

-- a slot and two lists
abbrev pub two_lists : List (List ℕ)
two_lists = s ∷ q ∷ r ∷ []

-- Processor 0 puts one of two references to its object into a slot. Processor 1 takes it out and pushes the object onto r.
abbrev pub pushed_onto_r : Order
pushed_onto_r =
    entries 0 (makes 3 9 ++ entry.Acquire 3 1 1 ∷ entry.Xchg s (item 3) None None ∷ [])
    ++ entries 1
    (entry.Xchg s None (item 3) (Some (record { processor = 0; serial = 3 })) ∷ entry.Lock r
    ∷ entry.PushBack r 3 1 0 ∷ entry.Unlock r ∷ [])

-- Processor 0 pushes it onto q by the other one, which is this call.
abbrev pub pushed_again : Entry → Order
pushed_again call = pushed_onto_r ++ entries 0 (entry.Lock q ∷ call ∷ [])

-- That is refused, and the reference dropped. In the closing q is empty, and r has the object.
abbrev pub list_order : Order
list_order =
    pushed_again (entry.PushBackAlready q 3 1 r 0)
    ++ entries 0
    (entry.Drop 3 1 ∷ entry.Still 2 ∷ entry.Unlock q ∷ entry.Close
    ∷ entry.Xchg s None None (Some (record { processor = 1; serial = 1 }))
    ∷ entry.PopFront q None 1 ∷ entry.PopFront r (item 3) 1 ∷ [] ++ ends 3
    ++ entry.PopFront r None 2 ∷ [])

-- the histories of both lists
abbrev pub history_of_q : List Past
history_of_q =
    past_by 0 4 (past.PushBackAlready (object 3 1) 2) ∷ past_by 0 7 past.PopFrontNone ∷ []

abbrev pub history_of_r : List Past
history_of_r =
    past_by 1 2 (past.PushBack (object 3 1)) ∷ past_by 0 8 (past.PopFront (object 3 1))
    ∷ past_by 0 10 past.PopFrontNone ∷ []

abbrev pub both_histories : (of_q of_r : List Past) → List ℕ → List Past
both_histories of_q of_r name =
    if bytes_eq q name then of_q else if bytes_eq r name then of_r else []

-- ---- both ends of a list

-- A script makes two objects and pushes both at the back of r, under its lock. Then these entries follow.
abbrev pub on_list : List Entry → Order
on_list es =
    entries 0
    (makes 3 9 ++ makes 2 8 ++ entry.Lock r ∷ entry.PushBack r 3 1 0 ∷ entry.PushBack r 2 1 1
    ∷ [] ++ es)

-- The back one is popped, and put back at the front. A push of the other one is refused, and both are popped until there is none.
abbrev pub both_ends : Order
both_ends =
    on_list
    (entry.PopBack r (item 2) 2 ∷ entry.PushFront r 2 1 3 ∷ entry.PushFrontAlready r 3 1 r 4
    ∷ entry.PopBack r (item 3) 5 ∷ entry.PopFront r (item 2) 6 ∷ entry.PopBack r None 7
    ∷ entry.Unlock r ∷ [])

abbrev pub history_of_both_ends : List Past
history_of_both_ends =
    past_by 0 3 (past.PushBack (object 3 1)) ∷ past_by 0 4 (past.PushBack (object 2 1))
    ∷ past_by 0 5 (past.PopBack (object 2 1))
    ∷ past_by 0 6 (past.PushFront (object 2 1)) ∷ past_by 0 7 (past.PushFrontAlready (object 3 1) 2)
    ∷ past_by 0 8 (past.PopBack (object 3 1))
    ∷ past_by 0 9 (past.PopFront (object 2 1)) ∷ past_by 0 10 past.PopBackNone ∷ []

-- Another list isn't called at all, but a tree in its place is.
abbrev pub called_as_tree : Order
called_as_tree = on_list (entry.Unlock r ∷ entry.Lock q ∷ entry.First q None 0 ∷ [])

-- the logs of both processors
abbrev pub logs_of : Order → List Log
logs_of o = part_of 0 o ∷ part_of 1 o ∷ []
