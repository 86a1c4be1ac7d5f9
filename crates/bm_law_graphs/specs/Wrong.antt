-- Wrong neighbours of the worked orders, each wrong in its last entry, and of the worked histories.
use Rattle.std.specs.Prelude.{ℕ, None, List, [], ◌∷◌, ◌++◌, codes}
use Rattle.bm_journal.specs.declared.entry.Entry.TheVariants as entry
use Rattle.bm_journal.specs.declared.past.Past.{Past}
use Rattle.bm_journal.specs.declared.past.PastCall.TheVariants as past
use Rattle.bm_law_order.specs.Orders.{Order, by}
use Rattle.bm_law_order.specs.Story.{at_level}
use Rattle.bm_law_graphs.specs.Calls.{object}
use Rattle.bm_law_graphs.specs.Worked.{both_histories, entries, history_of_q, history_of_r, item, on_list, on_tree, past_by, pushed_again, q, r, s, t}

-- A look names the position of the addition before it.
abbrev pub position_twice : Order
position_twice = on_tree (entry.First t (item 1) 2 ∷ [])

-- A look names the node after the first one.
abbrev pub second_found : Order
second_found = on_tree (entry.First t (item 3) 3 ∷ [])

-- Of two equal keys the one that was added later comes first.
abbrev pub equal_key_first : Order
equal_key_first = on_tree (entry.Remove t 1 1 3 ∷ entry.First t (item 2) 4 ∷ [])

-- A node is removed that isn't in the tree.
abbrev pub removed_twice : Order
removed_twice = on_tree (entry.Remove t 1 1 3 ∷ entry.Remove t 1 1 4 ∷ [])

-- A call stands after its lock was given back.
abbrev pub without_lock : Order
without_lock = on_tree (entry.Unlock t ∷ entry.First t (item 1) 3 ∷ [])

-- A call is made by a processor that doesn't hold the lock, another one does.
abbrev pub other_lock : Order
other_lock = on_tree [] ++ entries 1 (entry.First t (item 1) 3 ∷ [])

-- A handler calls, while the script that it interrupts holds the lock.
abbrev pub in_a_handler : Order
in_a_handler = on_tree [] ++ by 0 (at_level 1 (entry.First t (item 1) 3 ∷ []))

-- A lock is taken that another processor holds, and given back by one that doesn't hold it.
abbrev pub locked_twice : Order
locked_twice = on_tree [] ++ entries 1 (entry.Lock t ∷ [])

abbrev pub unlocked_by_other : Order
unlocked_by_other = on_tree [] ++ entries 1 (entry.Unlock t ∷ [])

-- A call without a lock stands after a `close` of another processor than 0; is made by another one; and while another one holds the lock.
abbrev pub closed_by_other : Order
closed_by_other = entries 1 (entry.Close ∷ []) ++ entries 0 (entry.PopFront q None 0 ∷ [])

abbrev pub closing_elsewhere : Order
closing_elsewhere = entries 0 (entry.Close ∷ []) ++ entries 1 (entry.PopFront q None 0 ∷ [])

abbrev pub closing_locked : Order
closing_locked =
    entries 1 (entry.Lock q ∷ []) ++ entries 0 (entry.Close ∷ entry.PopFront q None 0 ∷ [])

-- An object is added that wasn't made, so that it has no key.
abbrev pub added_unmade : Order
added_unmade = on_tree (entry.Add t 4 1 3 ∷ [])

-- The item of the other end is popped.
abbrev pub other_end : Order
other_end = on_list (entry.PopBack r (item 3) 2 ∷ [])

-- The list isn't empty yet.
abbrev pub none_early : Order
none_early = on_list (entry.PopFront r None 2 ∷ [])

-- A list is a tree too.
abbrev pub added_to_list : Order
added_to_list =
    on_list (entry.Unlock r ∷ entry.Lock q ∷ entry.First q None 0 ∷ entry.PopFront q None 1 ∷ [])

-- An object is pushed that is in another list.
abbrev pub pushed_twice : Order
pushed_twice = pushed_again (entry.PushBack q 3 1 0)

-- A refused push names the list onto which it would push, and a slot; neither has the object.
abbrev pub own_list_named : Order
own_list_named = pushed_again (entry.PushBackAlready q 3 1 q 0)

abbrev pub slot_named : Order
slot_named = pushed_again (entry.PushBackAlready q 3 1 s 0)

-- A push of another life of the unit is refused.
abbrev pub other_life : Order
other_life = pushed_again (entry.PushBackAlready q 3 2 r 0)

-- A push of an object that is in no list is refused.
abbrev pub refused_early : Order
refused_early = entries 0 (entry.Lock q ∷ entry.PushBackAlready q 3 1 r 0 ∷ [])

-- A call names no map.
abbrev pub unknown_name : Order
unknown_name = entries 0 (entry.Lock (codes "z") ∷ entry.PopFront (codes "z") None 0 ∷ [])

-- ---- histories

-- The refused push isn't in the history.
abbrev pub call_left_out : List Past
call_left_out = past_by 0 7 past.PopFrontNone ∷ []

-- It is in the history twice.
abbrev pub call_twice : List Past
call_twice = past_by 0 4 (past.PushBackAlready (object 3 1) 2) ∷ history_of_q

-- It has the serial of another call.
abbrev pub other_tag : List Past
other_tag = past_by 0 5 (past.PushBackAlready (object 3 1) 2) ∷ past_by 0 7 past.PopFrontNone ∷ []

-- The two calls of processor 0 are exchanged.
abbrev pub exchanged_calls : List Past
exchanged_calls =
    past_by 0 7 past.PopFrontNone ∷ past_by 0 4 (past.PushBackAlready (object 3 1) 2) ∷ []

-- The object is popped before it is pushed.
abbrev pub popped_early : List Past
popped_early =
    past_by 0 8 (past.PopFront (object 3 1)) ∷ past_by 1 2 (past.PushBack (object 3 1))
    ∷ past_by 0 10 past.PopFrontNone ∷ []

-- The refused push onto q names the map of this place.
abbrev pub names_place : ℕ → List ℕ → List Past
names_place owner =
    both_histories (past_by 0 4 (past.PushBackAlready (object 3 1) owner) ∷ []) history_of_r

-- It names r, onto which nothing was pushed.
abbrev pub nothing_pushed : List ℕ → List Past
nothing_pushed = both_histories history_of_q []

-- It names r, where the object is in q.
abbrev pub in_q_already : List ℕ → List Past
in_q_already = both_histories (past_by 0 3 (past.PushBack (object 3 1)) ∷ history_of_q) history_of_r

-- A node has another key than its object's first value.
abbrev pub other_key : List Past
other_key = past_by 0 5 (past.Add (object 3 1) 3) ∷ []

-- Between two calls under one lock another processor calls.
abbrev pub call_between : Order
call_between =
    entries 0 (entry.Lock q ∷ entry.PopFront q None 0 ∷ [])
    ++ entries 1 (entry.PopFront q None 1 ∷ [])
    ++ entries 0 (entry.PopFront q None 2 ∷ entry.Unlock q ∷ [])
