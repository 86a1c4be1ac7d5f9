-- Wrong neighbours of the worked order of two processors, each changed in one entry.
use Rattle.std.specs.Prelude.{None, [], ◌∷◌, ◌++◌}
use Rattle.bm_journal.specs.declared.entry.Entry.{Entry}
use Rattle.bm_journal.specs.declared.entry.Entry.TheVariants as entry
use Rattle.bm_law_order.specs.Orders.{Order}
use Rattle.bm_law_objects.specs.Worked.{call, entries, exchanged, handed_on, job, object, one_slot, right, right_order}

-- The exchange of processor 1 finds the slot as it was at the start.
abbrev pub two_first : Order
two_first = handed_on (record right { second = exchanged one_slot (object 2 1) None None })

-- The last exchange doesn't see that of the handler: both take what processor 1 put.
abbrev pub lost_exchange : Order
lost_exchange = handed_on (record right { last = exchanged one_slot None (object 2 1) (call 1 2) })

-- Processor 1 names a call that isn't an exchange of any log.
abbrev pub unknown_tag : Order
unknown_tag =
    handed_on (record right { second = exchanged one_slot (object 2 1) (object 3 1) (call 0 9) })

-- The handler takes what another exchange had put.
abbrev pub other_object : Order
other_object = handed_on (record right { third = exchanged one_slot None (object 3 1) (call 1 2) })

-- What is read is the value of the other field.
abbrev pub other_field : Order
other_field = handed_on (record right { get = entry.Get 3 1 0 4 })

-- A life is read that has ended.
abbrev pub read_too_late : Order
read_too_late = right_order ++ entries 1 0 (entry.Get 2 1 1 6 ∷ [])

-- What is put into the slot has ended.
abbrev pub put_too_late : Order
put_too_late = right_order ++ entries 1 0 (exchanged one_slot (object 2 1) None (call 0 8) ∷ [])

-- What is put into the slot is a life that has ended, of a unit that has another one.
abbrev pub put_old_life : Order
put_old_life =
    right_order
    ++ entries 1 0
    (entry.New job (7 ∷ []) ∷ entry.Given 2 2 ∷ exchanged one_slot (object 2 1) None (call 0 8)
    ∷ [])

-- A unit is given at another level than asked for one.
abbrev pub given_elsewhere : Order
given_elsewhere = entries 0 0 (entry.New job (1 ∷ []) ∷ []) ++ entries 0 1 (entry.Given 3 1 ∷ [])

-- A unit is given where this reply stood already.
abbrev pub given_after : Entry → Order
given_after reply = entries 0 0 (entry.New job (1 ∷ []) ∷ reply ∷ entry.Given 3 1 ∷ [])

-- The acquire sees one reference more than there are.
abbrev pub other_count : Order
other_count = handed_on (record right { acquire = entry.Acquire 3 1 2 })

-- A drop more than there are references is answered that there are more.
abbrev pub still_twice : Order
still_twice = handed_on right ++ entries 1 0 (entry.Drop 3 1 ∷ entry.Still 2 ∷ [])
