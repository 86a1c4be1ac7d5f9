-- Worked orders for polls, of one processor with one page. Its one unit is freed with delay and is a batch with stamp 2 when the poll
-- begins.
use Rattle.std.specs.Prelude.{List, [], ◌∷◌, ◌++◌}
use Rattle.bm_journal.specs.declared.ids.Domain.TheVariants.{Plain}
use Rattle.bm_journal.specs.declared.entry.Entry.{Entry}
use Rattle.bm_journal.specs.declared.entry.Entry.TheVariants as entry
use Rattle.bm_law_lives.specs.Worked.{batches, delays, gives, opens, period, sends}
use Rattle.bm_law_order.specs.Orders.{Order}
use Rattle.bm_law_laid.specs.WorkedOrders.{entries}

-- up to the stamp
abbrev pub stamped : List Entry
stamped = opens (0 ∷ []) ++ gives 0 (entry.Given 0 1) ++ delays 0 1 0 ++ batches 0 2

-- A period begins and ends at once, since all words pass.
abbrev pub at_once : Order
at_once = entries 0 (stamped ++ period Plain 1 (0 ∷ []) (0 ∷ []) ++ sends 0 2 0)

-- The poll only looks at the number, though that is even and below the stamp.
abbrev pub only_looks : Order
only_looks = entries 0 (stamped ++ entry.Pass 10 Plain 0 ∷ [])

-- It begins a period, and doesn't look at the words, which pass.
abbrev pub never_ends : Order
never_ends = entries 0 (stamped ++ entry.Begin Plain 1 ∷ entry.Pass 10 Plain 1 ∷ [])

-- It begins a period from the number that is the stamp.
abbrev pub begins_from_stamp : Order
begins_from_stamp =
    entries 0
    (stamped ++ period Plain 1 (0 ∷ []) (0 ∷ []) ++ entry.Pass 10 Plain 2
    ∷ period Plain 3 (0 ∷ []) (0 ∷ []) ++ entry.Pass 10 Plain 4 ∷ [])

-- Its batch has no stamp.
abbrev pub no_stamp : Order
no_stamp =
    entries 0 (opens (0 ∷ []) ++ period Plain 1 (0 ∷ []) (0 ∷ []) ++ entry.Pass 10 Plain 2 ∷ [])
