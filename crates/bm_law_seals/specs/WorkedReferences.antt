-- Worked orders of two processors and one unit, to which there are two references.
use Rattle.std.specs.Prelude.{List, [], ◌∷◌, ◌++◌}
use Rattle.bm_journal.specs.declared.entry.Entry.{Entry}
use Rattle.bm_journal.specs.declared.entry.Entry.TheVariants as entry
use Rattle.bm_law.specs.Lists.{Log}
use Rattle.bm_law_order.specs.Orders.{Order, by, part_of}
use Rattle.bm_law_order.specs.Story.{at_level}

-- the logs of both processors
abbrev pub logs_of : Order → List Log
logs_of o = part_of 0 o ∷ part_of 1 o ∷ []

-- Processor 0 makes a life and a second reference to it. It gives the one up, and processor 1 the other.
abbrev pub given_up_by : List Entry → List Entry → Order
given_up_by first second =
    by 0 (at_level 0 (entry.Given 3 1 ∷ entry.Acquire 3 1 1 ∷ first)) ++ by 1 (at_level 0 second)

abbrev pub still_held : List Entry
still_held = entry.Drop 3 1 ∷ entry.Still 2 ∷ []

abbrev pub two_references : Order
two_references = given_up_by still_held (entry.Drop 3 1 ∷ entry.Last ∷ entry.Delay 3 0 ∷ [])

-- The unit is freed behind the reply that one reference is left; and both drops are answered `last`; and the free goes to the processor
-- that dropped last, which didn't make the life.
abbrev pub freed_while_held : Order
freed_while_held = given_up_by (entry.Drop 3 1 ∷ entry.Still 2 ∷ entry.Delay 3 0 ∷ []) []

abbrev pub ended_by_both : Order
ended_by_both =
    given_up_by (entry.Drop 3 1 ∷ entry.Last ∷ entry.Delay 3 0 ∷ [])
    (entry.Drop 3 1 ∷ entry.Last ∷ entry.Delay 3 0 ∷ [])

abbrev pub freed_by_dropper : Order
freed_by_dropper = given_up_by still_held (entry.Drop 3 1 ∷ entry.Last ∷ entry.Delay 3 1 ∷ [])
