-- Worked orders for seals, of one processor: a parcel has a unit of a batch and one that never waited.
use Rattle.std.specs.Prelude.{[], ◌∷◌}
use Rattle.bm_journal.specs.declared.ids.Domain.TheVariants.{Plain}
use Rattle.bm_journal.specs.declared.units.Units.TheVariants.{Whole}
use Rattle.bm_journal.specs.declared.entry.Entry.{Entry}
use Rattle.bm_journal.specs.declared.entry.Entry.TheVariants as entry
use Rattle.bm_law_order.specs.Orders.{Order}
use Rattle.bm_law_laid.specs.WorkedOrders.{entries}

-- Unit 1 is freed with delay, and waits in a batch. Behind the pass of its stamp a parcel has it and unit 2; and then this unit is given.
abbrev pub sent_beside : Entry → Order
sent_beside gives =
    entries 0
    (entry.Delay 1 0 ∷ entry.Batch 10 (Whole (1 ∷ [])) ∷ entry.Stamp 10 Plain 2
    ∷ entry.Pass 10 Plain 2 ∷ entry.Send 10 0 (Whole (1 ∷ 2 ∷ [])) ∷ gives ∷ [])
