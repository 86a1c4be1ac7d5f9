-- Worked orders of one processor that are wrong, each by its last entries.
use Rattle.std.specs.Prelude.{[], ◌∷◌}
use Rattle.bm_journal.specs.declared.ids.Domain.TheVariants.{Plain}
use Rattle.bm_journal.specs.declared.units.Units.TheVariants.{Whole}
use Rattle.bm_journal.specs.declared.entry.Entry.TheVariants as entry
use Rattle.bm_law_laid.specs.WorkedOrders.{entries}
use Rattle.bm_law_order.specs.Orders.{Order, by}

-- An entry of a handler stands between a drop and its reply.
abbrev pub interrupted_drop : Order
interrupted_drop = by 0 ((0, entry.Drop 0 1) ∷ (1, entry.Enter 10 1) ∷ (0, entry.Last) ∷ [])

-- What is freed with delay is pushed on Free.
abbrev pub pushed_though_delayed : Order
pushed_though_delayed = entries 0 (entry.Delay 0 0 ∷ entry.Enter 10 1 ∷ entry.Push 10 0 ∷ [])

-- A batch takes its stamp in a handler.
abbrev pub stamped_by_handler : Order
stamped_by_handler =
    by 0
    ((0, entry.Delay 0 0) ∷ (0, entry.Delayed 10 0) ∷ (0, entry.Batch 10 (Whole (0 ∷ [])))
    ∷ (1, entry.Stamp 10 Plain 2) ∷ [])

-- A batch is sent with no pass before it.
abbrev pub sent_unpassed : Order
sent_unpassed =
    entries 0
    (entry.Delay 0 0 ∷ entry.Delayed 10 0 ∷ entry.Batch 10 (Whole (0 ∷ []))
    ∷ entry.Stamp 10 Plain 2 ∷ entry.Send 10 0 (Whole (0 ∷ [])) ∷ [])

-- A unit is given after a sweep.
abbrev pub given_after_sweep : Order
given_after_sweep = entries 0 (entry.Sweep 10 (Whole []) ∷ entry.Given 0 1 ∷ [])
