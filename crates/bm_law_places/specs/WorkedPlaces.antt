-- Worked orders of two processors with three pages, one unit a page: of class 10, whose units have 4096 bytes. The units are 0, 256 and
-- 512.
use Rattle.std.specs.Prelude.{◌≡◌, ℕ, List, [], ◌∷◌, ◌++◌}
use Rattle.bm_journal.specs.declared.units.Units.TheVariants.{Whole}
use Rattle.bm_journal.specs.declared.entry.Entry.TheVariants as entry
use Rattle.bm_law.specs.Lists.{Log}
use Rattle.bm_law.specs.Ordinary.{ordinary}
use Rattle.bm_law_laid.specs.WorkedOrders.{entries, fills}
use Rattle.bm_law_order.specs.Orders.{Order}
use Rattle.bm_law_places.specs.Place.{Place, Stock, Inbox, Cache, Hand, Living, Ending, times_at}
use Rattle.bm_law_places.specs.World.{World, world_over}

-- ---- a unit that goes from processor to processor and back

-- parts of an order, each with a place
abbrev pub Way : Type 0
Way = List (Order × Place)

abbrev pub all_of : Way → Order
all_of [] = []
all_of (step ∷ way) = step.0 ++ all_of way

-- after each part the place names unit u once
abbrev pub GoesThrough : ℕ → Way → World → Type 0
GoesThrough u [] w = Unit {0}
GoesThrough u (step ∷ way) w =
    (times_at u step.1 (world_over step.0 w) ≡ 1) × GoesThrough u way (world_over step.0 w)

-- Processor 1 allocates unit 256, and processor 0 frees it.
abbrev pub borrowed : Way
borrowed =
    (fills, Cache 1 10)
    ∷ (entries 1 (entry.Enter 10 1 ∷ entry.Pop 10 256 ∷ []), Hand 1 0)
    ∷ (entries 1 (entry.Count 10 0 ∷ entry.Leave 10 0 ∷ entry.Given 256 1 ∷ []), Living)
    ∷ (entries 0 (entry.Drop 256 1 ∷ entry.Last ∷ []), Ending 0 0)
    ∷ (entries 0 (entry.Free 256 1 ∷ entry.Enter 10 1 ∷ []), Hand 0 0)
    ∷ (entries 0 (entry.Push 10 256 ∷ entry.Count 10 2 ∷ entry.Leave 10 0 ∷ []), Cache 0 10)
    ∷ []

-- Processor 0 takes it off its list and sends it home, where it goes through both lists to the stock.
abbrev pub sent_home : Way
sent_home = (
  entries 0 (entry.Enter 10 1 ∷ entry.Pop 10 256 ∷ entry.Count 10 1 ∷ entry.Leave 10 0 ∷ []),
  Hand 0 0,
)
    ∷ (entries 0 (entry.Send 10 1 (Whole (256 ∷ [])) ∷ []), Inbox 1 10)
    ∷ (
      entries 1
          (entry.Receive 10 (Whole (256 ∷ [])) ∷ entry.BeginSecond 10 (Whole (256 ∷ [])) ∷ []),
      Cache 1 10,
    )
    ∷ (entries 1 (entry.Return 10 (Whole (256 ∷ [])) ∷ []), Stock)
    ∷ []

-- Processor 1 closes without receiving it, and sweeps it out of its inbox.
abbrev pub swept_home : Way
swept_home = (
  entries 0 (entry.Enter 10 1 ∷ entry.Pop 10 256 ∷ entry.Count 10 1 ∷ entry.Leave 10 0 ∷ []),
  Hand 0 0,
)
    ∷ (entries 0 (entry.Send 10 1 (Whole (256 ∷ [])) ∷ []), Inbox 1 10)
    ∷ (entries 1 (entry.Sweep 10 (Whole (256 ∷ [])) ∷ []), Cache 1 10)
    ∷ []

-- ---- wrong orders, each by its last entries

-- Both processors open with the same unit.
abbrev pub filled_twice : Order
filled_twice =
    entries 0 (entry.Fill 10 (Whole (0 ∷ [])) ∷ [])
    ++ entries 1 (entry.Fill 10 (Whole (0 ∷ [])) ∷ [])

-- The stock gives a unit that comes to no list.
abbrev pub lost_at_fill : Order
lost_at_fill = entries 0 (entry.Fill 10 (Whole []) ∷ [])

-- The unit that processor 0 has freed and pushed on its list is freed and pushed by processor 1 too.
abbrev pub pushed_twice : Order
pushed_twice =
    all_of borrowed ++ entries 1 (entry.Free 256 1 ∷ entry.Enter 10 1 ∷ entry.Push 10 256 ∷ [])

-- A unit is fetched that another processor has.
abbrev pub fetched_from_other : Order
fetched_from_other = fills ++ entries 0 (entry.Fetch 10 1 (Whole (256 ∷ [])) ∷ [])

-- A unit is received that was never sent.
abbrev pub received_unsent : Order
received_unsent = fills ++ entries 1 (entry.Receive 10 (Whole (0 ∷ [])) ∷ [])

-- A unit is sent that stays on its list.
abbrev pub sent_though_kept : Order
sent_though_kept = fills ++ entries 0 (entry.Send 10 1 (Whole (0 ∷ [])) ∷ [])

-- A unit is given while it is in the stock.
abbrev pub given_in_stock : Order
given_in_stock = fills ++ entries 0 (entry.Given 512 1 ∷ [])

-- A unit is returned that stays on its list.
abbrev pub returned_though_kept : Order
returned_though_kept = fills ++ entries 0 (entry.Return 10 (Whole (0 ∷ [])) ∷ [])

-- A sweep takes a unit out of the inbox that never was there, but is in the stock. Each entry finds what it needs of what is shared, and
-- names what is in the lists: only both together say that it doesn't.
abbrev pub swept_from_stock : Order
swept_from_stock = fills ++ entries 0 (entry.Sweep 10 (Whole (0 ∷ 512 ∷ [])) ∷ [])

-- The log of one processor with two pages, whose closing sweeps a unit that is in the stock.
abbrev pub sweeps_from_stock : List Log
sweeps_from_stock =
    ordinary
    (entry.Fill 10 (Whole (0 ∷ [])) ∷ entry.Ended ∷ entry.Sweep 10 (Whole (0 ∷ 256 ∷ [])) ∷ [])
    ∷ []
