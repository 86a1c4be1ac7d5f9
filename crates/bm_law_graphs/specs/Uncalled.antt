-- Where no list or tree is called. (This project's own. So are the logs of runs as long as no statement names a list or tree.)
use Rattle.std.specs.Prelude.{[], ◌∷◌}
use Rattle.bm_journal.specs.declared.entry.Entry.{Entry}
use Rattle.bm_journal.specs.declared.entry.Entry.TheVariants as entry
use Rattle.bm_law_order.specs.Orders.{Order}

-- An entry that calls no list or tree, and neither takes a lock nor gives one back.
abbrev pub CallsNone : Entry → Type 0
CallsNone (entry.Lock name) = ⊥
CallsNone (entry.Unlock name) = ⊥
CallsNone (entry.PushFront name u life pos) = ⊥
CallsNone (entry.PushBack name u life pos) = ⊥
CallsNone (entry.Add name u life pos) = ⊥
CallsNone (entry.PushFrontAlready name u life owner pos) = ⊥
CallsNone (entry.PushBackAlready name u life owner pos) = ⊥
CallsNone (entry.AddAlready name u life owner pos) = ⊥
CallsNone (entry.PopFront name item pos) = ⊥
CallsNone (entry.PopBack name item pos) = ⊥
CallsNone (entry.First name item pos) = ⊥
CallsNone (entry.Remove name u life pos) = ⊥
CallsNone _ = Unit {0}

-- so is each entry of an order
abbrev pub CallNone : Order → Type 0
CallNone [] = Unit {0}
CallNone (e ∷ o) = CallsNone e.entry × CallNone o
