-- The four exchanges of the worked order of two processors as acts, as the world tells them, and wrong neighbours.
use Rattle.std.specs.Prelude.{◌≡◌, ℕ, Option, None, List, [], ◌∷◌, codes}
use Rattle.bm_journal.specs.declared.ids.ObjId.{ObjId}
use Rattle.bm_journal.specs.declared.ids.Tag.{Tag}
use Rattle.bm_law_order.specs.Act.{Act}
use Rattle.bm_law_order.specs.Act as act
use Rattle.bm_law_order.specs.Slots.{Contents, Slot, SlotsLead, empty_slot}
use Rattle.bm_law_objects.specs.Worked.{call, object, one_slot}

abbrev pub all_empty : Contents
all_empty = λ name. empty_slot

-- the exchange by call `serial` of processor p
abbrev pub exchange : (p serial : ℕ) → (put was : Option ObjId) → (by : Option Tag) → Act
exchange p serial put was by =
    act.Exchanges one_slot put was by (record { processor = p; serial = serial })

-- processor 0 puts an object, processor 1 another one for it; this act follows; and processor 0 finds the slot empty
abbrev pub around : Act → List Act
around third =
    exchange 0 4 (object 3 1) None None ∷ exchange 1 2 (object 2 1) (object 3 1) (call 0 4) ∷ third
    ∷ exchange 0 8 None None (call 0 5) ∷ []

-- a handler of processor 0 takes what processor 1 put
abbrev pub four_exchanges : List Act
four_exchanges = around (exchange 0 5 None (object 2 1) (call 1 2))

-- it takes what isn't there any more, by the call that put what is
abbrev pub other_taken : List Act
other_taken = around (exchange 0 5 None (object 3 1) (call 1 2))

-- it takes what is there, by the call that put what was there before
abbrev pub other_named : List Act
other_named = around (exchange 0 5 None (object 2 1) (call 0 4))

-- From empty slots these acts, in order, leave the slot of a name so.
pub record Leave (acts : List Act) (name : List ℕ) (slot : Slot) : Type 0 where
  pub now : Contents
  pub lead : SlotsLead acts all_empty now
  pub left : now name ≡ slot

-- from empty slots they lead nowhere
abbrev pub LeadNowhere : List Act → Type 0
LeadNowhere acts = (now : Contents) → SlotsLead acts all_empty now → ⊥

-- what the last of the four leaves
abbrev pub emptied : Slot
emptied = record { held = None; by = call 0 8 }

-- a slot that none of them names
abbrev pub other_slot : List ℕ
other_slot = codes "t"
