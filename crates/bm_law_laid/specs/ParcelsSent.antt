-- What an order sends to a processor, and takes out of its inbox, of one unit and class. (Parcels are this project's own.)
use Rattle.std.specs.Prelude.{ℕ, ◌+◌, ◌&&◌, eqb, if◌then◌else◌, [], ◌∷◌}
use Rattle.std.specs.List.{concat}
use Rattle.bm_journal.specs.EntryText.{unit_list}
use Rattle.bm_journal.specs.declared.entry.Entry.{Entry}
use Rattle.bm_journal.specs.declared.entry.Entry.TheVariants as entry
use Rattle.bm_law_lives.specs.Together.{times}
use Rattle.bm_law_order.specs.Parcels.{Boxes, boxes_after}
use Rattle.bm_law_order.specs.Orders.{Order}

-- how often unit u waits in the inbox of processor p and class c
abbrev pub times_waiting : (u p c : ℕ) → Boxes → ℕ
times_waiting u p c boxes = times u (concat (boxes p c))

-- how often an entry sends it there
abbrev pub times_sent : (u p c : ℕ) → Entry → ℕ
times_sent u p c (entry.Send k to us) = if eqb p to && eqb c k then times u (unit_list us) else 0
times_sent u p c _ = 0

-- how often an entry of processor q takes it from there: a receive what it names, and a sweep what waits
abbrev pub times_taken : (u p c q : ℕ) → Entry → Boxes → ℕ
times_taken u p c q (entry.Receive k us) boxes =
    if eqb p q && eqb c k then times u (unit_list us) else 0
times_taken u p c q (entry.Sweep k us) boxes =
    if eqb p q && eqb c k then times_waiting u p c boxes else 0
times_taken u p c q _ boxes = 0

-- the same of an order
abbrev pub times_sent_over : (u p c : ℕ) → Order → ℕ
times_sent_over u p c [] = 0
times_sent_over u p c (e ∷ o) = times_sent u p c e.entry + times_sent_over u p c o

abbrev pub times_taken_over : (u p c : ℕ) → Order → Boxes → ℕ
times_taken_over u p c [] boxes = 0
times_taken_over u p c (e ∷ o) boxes =
    times_taken u p c e.processor e.entry boxes
    + times_taken_over u p c o (boxes_after e.processor e.level e.entry boxes)
