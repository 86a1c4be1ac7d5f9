-- Worked orders with objects and slots, made by hand: of the entries of processors only those that objects and slots need stand here.
use Rattle.std.specs.Prelude.{ℕ, Option, Some, None, List, [], ◌∷◌, ◌++◌, codes}
use Rattle.bm_journal.specs.declared.ids.ObjId.{ObjId}
use Rattle.bm_journal.specs.declared.ids.Tag.{Tag}
use Rattle.bm_journal.specs.declared.entry.Entry.{Entry}
use Rattle.bm_journal.specs.declared.entry.Entry.TheVariants as entry
use Rattle.bm_law.specs.Lists.{Log}
use Rattle.bm_law_order.specs.Orders.{Order, by, part_of}
use Rattle.bm_law_order.specs.Story.{at_level}

-- entries of level l of processor p
abbrev pub entries : (p l : ℕ) → List Entry → Order
entries p l es = by p (at_level l es)

-- life `life` of unit u, and call `serial` of processor p
abbrev pub object : (u life : ℕ) → Option ObjId
object u life = Some (record { unit = u; life = life })

abbrev pub call : (p serial : ℕ) → Option Tag
call p serial = Some (record { processor = p; serial = serial })

abbrev pub exchanged : List ℕ → (put was : Option ObjId) → (by : Option Tag) → Entry
exchanged slot put was by = entry.Xchg slot put was by

abbrev pub job : List ℕ
job = codes "job"

abbrev pub one_slot : List ℕ
one_slot = codes "s"

-- ---- two processors, a handler, and four exchanges of one slot

-- What of it the wrong orders change: the count that the acquire sees, the field that is read, and the second, third and last exchange.
pub record Says : Type 0 where
  pub acquire : Entry
  pub get : Entry
  pub second : Entry
  pub third : Entry
  pub last : Entry

-- Processor 0 makes an object of unit 3, reads it, and puts one of its two references into the slot.
abbrev pub puts : Says → Order
puts says =
    entries 0 0
    (entry.New job (9 ∷ 4 ∷ []) ∷ entry.Given 3 1 ∷ says.acquire ∷ says.get
    ∷ exchanged one_slot (object 3 1) None None ∷ [])

-- Processor 1 makes one of unit 2, puts it there for the other, and drops what it took.
abbrev pub takes : Says → Order
takes says =
    entries 1 0
    (entry.New job (5 ∷ 6 ∷ []) ∷ entry.Given 2 1 ∷ says.second ∷ entry.Drop 3 1 ∷ entry.Still 2
    ∷ [])

-- A handler on processor 0 empties the slot, reads the other field of what it took, and drops it.
abbrev pub empties : Says → Order
empties says =
    entries 0 1
    (says.third ∷ entry.Get 2 1 1 6 ∷ entry.Drop 2 1 ∷ entry.Last ∷ entry.Delay 2 1 ∷ [])

-- Processor 0 finds the slot empty, and drops its last reference.
abbrev pub finds_none : Says → Order
finds_none says = entries 0 0 (says.last ∷ entry.Drop 3 1 ∷ entry.Last ∷ entry.Delay 3 0 ∷ [])

abbrev pub handed_on : Says → Order
handed_on says = puts says ++ (takes says ++ (empties says ++ finds_none says))

abbrev pub right : Says
right = record {
  acquire = entry.Acquire 3 1 1;
  get = entry.Get 3 1 0 9;
  second = exchanged one_slot (object 2 1) (object 3 1) (call 0 4);
  third = exchanged one_slot None (object 2 1) (call 1 2);
  last = exchanged one_slot None None (call 0 5);
}

abbrev pub right_order : Order
right_order = handed_on right

-- the logs of both processors
abbrev pub logs_of : Order → List Log
logs_of o = part_of 0 o ∷ part_of 1 o ∷ []

-- ---- five exchanges of one slot

-- A script takes what the slot holds twice, which is nothing; it puts an object there, and another one for the first, which it drops. In
-- the closing the slot is emptied.
abbrev pub five_exchanges : Order
five_exchanges =
    entries 0 0 (exchanged one_slot None None None ∷ exchanged one_slot None None (call 0 1)
    ∷ entry.New job (1 ∷ []) ∷ entry.Given 3 1 ∷ exchanged one_slot (object 3 1) None (call 0 2)
    ∷ entry.New job (2 ∷ []) ∷ entry.Given 2 1
    ∷ exchanged one_slot (object 2 1) (object 3 1) (call 0 4)
    ∷ entry.Drop 3 1 ∷ entry.Last ∷ entry.Free 3 0
    ∷ exchanged one_slot None (object 2 1) (call 0 6) ∷ entry.Drop 2 1 ∷ entry.Last ∷ entry.Free 2 0
    ∷ [])

-- ---- two slots, and handlers of two levels

abbrev pub s1 : List ℕ
s1 = codes "s1"

abbrev pub s2 : List ℕ
s2 = codes "s2"

-- A script puts an object into each slot, and asks for a third. Before it is given a handler empties the first slot and drops what it took,
-- and a handler of the next level so the second slot. In the closing both slots are empty.
abbrev pub two_slots : Order
two_slots =
    entries 0 0 (entry.New job (1 ∷ []) ∷ entry.Given 3 1 ∷ exchanged s1 (object 3 1) None None
    ∷ entry.New job (2 ∷ []) ∷ entry.Given 2 1 ∷ exchanged s2 (object 2 1) None None
    ∷ entry.New job (3 ∷ []) ∷ [])
    ++ (entries 0 1
    (exchanged s1 None (object 3 1) (call 0 2) ∷ entry.Drop 3 1 ∷ entry.Last ∷ entry.Free 3 0
    ∷ [])
    ++ (entries 0 2
    (exchanged s2 None (object 2 1) (call 0 4) ∷ entry.Drop 2 1 ∷ entry.Last ∷ entry.Free 2 0
    ∷ [])
    ++ entries 0 0 (entry.Given 1 1 ∷ entry.Drop 1 1 ∷ entry.Last ∷ entry.Free 1 0
    ∷ exchanged s1 None None (call 0 6) ∷ exchanged s2 None None (call 0 8) ∷ [])))

-- ---- a call within a call

-- A script asks for an object. Before it is given a handler asks for one of its own, reads and drops it. Then the script reads this value
-- of its object.
abbrev pub asked_within : (value : ℕ) → Order
asked_within value =
    entries 0 0 (entry.New job (1 ∷ []) ∷ [])
    ++ (entries 0 1
    (entry.New job (2 ∷ []) ∷ entry.Given 3 1 ∷ entry.Get 3 1 0 2 ∷ entry.Drop 3 1 ∷ entry.Last
    ∷ entry.Free 3 0 ∷ [])
    ++ entries 0 0 (entry.Given 2 1 ∷ entry.Get 2 1 0 value ∷ []))
