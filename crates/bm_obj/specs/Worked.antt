-- Worked examples: sizes of types, and one object over its calls.
use Rattle.std.specs.Prelude.{List, true, false, [], ◌∷◌, None, Some}
use Rattle.bm_journal.specs.declared.ids.ObjId.{ObjId}
use Rattle.bm_journal.specs.declared.ids.Tag.{Tag}
use Rattle.bm_journal.specs.declared.past.PastCall.TheVariants.{PopFront, PushBack}
use Rattle.bm_page.specs.UnitState.{UnitState}
use Rattle.bm_obj.specs.Notes.{Carried, Entered}
use Rattle.bm_obj.specs.Reference.{Reference, id_of}
use Rattle.bm_obj.specs.WorldState.{World, acquired, claimed, exchanged, made, opening_word}
use Rattle.bm_obj.specs.declared.object.UnitPlace.TheVariants.{Free}
use Rattle.bm_obj.specs.declared.type_def.TypeDef.{TypeDef}
use Rattle.bm_obj.specs.declared.type_def.Node.{Node}
use Rattle.bm_obj.specs.declared.type_def.Node.TheVariants.{Bare, List as ListNode}

-- a type with two fields, and one with a count and a node
abbrev pub pair : TypeDef
pair = record { fields = 2; counted = false; node = Bare; pad = 0 }

abbrev pub shared : Node → TypeDef
shared node = record { fields = 1; counted = true; node = node; pad = 3 }

-- two units of one page, one slot and one graph of type 0, which has a count
abbrev pub opened : World
opened = record {
  places = Free 0 ∷ Free 4 ∷ [];
  words = opening_word ∷ [];
  slots = 0 ∷ [];
  graphs = 0 ∷ [];
  defs = shared ListNode ∷ [];
  processor = 0;
  acquires = 8;
  waits = None ∷ [];
  last = None;
}

-- unit 1, which has begun four lives, as an object with the value 7; and the references to it
abbrev pub unit_1 : UnitState
unit_1 = record { number = 1; class = 1; home = 0; life = 4; seal = None }

abbrev pub x : Reference
x = record { unit = 1; life = 5; def = 0; maker = 0 }

abbrev pub one_made : World
one_made = made unit_1 0 (7 ∷ []) opened

-- .. and then a reference more, which goes into the slot
abbrev pub tag_3 : Tag
tag_3 = record { processor = 0; serial = 3 }

abbrev pub one_put : World
one_put = exchanged 0 (Some x) tag_3 (acquired x one_made)

-- .. and, in place of that, is claimed for the graph
abbrev pub one_claimed : World
one_claimed = claimed x 0 one_made

abbrev pub x_claimed : Carried
x_claimed = record { to = x; claim = Some 0 }

-- a history in which x is pushed and another life of its unit is popped
abbrev pub other : ObjId
other = record { unit = 1; life = 4 }

abbrev pub x_stays : List Entered
x_stays =
    record { at = 0; past = record { tag = tag_3; call = PushBack other } }
    ∷ record { at = 1; past = record { tag = tag_3; call = PushBack (id_of x) } }
    ∷ record { at = 2; past = record { tag = tag_3; call = PopFront other } } ∷ []
