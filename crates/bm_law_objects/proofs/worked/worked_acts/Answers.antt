use Rattle.std.proofs.Common.{Option, None, refl}
use Rattle.bm_journal.specs.declared.ids.ObjId.{ObjId}
use Rattle.bm_journal.specs.declared.ids.Tag.{Tag}
use Rattle.bm_law_order.specs.Slots.{Contents, SlotsLead, with_slot}
use Rattle.bm_law_objects.specs.Worked.{call, object, one_slot}
use Rattle.bm_law_objects.specs.WorkedActs.{all_empty, four_exchanges}
use Rattle.bm_law_objects.proofs.worked.worked_acts.Goals as goal

-- what the slots hold after each of the four
abbrev holding : Option ObjId → Option Tag → Contents → Contents
holding put tag before = with_slot one_slot (record { held = put; by = tag }) before

abbrev one : Contents
one = holding (object 3 1) (call 0 4) all_empty

abbrev two : Contents
two = holding (object 2 1) (call 1 2) one

abbrev three : Contents
three = holding None (call 0 5) two

abbrev four : Contents
four = holding None (call 0 8) three

four-lead : SlotsLead four_exchanges all_empty four
four-lead = (one, ((refl, refl, refl), (two, ((refl, refl, refl), (three, ((refl, refl, refl), (four, ((refl, refl, refl), refl))))))))

pub returns-clause-named : goal.returns-clause-named
returns-clause-named c = record { now = four; lead = four-lead; left = refl }

pub returns-clause-other : goal.returns-clause-other
returns-clause-other c = record { now = four; lead = four-lead; left = refl }
