use Rattle.std.proofs.Common.{◌≡◌, ◌∙◌, ℕ, Option, Some, None, ap, arith}
use Rattle.bm_journal.specs.declared.ids.ObjId.{ObjId}
use Rattle.bm_journal.specs.declared.ids.Tag.{Tag}
use Rattle.bm_law_order.specs.Slots.{Contents}
use Rattle.bm_law_objects.specs.Worked.{call, object, one_slot}
use Rattle.bm_law_objects.proofs.worked.wrong_acts.Goals as goal

abbrev unit_of : Option ObjId → ℕ
unit_of None = 0
unit_of (Some x) = x.unit

abbrev processor_of : Option Tag → ℕ
processor_of None = 0
processor_of (Some t) = t.processor

-- the third act finds what the second one left
pub returns-clause-object : goal.returns-clause-object
returns-clause-object c now lead =
    let second = lead.1.1 in
    let third = second.1.1 in
    let same : object 3 1 ≡ object 2 1 = third.1.0.0 ∙ ap (λ (w : Contents). (w one_slot).held) second.1.0.2 in
    let wrong = ap unit_of same in
    omega (arith, wrong)

pub returns-clause-call : goal.returns-clause-call
returns-clause-call c now lead =
    let second = lead.1.1 in
    let third = second.1.1 in
    let same : call 0 4 ≡ call 1 2 = third.1.0.1 ∙ ap (λ (w : Contents). (w one_slot).by) second.1.0.2 in
    let wrong = ap processor_of same in
    omega (arith, wrong)
