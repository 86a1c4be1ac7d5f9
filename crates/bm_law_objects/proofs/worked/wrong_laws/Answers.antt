use Rattle.std.proofs.Common.{ℕ, Option, Some, None, arith, refl, ap, inl, inr}
use Rattle.bm_journal.specs.declared.ids.ObjId.{ObjId}
use Rattle.bm_journal.specs.declared.ids.Tag.{Tag}
use Rattle.bm_law_objects.specs.Worked.{logs_of, object, one_slot}
use Rattle.bm_law_objects.specs.Wrong.{lost_exchange, other_object, two_first, unknown_tag}
use Rattle.bm_law_objects.proofs.Naming.{named-made-once, start-named, took-put}
use Rattle.bm_law_objects.proofs.worked.wrong_laws.Goals as goal

abbrev tag : (p serial : ℕ) → Tag
tag p serial = record { processor = p; serial = serial }

pub returns-clause-two_first : goal.returns-clause-two_first
returns-clause-two_first c h = let twice = start-named one_slot (logs_of two_first) h (omega arith) in omega (arith, twice)

pub returns-clause-lost : goal.returns-clause-lost
returns-clause-lost c h = let twice = named-made-once one_slot (logs_of lost_exchange) h (tag 1 2) in omega (arith, twice)

pub returns-clause-unknown : goal.returns-clause-unknown
returns-clause-unknown c h = let none = named-made-once one_slot (logs_of unknown_tag) h (tag 0 9) in omega (arith, none)

unit_of : Option ObjId → ℕ
unit_of None = 0
unit_of (Some x) = x.unit

pub returns-clause-object : goal.returns-clause-object
unfolding unit_of
returns-clause-object c h = elim (took-put one_slot (logs_of other_object) h (tag 1 2) (object 3 1) (inr (inl (refl, refl)))) [
  | inl a ↦ (let wrong = ap (λ (t : Tag). t.processor) a.0 in omega (arith, wrong))
  | inr (inl a) ↦ (let wrong = ap (λ (t : Tag). t.processor) a.0 in omega (arith, wrong))
  | inr (inr (inl a)) ↦ (let wrong = ap (λ (t : Tag). t.processor) a.0 in omega (arith, wrong))
  | inr (inr (inr (inl a))) ↦ (let wrong = ap unit_of a.1 in omega (arith, wrong))
  | inr (inr (inr (inr a))) ↦ a
]

pub returns-clause-count : goal.returns-clause-count
returns-clause-count c h = let once = h 3 1 2 in omega (arith, once)

pub returns-clause-still : goal.returns-clause-still
returns-clause-still c h = let twice = h 3 1 1 in omega (arith, twice)
