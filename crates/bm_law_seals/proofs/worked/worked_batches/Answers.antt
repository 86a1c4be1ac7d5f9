use Rattle.std.specs.Prelude.{◌≡◌, ℕ, zero, suc, [], ◌∷◌}
use Rattle.std.proofs.Common.{refl, arith, inl, inr, lit<, ne_eqb, subst, sym}
use Rattle.bm_law.specs.Alone.{AllAt}
use Rattle.bm_law.specs.Lists.{Log}
use Rattle.bm_law_laid.specs.OrderOf.{AllBelow}
use Rattle.bm_law_lives.specs.Worked.{both_stages}
use Rattle.bm_law.specs.Spans.{own_entries}
use Rattle.bm_law_order.specs.Orders.{AllFit, part_of}
use Rattle.bm_law_order.specs.Seals.{nobody_waits, waiting_after}
use Rattle.bm_law_order.specs.Whole.{whole}
use Rattle.bm_law_places.proofs.Logs.{below-none}
use Rattle.bm_law_seals.specs.Answered.{AreAnswered, ArePut}
use Rattle.bm_law_seals.specs.Batches.{BatchFits}
use Rattle.bm_law_seals.proofs.worked.worked_batches.Goals as goal

pub returns-clause-interrupted : goal.returns-clause-interrupted
returns-clause-interrupted c = λ h. (let x = (h.answered 0).0.0 in absurd (omega (arith, x)))

pub returns-clause-pushed : goal.returns-clause-pushed
returns-clause-pushed c = λ h. absurd (h.put 0 0).0

pub returns-clause-stamped : goal.returns-clause-stamped
returns-clause-stamped c = λ h. (let x = h.batches.1.1.1.0 in absurd (omega (arith, x)))

pub returns-clause-swept : goal.returns-clause-swept
returns-clause-swept c = λ h. absurd h.swept.0.0

-- ---- the journal that is so

below : AllBelow 1 (whole [] both_stages)
below = (lit< tt, (lit< tt, (lit< tt, (lit< tt, (lit< tt, (lit< tt, (lit< tt, (lit< tt, (lit< tt, (lit< tt, (lit< tt, (lit< tt, (lit< tt, (lit< tt, (lit< tt, (lit< tt, (lit< tt, (lit< tt, (lit< tt, (lit< tt, (lit< tt, (lit< tt, (lit< tt, (lit< tt, (lit< tt, (lit< tt, (lit< tt, (lit< tt, (lit< tt, (lit< tt, (lit< tt, (lit< tt, (lit< tt, (lit< tt, (lit< tt, (lit< tt, (lit< tt, (lit< tt, (lit< tt, (lit< tt, (lit< tt, (lit< tt, (lit< tt, (lit< tt, (lit< tt, (lit< tt, (lit< tt, (lit< tt, (lit< tt, (lit< tt, (lit< tt, (lit< tt, (lit< tt, (lit< tt, (lit< tt, (lit< tt, (lit< tt, (lit< tt, (lit< tt, tt)))))))))))))))))))))))))))))))))))))))))))))))))))))))))))

rest-none : (p : ℕ) → part_of (suc p) (whole [] both_stages) ≡ []
rest-none p = below-none 1 (suc p) (whole [] both_stages) below (omega arith)

answered : (p : ℕ) → AreAnswered (part_of p (whole [] both_stages))
answered zero = (tt, (tt, (tt, (tt, (tt, (tt, (tt, (tt, ((refl, tt), ((refl, tt), (tt, (tt, (tt, (tt, (tt, (tt, (tt, (tt, (tt, (tt, (tt, (tt, (tt, (tt, (tt, (tt, (tt, (tt, (tt, (tt, (tt, (tt, (tt, (tt, (tt, (tt, (tt, (tt, (tt, (tt, (tt, (tt, (tt, ((refl, tt), ((refl, tt), (tt, (tt, (tt, (tt, (tt, (tt, (tt, (tt, (tt, (tt, (tt, (tt, (tt, (tt, tt)))))))))))))))))))))))))))))))))))))))))))))))))))))))))))
answered (suc p) = subst AreAnswered (sym (rest-none p)) tt

-- all entries are of ordinary code
low : AllAt 0 (part_of 0 (whole [] both_stages))
low = (refl, (refl, (refl, (refl, (refl, (refl, (refl, (refl, (refl, (refl, (refl, (refl, (refl, (refl, (refl, (refl, (refl, (refl, (refl, (refl, (refl, (refl, (refl, (refl, (refl, (refl, (refl, (refl, (refl, (refl, (refl, (refl, (refl, (refl, (refl, (refl, (refl, (refl, (refl, (refl, (refl, (refl, (refl, (refl, (refl, (refl, (refl, (refl, (refl, (refl, (refl, (refl, (refl, (refl, (refl, (refl, (refl, (refl, (refl, tt)))))))))))))))))))))))))))))))))))))))))))))))))))))))))))

none-above : (l : ℕ) (log : Log) → AllAt 0 log → own_entries (suc l) log ≡ []
none-above l [] h = refl
none-above l (e ∷ log) h = rw (ne_eqb e.0 (suc l) (λ s. let z = h.0 in omega (arith, s, z))) (none-above l log h.1)

put : (p l : ℕ) → ArePut (own_entries l (part_of p (whole [] both_stages)))
put zero zero = (tt, (tt, (tt, (tt, (tt, (tt, (tt, (tt, (tt, (tt, (refl, (tt, (tt, (tt, (tt, (tt, (tt, (tt, (tt, (tt, (tt, (tt, (tt, (tt, (tt, (tt, (tt, (tt, (tt, (tt, (tt, (tt, (tt, (tt, (tt, (tt, (tt, (tt, (tt, (tt, (tt, (tt, (tt, (tt, (tt, (tt, (tt, (tt, (tt, (tt, (tt, (tt, (tt, (tt, (tt, (tt, (tt, (tt, (tt, tt)))))))))))))))))))))))))))))))))))))))))))))))))))))))))))
put zero (suc l) = subst ArePut (sym (none-above l (part_of 0 (whole [] both_stages)) low)) tt
put (suc p) l = subst (λ log. ArePut (own_entries l log)) (sym (rest-none p)) tt

batches : AllFit waiting_after BatchFits (whole [] both_stages) nobody_waits
batches = (tt, (tt, (tt, (tt, (tt, (tt, (tt, (tt, (tt, (tt, (tt, (tt, (tt, (tt, (tt, (tt, (tt, (tt, (tt, (refl, (tt, (tt, (tt, (inl (record { hand = refl; stamp = 2; stamped = refl; taken = lit< tt; seen = 2; passed = refl }), (tt, (tt, (refl, (tt, (tt, (tt, (tt, (tt, (tt, (tt, (tt, (tt, (tt, (tt, (tt, (tt, (tt, (tt, (tt, (tt, (tt, (tt, (tt, (tt, (tt, (tt, (tt, (tt, (tt, (tt, (refl, (tt, (tt, (tt, (tt, tt)))))))))))))))))))))))))))))))))))))))))))))))))))))))))))

pub returns-clause-both_stages : goal.returns-clause-both_stages
returns-clause-both_stages c = record {
  answered = answered;
  put = put;
  batches = batches;
  swept = (tt, (tt, (tt, (tt, (tt, (tt, (tt, (tt, (tt, (tt, (tt, (tt, (tt, (tt, (tt, (tt, (tt, (tt, (tt, (tt, (tt, (tt, (tt, (tt, (tt, (tt, (tt, (tt, (tt, (tt, (tt, (tt, (tt, (tt, (tt, (tt, (tt, (tt, (tt, (tt, (tt, (tt, (tt, (tt, (tt, (tt, (tt, (tt, (tt, (tt, (tt, (tt, (tt, ((tt, (tt, (tt, (tt, (tt, tt))))), (tt, (tt, (tt, (tt, (tt, tt)))))))))))))))))))))))))))))))))))))))))))))))))))))))))));
}

pub returns-clause-unpassed : goal.returns-clause-unpassed
returns-clause-unpassed c = λ h. elim h.batches.1.1.1.1.0 [
  | inl b ↦ (let p = b.passed in absurd (cc))
  | inr n ↦ n 0 0 (lit< tt) refl
]
