-- What entries of logs have, those of their order have.
use Rattle.std.specs.Prelude.{get_or, length}
use Rattle.std.proofs.Common.{◌≡◌, ◌≢◌, ◌<◌, ◌≤◌, ℕ, zero, suc, List, [], ◌∷◌, arith, refl, sym, ◌∙◌, eq-eqb, inl, inr}
use Rattle.std.proofs.lemmas.Bool.{cases_lt}
use Rattle.std.proofs.lemmas.Bool.Decides.{eqb_tells}
use Rattle.bm_journal.specs.declared.entry.Entry.{Entry}
use Rattle.bm_law.specs.Lists.{Log}
use Rattle.bm_law.specs.Spans.{own_entries}
use Rattle.bm_law_laid.specs.OrderOf.{AllBelow, IsOrderOf}
use Rattle.bm_law_order.specs.Orders.{Order, part_of}
use Rattle.bm_law_scenario.proofs.EachLevel.{AllAbove}
use Rattle.bm_law_work.proofs.Each.{AllOf}

-- no entry is of a processor above those that there are
none-above : (n p : ℕ) (o : Order) → n ≤ p → AllBelow n o → part_of p o ≡ []
none-above n p [] le h = refl
none-above n p (e ∷ o) le h = elim (eqb_tells e.processor p) [
  | inl y ↦ absurd (let lt = h.0 in let same = y.1 in omega (arith, lt, le, same))
  | inr y ↦ rw y.0 (none-above n p o le h.1)
]

pub no-log : (p : ℕ) (logs : List Log) → length logs ≤ p → get_or logs p [] ≡ []
no-log p [] le = refl
no-log zero (log ∷ logs) le = absurd (omega (arith, le))
no-log (suc p) (log ∷ logs) le = no-log p logs (omega (arith, le))

pub part-any : (logs : List Log) (o : Order) → IsOrderOf logs o → (p : ℕ) → part_of p o ≡ get_or logs p []
part-any logs o h p = elim (cases_lt p (length logs)) [
  | inl lt ↦ h.parts p lt
  | inr le ↦ none-above (length logs) p o le h.below ∙ sym (no-log p logs le)
]

-- ---- entries of logs and of their order

abbrev pub AllHave : (Entry → Type 0) → Log → Type 0
AllHave I [] = Unit {0}
AllHave I (e ∷ log) = I e.1 × AllHave I log

zero-or : (l : ℕ) → l ≢ 0 → 0 < l
zero-or zero h = absurd (h refl)
zero-or (suc l) h = omega arith

-- what ordinary code has and what stands above it
pub have-all : (I : Entry → Type 0) (log : Log) → AllOf I (own_entries 0 log) → AllAbove I log → AllHave I log
have-all I [] own above = tt
have-all I (e ∷ es) own above = elim (eqb_tells e.0 0) [
  | inl y ↦ (let h : I e.1 × AllOf I (own_entries 0 es) = rw y.0 at own in (h.0, have-all I es h.1 above.1))
  | inr y ↦ (above.0 (zero-or e.0 y.1), have-all I es (rw y.0 at own) above.1)
]

abbrev pub OrderHas : (Entry → Type 0) → Order → Type 0
OrderHas I [] = Unit {0}
OrderHas I (e ∷ o) = I e.entry × OrderHas I o

pub order-has : (I : Entry → Type 0) (o : Order) → ((p : ℕ) → AllHave I (part_of p o)) → OrderHas I o
order-has I [] h = tt
order-has I (e ∷ o) h = (first (h e.processor), order-has I o (λ p. rest p (h p)))
  where
    first : AllHave I (part_of e.processor (e ∷ o)) → I e.entry
    first k = (let own : I e.entry × AllHave I (part_of e.processor o) = rw (eq-eqb e.processor e.processor refl) at k in own.0)

    rest : (p : ℕ) → AllHave I (part_of p (e ∷ o)) → AllHave I (part_of p o)
    rest p k = elim (eqb_tells e.processor p) [
      | inl y ↦ (let own : I e.entry × AllHave I (part_of p o) = rw y.0 at k in own.1)
      | inr y ↦ rw y.0 at k
    ]
