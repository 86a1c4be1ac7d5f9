-- An order that a stretch of one processor's log makes longer: the parts of the processors, and the lists that they leave.
use Rattle.std.proofs.Common.{◌≡◌, ◌≢◌, ℕ, [], ◌∷◌, ◌++◌, refl, sym, ◌∙◌, ap, inl, inr, append-nil, append_assoc, eq-eqb, ne_eqb}
use Rattle.std.proofs.lemmas.Bool.Decides.{eqb_tells}
use Rattle.bm_law.specs.Lists.{Log, after, next as lists_after}
use Rattle.bm_law.specs.State.{State}
use Rattle.bm_law_order.specs.Orders.{Event, Order, by, part_of}
use Rattle.bm_law_order.specs.Polls.{for_processor}
use Rattle.bm_law_order.proofs.Along.{by-append}
use Rattle.bm_law_places.proofs.Apart.{others-part}

-- ---- parts

part-append : (p : ℕ) (a b : Order) → part_of p (a ++ b) ≡ part_of p a ++ part_of p b
part-append p [] b = refl
part-append p (e ∷ a) b = elim (eqb_tells e.processor p) [
  | inl y ↦ rw y.0 (ap (λ (z : Log). (e.level, e.entry) ∷ z) (part-append p a b))
  | inr y ↦ rw y.0 (part-append p a b)
]

pub own-log : (p : ℕ) (log : Log) → part_of p (by p log) ≡ log
own-log p [] = refl
own-log p (e ∷ log) = rw (eq-eqb p p refl) (ap (λ (x : Log). e ∷ x) (own-log p log))

-- the part of the processor whose log it is goes on
pub part-added : (p : ℕ) (o : Order) (added : Log) → part_of p (o ++ by p added) ≡ part_of p o ++ added
part-added p o added = part-append p o (by p added) ∙ ap (λ (z : Log). part_of p o ++ z) (own-log p added)

-- .. and that of another one is what it was
pub part-kept : (p q : ℕ) (o : Order) (added : Log) → q ≢ p → part_of q (o ++ by p added) ≡ part_of q o
part-kept p q o added ne =
    part-append q o (by p added) ∙ (ap (λ (z : Log). part_of q o ++ z) (others-part p q added ne) ∙ append-nil (part_of q o))

-- ---- one stretch after the other

pub order-apart : (p : ℕ) (o : Order) (one two : Log) → o ++ by p (one ++ two) ≡ (o ++ by p one) ++ by p two
order-apart p o one two = ap (λ (z : Order). o ++ z) (by-append p one two) ∙ sym (append_assoc o (by p one) (by p two))

-- ---- lists

-- the lists of one processor, after an entry of one
pub lists-step : (q : ℕ) (e : Event) (o : Order) (lists : ℕ → State ℕ) → after (for_processor e.processor (lists_after (lists e.processor) (e.level, e.entry)) lists q) (part_of q o) ≡ after (lists q) (part_of q (e ∷ o))
lists-step q e o lists = elim (eqb_tells q e.processor) [
  | inl y ↦ rw (y.0, eq-eqb e.processor q (sym y.1)) (ap (λ (r : ℕ). after (lists_after (lists r) (e.level, e.entry)) (part_of q o)) (sym y.1))
  | inr y ↦ rw (y.0, ne_eqb e.processor q (λ z. y.1 (sym z))) refl
]
