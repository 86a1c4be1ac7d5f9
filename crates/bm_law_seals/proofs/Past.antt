-- What stands in logs before the entries that an order has left.
use Rattle.std.specs.Prelude.{◌≡◌, ◌<◌, ℕ, List, [], ◌∷◌, ◌++◌, get_or, length}
use Rattle.std.proofs.Common.{◌∙◌, append_assoc, eq-eqb, inl, inr, refl, sym}
use Rattle.std.proofs.lemmas.Bool.Decides.{eqb_tells}
use Rattle.bm_law.specs.Lists.{Log}
use Rattle.bm_law_order.specs.Orders.{Event, Order, part_of}

pub own-part : (e : Event) (o : Order) → part_of e.processor (e ∷ o) ≡ (e.level, e.entry) ∷ part_of e.processor o
own-part e o = rw (eq-eqb e.processor e.processor refl) refl

-- each log ends with what the order has left of it
abbrev pub Past : List Log → Order → Type 0
Past logs o = (q : ℕ) → q < length logs → (front : Log) × (get_or logs q [] ≡ front ++ part_of q o)

pub past-on : (logs : List Log) (e : Event) (o : Order) → Past logs (e ∷ o) → Past logs o
past-on logs e o past q lt = elim (eqb_tells e.processor q) [
  | inl y ↦ (let h = past q lt in (h.0 ++ (e.level, e.entry) ∷ [], (rw y.0 at h.1) ∙ sym (append_assoc h.0 ((e.level, e.entry) ∷ []) (part_of q o))))
  | inr y ↦ (let h = past q lt in (h.0, rw y.0 at h.1))
]
