-- Where sweeps take what waits, and no parcel waits after an order, each unit that its logs send to a processor arrives there.
use Rattle.std.specs.Prelude.{◌≢◌, eqb, if◌then◌else◌}
use Rattle.std.specs.List.{concat}
use Rattle.std.proofs.Common.{◌≡◌, ◌<◌, ◌+◌, ℕ, suc, true, false, List, [], ◌∷◌, ◌++◌, length, get_or, refl, sym, ◌∙◌, ap, subst, arith, inl, inr, eq-eqb, ne_eqb}
use Rattle.std.proofs.lemmas.Bool.Decides.{eqb_tells}
use Rattle.bm_journal.specs.EntryText.{unit_list}
use Rattle.bm_journal.specs.declared.entry.Entry.{Entry}
use Rattle.bm_journal.specs.declared.entry.Entry.TheVariants as entry
use Rattle.bm_law.specs.Lists.{Log, brought, next}
use Rattle.bm_law.specs.State.{State, opening}
use Rattle.bm_law_lives.specs.Returns.{ParcelsArrive, in_class, sent_to, unpacked, unpacked_by}
use Rattle.bm_law_lives.specs.Together.{EachLog, LogsFrom, beside, named, named_in, times}
use Rattle.bm_law_order.specs.Orders.{AllFit, IsLaid, Order, part_of, shared_over}
use Rattle.bm_law_order.specs.Parcels.{Boxes}
use Rattle.bm_law_order.specs.Shared.{fresh}
use Rattle.bm_law_laid.specs.Once.{named_by}
use Rattle.bm_law_laid.specs.OrderOf.{IsOrderOf}
use Rattle.bm_law_laid.specs.ParcelsSent.{times_sent, times_sent_over, times_taken, times_taken_over}
use Rattle.bm_law_laid.proofs.NamedParts.{named-parts}
use Rattle.bm_law_laid.proofs.Onces.{beside-append, times-append}
use Rattle.bm_law_laid.proofs.ParcelsBalance.{shared-parcels}
use Rattle.bm_law_places.specs.World.{SweepsInbox, World, outset, world_after}

-- ---- units of a class

of-class : (c k : ℕ) (us : List ℕ) → eqb c k ≡ true → beside c (in_class k us) ≡ us
of-class c k [] e = refl
of-class c k (u ∷ us) e = rw e (ap (λ (z : List ℕ). u ∷ z) (of-class c k us e))

of-other : (c k : ℕ) (us : List ℕ) → eqb c k ≡ false → beside c (in_class k us) ≡ []
of-other c k [] e = refl
of-other c k (u ∷ us) e = rw e (of-other c k us e)

class-times : (u c k : ℕ) (us : List ℕ) → times u (beside c (in_class k us)) ≡ (if eqb c k then times u us else 0)
class-times u c k us = elim (eqb_tells c k) [
  | inl y ↦ ap (times u) (of-class c k us y.0) ∙ rw y.0 refl
  | inr y ↦ ap (times u) (of-other c k us y.0) ∙ rw y.0 refl
]

-- ---- what is sent

sent-names : (u p c : ℕ) (e : Entry) → times u (beside c (sent_to p e)) ≡ times_sent u p c e
sent-names u p c (entry.Send k to us) = elim (eqb_tells to p) [
  | inl y ↦ rw (y.0, eq-eqb p to (sym y.1)) (class-times u c k (unit_list us))
  | inr y ↦ rw (y.0, ne_eqb p to (λ q. y.1 (sym q))) refl
]
sent-names u p c _ = refl

sent-over : (u p c : ℕ) (o : Order) → times u (named_by (λ e. beside c (sent_to p e)) o) ≡ times_sent_over u p c o
sent-over u p c [] = refl
sent-over u p c (e ∷ o) =
    let apart = times-append u (beside c (sent_to p e.entry)) (named_by (λ e. beside c (sent_to p e)) o) in
    let one = sent-names u p c e.entry in
    let more = sent-over u p c o in
    omega (arith, apart, one, more)

sent-log : (p c : ℕ) (log : Log) → beside c (named_in (sent_to p) log) ≡ named_in (λ e. beside c (sent_to p e)) log
sent-log p c [] = refl
sent-log p c (e ∷ log) = beside-append c (sent_to p e.1) (named_in (sent_to p) log) ∙ ap (λ (z : List ℕ). beside c (sent_to p e.1) ++ z) (sent-log p c log)

sent-logs : (p c : ℕ) (logs : List Log) → beside c (named (sent_to p) logs) ≡ named (λ e. beside c (sent_to p e)) logs
sent-logs p c [] = refl
sent-logs p c (log ∷ logs) =
    beside-append c (named_in (sent_to p) log) (named (sent_to p) logs)
    ∙ (ap (λ (z : List ℕ). z ++ beside c (named (sent_to p) logs)) (sent-log p c log)
    ∙ ap (λ (z : List ℕ). named_in (λ e. beside c (sent_to p e)) log ++ z) (sent-logs p c logs))

-- ---- what is taken out of an inbox

swept-times : (u p c k : ℕ) (us : List ℕ) (boxes : Boxes) → us ≡ concat (boxes p k) → times u (beside c (in_class k us)) ≡ (if eqb c k then times u (concat (boxes p c)) else 0)
swept-times u p c k us boxes f = elim (eqb_tells c k) [
  | inl y ↦ ap (times u) (of-class c k us y.0 ∙ (f ∙ ap (λ z. concat (boxes p z)) (sym y.1))) ∙ rw y.0 refl
  | inr y ↦ ap (times u) (of-other c k us y.0) ∙ rw y.0 refl
]

taken-own : (u p c l : ℕ) (e : Entry) (w : World) → SweepsInbox p l e w → times u (beside c (unpacked e (w.lists p))) ≡ times_taken u p c p e w.shared.boxes
taken-own u p c l (entry.Receive k us) w f = rw (eq-eqb p p refl) (class-times u c k (unit_list us))
taken-own u p c l (entry.Sweep k us) w f = rw (eq-eqb p p refl) (swept-times u p c k (brought (entry.Sweep k us) (w.lists p)) w.shared.boxes f)
taken-own u p c l _ w f = refl

taken-other : (u p c q : ℕ) (e : Entry) (boxes : Boxes) → p ≢ q → times_taken u p c q e boxes ≡ 0
taken-other u p c q (entry.Receive k us) boxes ne = rw (ne_eqb p q ne) refl
taken-other u p c q (entry.Sweep k us) boxes ne = rw (ne_eqb p q ne) refl
taken-other u p c q _ boxes ne = refl

taken-over : (u p c : ℕ) (o : Order) (w : World) → AllFit world_after SweepsInbox o w → times_taken_over u p c o w.shared.boxes ≡ times u (beside c (unpacked_by (w.lists p) (part_of p o)))
taken-over u p c [] w f = refl
taken-over u p c (e ∷ o) w f =
    let now : World = world_after e.processor e.level e.entry w in
    let rest = taken-over u p c o now f.1 in
    let T : State ℕ → ℕ = λ s. times u (beside c (unpacked_by s (part_of p o))) in
    elim (eqb_tells e.processor p) [
      | inl y ↦
          let lists : now.lists p ≡ next (w.lists p) (e.level, e.entry) = rw (eq-eqb p e.processor (sym y.1)) refl in
          let more = rest ∙ ap T lists in
          let one = ap (λ q. times_taken u p c q e.entry w.shared.boxes) y.1 ∙ sym (taken-own u p c e.level e.entry w (subst (λ q. SweepsInbox q e.level e.entry w) y.1 f.0)) in
          let first = unpacked e.entry (w.lists p) in
          let after = unpacked_by (next (w.lists p) (e.level, e.entry)) (part_of p o) in
          let apart = ap (times u) (beside-append c first after) ∙ times-append u (beside c first) (beside c after) in
          rw y.0 (omega (arith, one, more, apart))
      | inr y ↦
          let lists : now.lists p ≡ w.lists p = rw (ne_eqb p e.processor (λ q. y.1 (sym q))) refl in
          let more = rest ∙ ap T lists in
          let none = taken-other u p c e.processor e.entry w.shared.boxes (λ q. y.1 (sym q)) in
          rw y.0 (omega (arith, none, more))
    ]

-- ---- logs

each-log : (P : ℕ → Log → Type 0) (q : ℕ) (logs : List Log) → ((i p : ℕ) → i < length logs → p ≡ q + i → P p (get_or logs i [])) → LogsFrom q P logs
each-log P q [] h = tt
each-log P q (log ∷ logs) h = (h 0 q (omega arith) (omega arith), each-log P (q + 1) logs (λ i p lt e. h (suc i) p (omega (arith, lt)) (omega (arith, e))))

pub parcels-arrive : (n pages : ℕ) (logs : List Log) (o : Order) → IsOrderOf logs o → IsLaid n pages o → AllFit world_after SweepsInbox o (outset n pages) → ((p c : ℕ) → (shared_over o (fresh n pages)).boxes p c ≡ []) → EachLog (ParcelsArrive logs) logs
parcels-arrive n pages logs o is laid sweeps none = each-log (ParcelsArrive logs) 0 logs (λ i p lt e c u. subst (λ k. times u (beside c (named (sent_to k) logs)) ≡ times u (beside c (unpacked_by (opening k) (get_or logs i [])))) (let z : i ≡ p = omega (arith, e) in z) (one i c u lt))
  where
    one : (p c u : ℕ) → p < length logs → times u (beside c (named (sent_to p) logs)) ≡ times u (beside c (unpacked_by (opening p) (get_or logs p [])))
    one p c u lt =
        let sent = ap (times u) (sent-logs p c logs) ∙ (named-parts (λ e. beside c (sent_to p e)) logs o is u ∙ sent-over u p c o) in
        let taken = taken-over u p c o (outset n pages) sweeps ∙ ap (λ z. times u (beside c (unpacked_by (opening p) z))) (is.parts p lt) in
        let left = ap (λ z. times u (concat z)) (none p c) in
        let balance = shared-parcels u p c o (fresh n pages) laid in
        omega (arith, sent, taken, left, balance)
