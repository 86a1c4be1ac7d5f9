-- What is sent to a processor is received there, or swept up, or waits: over an order.
use Rattle.std.proofs.Common.{◌≡◌, ℕ, ◌+◌, Bool, true, false, List, [], ◌∷◌, ◌++◌, refl, sym, ◌∙◌, ap, subst, arith, append-nil}
use Rattle.std.specs.Prelude.{eqb, if◌then◌else◌, ◌&&◌, drop}
use Rattle.std.specs.List.{concat}
use Rattle.std.proofs.lemmas.Bool.{and_parts, eqb-true}
use Rattle.std.proofs.lemmas.List.Folds.{concat-append}
use Rattle.bm_journal.specs.EntryText.{unit_list}
use Rattle.bm_journal.specs.declared.entry.Entry.{Entry}
use Rattle.bm_journal.specs.declared.entry.Entry.TheVariants as entry
use Rattle.bm_law.specs.Inboxes.{oldest}
use Rattle.bm_law_lives.specs.Together.{times}
use Rattle.bm_law_order.specs.Parcels.{Boxes, BoxesFit, boxes_after}
use Rattle.bm_law_order.specs.Shared.{Shared}
use Rattle.bm_law_order.specs.Orders.{AllFit, AllShared, Order, over, shared_over}
use Rattle.bm_law_laid.specs.ParcelsSent.{times_sent, times_sent_over, times_taken, times_taken_over, times_waiting}
use Rattle.bm_law_laid.proofs.Onces.{times-append}
use Rattle.bm_law_laid.proofs.Parts.{boxes-fit, boxes-over}

-- an entry moves so much in and so much out
abbrev Balanced : (u p c q l : ℕ) → Entry → Boxes → Type 0
Balanced u p c q l e boxes = times_sent u p c e + times_waiting u p c boxes ≡ times_taken u p c q e boxes + times_waiting u p c (boxes_after q l e boxes)

sends-one : (u : ℕ) (us : List ℕ) (box : List (List ℕ)) (here : Bool) → (if here then times u us else 0) + times u (concat box) ≡ 0 + times u (concat (if here then box ++ us ∷ [] else box))
sends-one u us box true =
    let a = ap (times u) (concat-append box (us ∷ []) ∙ ap (λ z. concat box ++ z) (append-nil us)) in
    let b = times-append u (concat box) us in
    omega (arith, a, b)
sends-one u us box false = refl

takes-oldest : (u : ℕ) (box : List (List ℕ)) → times u (concat box) ≡ times u (oldest box) + times u (concat (drop 1 box))
takes-oldest u [] = refl
takes-oldest u (x ∷ xs) = times-append u x (concat xs)

takes-one : (u : ℕ) (us : List ℕ) (box : List (List ℕ)) (here : Bool) → (here ≡ true → us ≡ oldest box) → 0 + times u (concat box) ≡ (if here then times u us else 0) + times u (concat (if here then drop 1 box else box))
takes-one u us box true h = let a = takes-oldest u box in let b = ap (times u) (h refl) in omega (arith, a, b)
takes-one u us box false h = refl

sweeps-one : (u : ℕ) (box : List (List ℕ)) (here : Bool) → 0 + times u (concat box) ≡ (if here then times u (concat box) else 0) + times u (concat (if here then [] else box))
sweeps-one u box true = omega arith
sweeps-one u box false = refl

same-box : (p c q k : ℕ) (boxes : Boxes) → eqb p q && eqb c k ≡ true → boxes q k ≡ boxes p c
same-box p c q k boxes h =
    let both = and_parts (eqb p q) (eqb c k) h in
    ap (λ x. boxes x k) (sym (eqb-true p q both.0)) ∙ ap (boxes p) (sym (eqb-true c k both.1))

balanced : (u p c n q l : ℕ) (e : Entry) (boxes : Boxes) → BoxesFit n q l e boxes → Balanced u p c q l e boxes
balanced u p c n q l (entry.Send k to us) boxes f = sends-one u (unit_list us) (boxes p c) (eqb p to && eqb c k)
balanced u p c n q l (entry.Receive k us) boxes f = takes-one u (unit_list us) (boxes p c) (eqb p q && eqb c k) (λ h. f ∙ ap oldest (same-box p c q k boxes h))
balanced u p c n q l (entry.Sweep k us) boxes f = sweeps-one u (boxes p c) (eqb p q && eqb c k)
balanced u p c n q l _ boxes f = refl

pub parcels-balance : (u p c n : ℕ) (o : Order) (boxes : Boxes) → AllFit boxes_after (BoxesFit n) o boxes → times_sent_over u p c o + times_waiting u p c boxes ≡ times_taken_over u p c o boxes + times_waiting u p c (over boxes_after o boxes)
parcels-balance u p c n [] boxes h = refl
parcels-balance u p c n (e ∷ o) boxes h =
    let one = balanced u p c n e.processor e.level e.entry boxes h.0 in
    let more = parcels-balance u p c n o (boxes_after e.processor e.level e.entry boxes) h.1 in
    omega (arith, one, more)

pub shared-parcels : (u p c : ℕ) (o : Order) (s : Shared) → AllShared o s → times_sent_over u p c o + times_waiting u p c s.boxes ≡ times_taken_over u p c o s.boxes + times_waiting u p c (shared_over o s).boxes
shared-parcels u p c o s h = subst (λ (x : Boxes). times_sent_over u p c o + times_waiting u p c s.boxes ≡ times_taken_over u p c o s.boxes + times_waiting u p c x) (sym (boxes-over o s)) (parcels-balance u p c s.processors o s.boxes (boxes-fit o s h))
