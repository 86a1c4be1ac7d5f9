-- What an entry moves to an inbox and from it.
use Rattle.std.specs.Prelude.{◌≡◌, ◌+◌, ℕ, Some, eqb, if◌then◌else◌, ◌&&◌, drop, Bool, true, false, List, [], ◌∷◌, ◌++◌}
use Rattle.std.specs.List.{concat}
use Rattle.std.proofs.Common.{refl, sym, ◌∙◌, ap, arith, append-nil, eqb-true}
use Rattle.std.proofs.lemmas.Bool.{and_parts}
use Rattle.std.proofs.lemmas.List.Folds.{concat-append}
use Rattle.bm_journal.specs.EntryText.{unit_list}
use Rattle.bm_journal.specs.declared.entry.Entry.{Entry}
use Rattle.bm_journal.specs.declared.entry.Entry.TheVariants as entry
use Rattle.bm_law.specs.Inboxes.{oldest}
use Rattle.bm_law.specs.Stands.{times}
use Rattle.bm_law.proofs.Stands.{times-append}
use Rattle.bm_law_order.specs.Parcels.{Boxes, BoxesFit}
use Rattle.bm_law_places.specs.Place.{Inbox, times_at}
use Rattle.bm_law_places.specs.World.{World, world_after}
use Rattle.bm_law_places.proofs.MoveOf.{move_of, sent_from}
use Rattle.bm_law_places.proofs.Moved.{come, taken}

sends : (u : ℕ) (us : List ℕ) (box : List (List ℕ)) (here : Bool) → times u (concat (if here then box ++ us ∷ [] else box)) + 0 ≡ times u (concat box) + (if here then times u us else 0)
sends u us box true =
    let a = ap (times u) (concat-append box (us ∷ []) ∙ ap (λ z. concat box ++ z) (append-nil us)) in
    let b = times-append u (concat box) us in
    omega (arith, a, b)
sends u us box false = refl

takes-oldest : (u : ℕ) (box : List (List ℕ)) → times u (concat box) ≡ times u (oldest box) + times u (concat (drop 1 box))
takes-oldest u [] = refl
takes-oldest u (x ∷ xs) = times-append u x (concat xs)

takes : (u : ℕ) (us : List ℕ) (box : List (List ℕ)) (here : Bool) → (here ≡ true → us ≡ oldest box) → times u (concat (if here then drop 1 box else box)) + (if here then times u us else 0) ≡ times u (concat box) + 0
takes u us box true h = let a = takes-oldest u box in let b = ap (times u) (h refl) in omega (arith, a, b)
takes u us box false h = refl

sweeps : (u : ℕ) (box other : List (List ℕ)) (here : Bool) → (here ≡ true → other ≡ box) → times u (concat (if here then [] else box)) + (if here then times u (concat other) else 0) ≡ times u (concat box) + 0
sweeps u box other true h = let a = ap (λ b. times u (concat b)) (h refl) in omega (arith, a)
sweeps u box other false h = refl

same-box : (p c q k : ℕ) (boxes : Boxes) → eqb p q && eqb c k ≡ true → boxes q k ≡ boxes p c
same-box p c q k boxes h =
    let both = and_parts (eqb p q) (eqb c k) h in
    ap (λ x. boxes x k) (sym (eqb-true p q both.0)) ∙ ap (boxes p) (sym (eqb-true c k both.1))

-- a send comes from no inbox
sent-none : (u q k p l c to : ℕ) (hand us : List ℕ) (box : List (List ℕ)) →
    times u (concat (if eqb q to && eqb k c then box ++ us ∷ [] else box)) + 0 ≡ times u (concat box) + (if eqb q to && eqb k c then times u us else 0) →
    times u (concat (if eqb q to && eqb k c then box ++ us ∷ [] else box)) + taken u (Inbox q k) (Some (record { from = sent_from p l c hand; to = Inbox to c; units = us })) ≡ times u (concat box) + (if eqb q to && eqb k c then times u us else 0)
sent-none u q k p l c to [] us box h = h
sent-none u q k p l c to (v ∷ vs) us box h = h

pub inbox-balanced : (u n p l q k : ℕ) (e : Entry) (w : World) → BoxesFit n p l e w.shared.boxes →
    times_at u (Inbox q k) (world_after p l e w) + taken u (Inbox q k) (move_of p l e w) ≡ times_at u (Inbox q k) w + come u (Inbox q k) (move_of p l e w)
inbox-balanced u n p l q k (entry.Send c to us) w f = sent-none u q k p l c to ((w.lists p).sides l).hand (unit_list us) (w.shared.boxes q k) (sends u (unit_list us) (w.shared.boxes q k) (eqb q to && eqb k c))
inbox-balanced u n p l q k (entry.Receive c us) w f = takes u (unit_list us) (w.shared.boxes q k) (eqb q p && eqb k c) (λ h. f ∙ ap oldest (same-box q k p c w.shared.boxes h))
inbox-balanced u n p l q k (entry.Sweep c us) w f = sweeps u (w.shared.boxes q k) (w.shared.boxes p c) (eqb q p && eqb k c) (same-box q k p c w.shared.boxes)
inbox-balanced u n p l q k _ w f = refl
