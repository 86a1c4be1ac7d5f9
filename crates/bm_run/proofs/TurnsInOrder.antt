-- The order of all turns, as a run of turns makes it, one after the other.
use Rattle.std.specs.Prelude.{get_or, replicate, set}
use Rattle.std.proofs.Common.{◌≡◌, ◌≢◌, ◌<◌, ◌+◌, ℕ, zero, suc, Bool, true, false, List, [], ◌∷◌, ◌++◌, arith, length, refl, sym, ◌∙◌, ap, inl, inr, append-nil, append_assoc}
use Rattle.std.proofs.lemmas.Bool.Decides.{eqb_tells}
use Rattle.std.proofs.lemmas.List.{get_or-set_other, get_or-set_same, length-set, length-replicate, set-get_or, set-set}
use Rattle.bm_law.specs.Lists.{Log}
use Rattle.bm_law_order.specs.Orders.{Order, by}
use Rattle.bm_law_order.specs.Whole.{in_turns, joined, rest_of}
use Rattle.bm_law_order.proofs.Along.{by-append}
use Rattle.bm_run.specs.InTurns.{AreLeft, IsLowest, TurnsSoFar, with_left}

-- ---- one turn

-- a processor that has a piece left takes it in its turn
turn-takes : (p : ℕ) (turns : List ℕ) (piece : Log) (left : List (List Log)) → p < length left → in_turns (p ∷ turns) (set left p (piece ∷ get_or left p [])) ≡ by p piece ++ in_turns turns left
turn-takes p turns piece left lt =
    rw (get_or-set_same left p (piece ∷ get_or left p []) [] lt)
    (rw (set-set left p (piece ∷ get_or left p []) (get_or left p [])) (rw (set-get_or left p []) refl))

-- one that has none takes nothing
turn-idles : (p : ℕ) (turns : List ℕ) (left : List (List Log)) → get_or left p [] ≡ [] → in_turns (p ∷ turns) left ≡ in_turns turns left
turn-idles p turns left none =
    let same : set left p [] ≡ left = ap (λ (z : List Log). set left p z) (sym none) ∙ set-get_or left p [] in
    rw none (rw same refl)

-- the lowest that has one left takes it when the turns are used up
lowest-takes : (k p : ℕ) (piece : Log) (left : List (List Log)) → p < length left → ((q : ℕ) → q < p → get_or left q [] ≡ []) → rest_of k (set left p (piece ∷ get_or left p [])) ≡ by (k + p) piece ++ rest_of k left
lowest-takes k p piece [] lt none = absurd (omega arith)
lowest-takes k zero piece (pieces ∷ left) lt none =
    let here : k + 0 ≡ k = omega arith in
    ap (λ z. z ++ rest_of (k + 1) left) (by-append k piece (joined pieces))
    ∙ (append_assoc (by k piece) (by k (joined pieces)) (rest_of (k + 1) left) ∙ ap (λ z. by z piece ++ (by k (joined pieces) ++ rest_of (k + 1) left)) (sym here))
lowest-takes k (suc p) piece (pieces ∷ left) lt none =
    let first : pieces ≡ [] = none 0 (omega arith) in
    let next : (k + 1) + p ≡ k + suc p = omega arith in
    let rest = lowest-takes (k + 1) p piece left (omega arith) (λ q lower. none (suc q) (omega arith)) in
    ap (λ z. by k (joined z) ++ rest_of (k + 1) (set left p (piece ∷ get_or left p []))) first
    ∙ (rest ∙ (ap (λ z. by z piece ++ rest_of (k + 1) left) next ∙ ap (λ z. by (k + suc p) piece ++ (by k (joined z) ++ rest_of (k + 1) left)) (sym first)))

rest-none : (k n : ℕ) → rest_of k (replicate n []) ≡ []
rest-none k zero = refl
rest-none k (suc n) = rest-none (k + 1) n

-- ---- the pieces that are left

-- a piece is the first that is left, or the last that was taken
next-taken : (p : ℕ) (piece : Log) (taken left : List (List Log)) → length taken ≡ length left → with_left taken (set left p (piece ∷ get_or left p [])) ≡ with_left (set taken p (get_or taken p [] ++ piece ∷ [])) left
next-taken p piece [] [] e = refl
next-taken p piece [] (l ∷ left) e = absurd (omega arith)
next-taken p piece (t ∷ taken) [] e = absurd (omega arith)
next-taken zero piece (t ∷ taken) (l ∷ left) e = ap (λ z. z ∷ with_left taken left) (sym (append_assoc t (piece ∷ []) l))
next-taken (suc p) piece (t ∷ taken) (l ∷ left) e = ap (λ z. (t ++ l) ∷ z) (next-taken p piece taken left (omega arith))

all-left : (n : ℕ) (left : List (List Log)) → length left ≡ n → with_left (replicate n []) left ≡ left
all-left zero [] e = refl
all-left zero (l ∷ left) e = absurd (omega arith)
all-left (suc n) [] e = absurd (omega arith)
all-left (suc n) (l ∷ left) e = ap (λ z. l ∷ z) (all-left n left (omega arith))

none-left : (n : ℕ) (taken : List (List Log)) → with_left taken (replicate n []) ≡ taken
none-left n [] = refl
none-left zero (t ∷ taken) = refl
none-left (suc n) (t ∷ taken) = ap (λ z. z ∷ with_left taken (replicate n [])) (append-nil t) ∙ ap (λ z. t ∷ z) (none-left n taken)

-- where pieces are left after a turn of a processor that hadn't ended, so they were with its piece before
left-before : (p : ℕ) (ends : Bool) (piece : Log) (ended : List Bool) (left : List (List Log)) → get_or ended p true ≡ false → AreLeft (set ended p ends) left → AreLeft ended (set left p (piece ∷ get_or left p []))
left-before p ends piece ended left going h = record {
  many = length-set left p (piece ∷ get_or left p []) ∙ (h.many ∙ length-set ended p ends);
  none = λ q done. elim (eqb_tells q p) [
    | inl y ↦ absurd (apart (sym (ap (λ z. get_or ended z true) y.1 ∙ going) ∙ done))
    | inr y ↦ other q y.1 done
  ];
}
  where
    apart : false ≡ true → ⊥
    apart e = cc

    other : (q : ℕ) → q ≢ p → get_or ended q true ≡ true → get_or (set left p (piece ∷ get_or left p [])) q [] ≡ []
    other q ne done = get_or-set_other left p q (piece ∷ get_or left p []) [] ne ∙ h.none q (get_or-set_other ended p q ends true ne ∙ done)

same-replicated : (n p : ℕ) (x : List Log) → get_or (replicate n x) p x ≡ x
same-replicated zero p x = refl
same-replicated (suc n) zero x = refl
same-replicated (suc n) (suc p) x = same-replicated n p x

-- ---- the run of turns

-- before the first turn
pub turns-begin : (n : ℕ) (turns : List ℕ) → TurnsSoFar n turns turns (replicate n []) (replicate n false) []
turns-begin n turns = record {
  taken_many = length-replicate n [];
  ended_many = length-replicate n false;
  goes_on = λ left h. ap (in_turns turns) (all-left n left (h.many ∙ length-replicate n false));
}

-- A processor that hasn't ended takes a turn, with this piece, and ends with it or doesn't.
turn-taken : (n p : ℕ) (turns rest later : List ℕ) (taken : List (List Log)) (ended : List Bool) (o : Order) (ends : Bool) (piece : Log) → TurnsSoFar n turns rest taken ended o → get_or ended p true ≡ false →
    ((left : List (List Log)) → length left ≡ n → AreLeft (set ended p ends) left → in_turns rest (set left p (piece ∷ get_or left p [])) ≡ by p piece ++ in_turns later left) →
    TurnsSoFar n turns later (set taken p (get_or taken p [] ++ piece ∷ [])) (set ended p ends) (o ++ by p piece)
turn-taken n p turns rest later taken ended o ends piece h going takes = record {
  taken_many = length-set taken p (get_or taken p [] ++ piece ∷ []) ∙ h.taken_many;
  ended_many = length-set ended p ends ∙ h.ended_many;
  goes_on = λ left k. goes left k (k.many ∙ (length-set ended p ends ∙ h.ended_many));
}
  where
    goes : (left : List (List Log)) → AreLeft (set ended p ends) left → length left ≡ n → in_turns turns (with_left (set taken p (get_or taken p [] ++ piece ∷ [])) left) ≡ (o ++ by p piece) ++ in_turns later left
    goes left k many =
        ap (in_turns turns) (sym (next-taken p piece taken left (h.taken_many ∙ sym many)))
        ∙ (h.goes_on (set left p (piece ∷ get_or left p [])) (left-before p ends piece ended left going k)
        ∙ (ap (λ z. o ++ z) (takes left many k) ∙ sym (append_assoc o (by p piece) (in_turns later left))))

-- The next processor that is named takes a turn, where it hasn't ended.
pub turn-named : (n p : ℕ) (turns rest : List ℕ) (taken : List (List Log)) (ended : List Bool) (o : Order) (ends : Bool) (piece : Log) → TurnsSoFar n turns (p ∷ rest) taken ended o → p < n → get_or ended p true ≡ false →
    TurnsSoFar n turns rest (set taken p (get_or taken p [] ++ piece ∷ [])) (set ended p ends) (o ++ by p piece)
turn-named n p turns rest taken ended o ends piece h lt going =
    turn-taken n p turns (p ∷ rest) rest taken ended o ends piece h going (λ left many k. turn-takes p rest piece left (omega arith))

-- Where it has ended, nothing happens; nor does it for a number that is no processor's.
pub turn-passed : (n p : ℕ) (turns rest : List ℕ) (taken : List (List Log)) (ended : List Bool) (o : Order) → TurnsSoFar n turns (p ∷ rest) taken ended o → get_or ended p true ≡ true → TurnsSoFar n turns rest taken ended o
turn-passed n p turns rest taken ended o h done = record {
  taken_many = h.taken_many;
  ended_many = h.ended_many;
  goes_on = λ left k. h.goes_on left k ∙ ap (λ z. o ++ z) (turn-idles p rest left (k.none p done));
}

-- When the turns that are named are used up, the lowest processor that hasn't ended takes a turn.
pub turn-lowest : (n p : ℕ) (turns : List ℕ) (taken : List (List Log)) (ended : List Bool) (o : Order) (ends : Bool) (piece : Log) → TurnsSoFar n turns [] taken ended o → p < n → IsLowest ended p →
    TurnsSoFar n turns [] (set taken p (get_or taken p [] ++ piece ∷ [])) (set ended p ends) (o ++ by p piece)
turn-lowest n p turns taken ended o ends piece h lt low =
    turn-taken n p turns [] [] taken ended o ends piece h low.going (λ left many k. takes left many k)
  where
    before : (left : List (List Log)) → AreLeft (set ended p ends) left → (q : ℕ) → q < p → get_or left q [] ≡ []
    before left k q lower = k.none q (get_or-set_other ended p q ends true (λ e. absurd (omega arith)) ∙ low.below q lower)

    takes : (left : List (List Log)) → length left ≡ n → AreLeft (set ended p ends) left → rest_of 0 (set left p (piece ∷ get_or left p [])) ≡ by p piece ++ rest_of 0 left
    takes left many k =
        let here : 0 + p ≡ p = omega arith in
        lowest-takes 0 p piece left (omega arith) (before left k) ∙ ap (λ z. by z piece ++ rest_of 0 left) here

-- When no turn is left, the order that the turns made is that of all turns.
pub turns-end : (n : ℕ) (turns : List ℕ) (taken : List (List Log)) (ended : List Bool) (o : Order) → TurnsSoFar n turns [] taken ended o → in_turns turns taken ≡ o
turns-end n turns taken ended o h =
    let none : AreLeft ended (replicate n []) = record { many = length-replicate n [] ∙ sym h.ended_many; none = λ p done. same-replicated n p [] } in
    ap (in_turns turns) (sym (none-left n taken)) ∙ (h.goes_on (replicate n []) none ∙ (ap (λ z. o ++ z) (rest-none 0 n) ∙ append-nil o))
