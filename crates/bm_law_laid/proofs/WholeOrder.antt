-- The one order of a run by its turns is one of its logs, whatever turns.
use Rattle.std.proofs.Common.{◌≡◌, ◌≢◌, ◌⊎◌, ℕ, zero, suc, ◌+◌, ◌<◌, ◌≤◌, Bool, List, [], ◌∷◌, ◌++◌, map, set, length, get_or, refl, sym, ◌∙◌, ap, subst, arith, inl, inr, append-nil, append_assoc, length-set, get_or-set_same, get_or-set_other}
use Rattle.std.proofs.lemmas.Bool.{cases_Bool, cases_lt}
use Rattle.std.proofs.lemmas.Bool.Decides.{eqb_tells}
use Rattle.std.proofs.lemmas.List.{get_or_past, length-map}
use Rattle.std.proofs.Math.ListN.{get_or-map}
use Rattle.bm_law.specs.Lists.{Log}
use Rattle.bm_law_order.specs.Orders.{Order, by, part_of}
use Rattle.bm_law_order.specs.Whole.{ascending, before_first, behind_first, closing_of, cut_behind, from_first, given_up, in_turns, is_ended, is_finish_or_sweep, is_sweep, is_yield, joined, opening_of, periods_ended, rest_of, run_of, scripts_of, swept, through_first, turns_of, whole, with_front}
use Rattle.bm_law_laid.specs.OrderOf.{AllBelow, IsOrderOf}

-- ---- a log, cut

module _ {A : Type 0} (test : A → Bool) where
  first-cut : (xs : List A) → before_first test xs ++ from_first test xs ≡ xs
  first-cut [] = refl
  first-cut (x ∷ xs) = elim (cases_Bool (test x)) [ inl y ↦ rw y refl | inr n ↦ rw n (ap (λ ys. x ∷ ys) (first-cut xs)) ]

  through-cut : (xs : List A) → through_first test xs ++ behind_first test xs ≡ xs
  through-cut [] = refl
  through-cut (x ∷ xs) = elim (cases_Bool (test x)) [ inl y ↦ rw y refl | inr n ↦ rw n (ap (λ ys. x ∷ ys) (through-cut xs)) ]

  joined-front : (x : A) (pieces : List (List A)) → joined (with_front x pieces) ≡ x ∷ joined pieces
  joined-front x [] = refl
  joined-front x (piece ∷ pieces) = refl

  joined-cut : (xs : List A) → joined (cut_behind test xs) ≡ xs
  joined-cut [] = refl
  joined-cut (x ∷ xs) = elim (cases_Bool (test x)) [
    | inl y ↦ rw y (ap (λ ys. x ∷ ys) (joined-cut xs))
    | inr n ↦ rw n (joined-front x (cut_behind test xs) ∙ ap (λ ys. x ∷ ys) (joined-cut xs))
  ]

log-parts : (log : Log) → opening_of log ++ (joined (turns_of log) ++ (given_up log ++ (periods_ended log ++ swept log))) ≡ log
log-parts log =
    let end : periods_ended log ++ swept log ≡ from_first is_finish_or_sweep (closing_of log) = first-cut is_sweep (from_first is_finish_or_sweep (closing_of log)) in
    let closing : given_up log ++ (periods_ended log ++ swept log) ≡ closing_of log = ap (λ z. given_up log ++ z) end ∙ first-cut is_finish_or_sweep (closing_of log) in
    let scripts : joined (turns_of log) ≡ scripts_of log = joined-cut is_yield (scripts_of log) in
    let run : joined (turns_of log) ++ (given_up log ++ (periods_ended log ++ swept log)) ≡ run_of log = ap (λ z. joined (turns_of log) ++ z) closing ∙ (ap (λ z. z ++ closing_of log) scripts ∙ through-cut is_ended (run_of log)) in
    ap (λ z. opening_of log ++ z) run ∙ first-cut _ log

-- ---- the part of a processor

part-append : (p : ℕ) (a b : Order) → part_of p (a ++ b) ≡ part_of p a ++ part_of p b
part-append p [] b = refl
part-append p (e ∷ a) b = elim (eqb_tells e.processor p) [ inl y ↦ rw y.0 (ap (λ z. (e.level, e.entry) ∷ z) (part-append p a b)) | inr y ↦ rw y.0 (part-append p a b) ]

part-own : (p : ℕ) (log : Log) → part_of p (by p log) ≡ log
part-own p [] = refl
part-own p (e ∷ log) = elim (eqb_tells p p) [ inl y ↦ rw y.0 (ap (λ z. e ∷ z) (part-own p log)) | inr y ↦ absurd (y.1 refl) ]

part-other : (p q : ℕ) (log : Log) → q ≢ p → part_of p (by q log) ≡ []
part-other p q [] ne = refl
part-other p q (e ∷ log) ne = elim (eqb_tells q p) [ inl y ↦ absurd (ne y.1) | inr y ↦ rw y.0 (part-other p q log ne) ]

part-past : (p q : ℕ) (part : Log → Log) (logs : List Log) → p < q → part_of p (ascending q part logs) ≡ []
part-past p q part [] lt = refl
part-past p q part (log ∷ logs) lt =
    part-append p (by q (part log)) (ascending (q + 1) part logs)
    ∙ (ap (λ z. z ++ part_of p (ascending (q + 1) part logs)) (part-other p q (part log) (λ e. omega (arith, e, lt)))
    ∙ part-past p (q + 1) part logs (omega (arith, lt)))

part-ascending : (i p q : ℕ) (part : Log → Log) (logs : List Log) → part [] ≡ [] → p ≡ q + i → part_of p (ascending q part logs) ≡ part (get_or logs i [])
part-ascending i p q part [] none e = sym none
part-ascending zero p q part (log ∷ logs) none e =
    let same : p ≡ q = omega (arith, e) in
    part-append p (by q (part log)) (ascending (q + 1) part logs)
    ∙ (ap (λ z. part_of p (by q (part log)) ++ z) (part-past p (q + 1) part logs (omega (arith, same)))
    ∙ (append-nil (part_of p (by q (part log)))
    ∙ (ap (λ k. part_of k (by q (part log))) same ∙ part-own q (part log))))
part-ascending (suc i) p q part (log ∷ logs) none e =
    part-append p (by q (part log)) (ascending (q + 1) part logs)
    ∙ (ap (λ z. z ++ part_of p (ascending (q + 1) part logs)) (part-other p q (part log) (λ same. omega (arith, e, same)))
    ∙ part-ascending i p (q + 1) part logs none (omega (arith, e)))

part-all : (p : ℕ) (part : Log → Log) (logs : List Log) → part [] ≡ [] → part_of p (ascending 0 part logs) ≡ part (get_or logs p [])
part-all p part logs none = part-ascending p p 0 part logs none (omega arith)

-- ---- turns

rest-ascending : (p : ℕ) (left : List (List Log)) → rest_of p left ≡ ascending p (λ log. log) (map joined left)
rest-ascending p [] = refl
rest-ascending p (pieces ∷ left) = ap (λ z. by p (joined pieces) ++ z) (rest-ascending (p + 1) left)

piece-cases : (pieces : List Log) → (pieces ≡ []) ⊎ ((piece : Log) × (rest : List Log) × (pieces ≡ piece ∷ rest))
piece-cases [] = inl refl
piece-cases (piece ∷ rest) = inr (piece, rest, refl)

no-turn : (q : ℕ) (turns : List ℕ) (left : List (List Log)) → get_or left q [] ≡ [] → in_turns (q ∷ turns) left ≡ in_turns turns (set left q [])
no-turn q turns left e = rw e refl

one-turn : (q : ℕ) (turns : List ℕ) (left : List (List Log)) (piece : Log) (rest : List Log) → get_or left q [] ≡ piece ∷ rest → in_turns (q ∷ turns) left ≡ by q piece ++ in_turns turns (set left q rest)
one-turn q turns left piece rest e = rw e refl

inside : (q : ℕ) (left : List (List Log)) (piece : Log) (rest : List Log) → get_or left q [] ≡ piece ∷ rest → q < length left
inside q left piece rest e =
    elim (cases_lt q (length left)) [
      | inl lt ↦ lt
      | inr past ↦ absurd (let none : [] ≡ piece ∷ rest = sym (get_or_past left q [] past) ∙ e in cc)
    ]

-- where the pieces were none, they still are
same-none : (p q : ℕ) (left : List (List Log)) → get_or left q [] ≡ [] → get_or (set left q []) p [] ≡ get_or left p []
same-none p q left e =
    elim (eqb_tells p q) [
      | inl y ↦ ap (λ k. get_or (set left q []) k []) y.1 ∙ (here (cases_lt q (length left)) ∙ (sym e ∙ ap (λ k. get_or left k []) (sym y.1)))
      | inr y ↦ get_or-set_other left q p [] [] y.1
    ]
  where
    here : (q < length left) ⊎ (length left ≤ q) → get_or (set left q []) q [] ≡ []
    here (inl lt) = get_or-set_same left q [] [] lt
    here (inr past) = let many : length (set left q []) ≡ length left = length-set left q [] in get_or_past (set left q []) q [] (omega (arith, many, past))

part-turns : (p : ℕ) (turns : List ℕ) (left : List (List Log)) → part_of p (in_turns turns left) ≡ joined (get_or left p [])
part-turns p [] left = ap (part_of p) (rest-ascending 0 left) ∙ (part-all p (λ log. log) (map joined left) refl ∙ get_or-map joined left p [])
part-turns p (q ∷ turns) left =
    elim (piece-cases (get_or left q [])) [
      | inl e ↦ ap (part_of p) (no-turn q turns left e) ∙ (part-turns p turns (set left q []) ∙ ap joined (same-none p q left e))
      | inr (piece, rest, e) ↦
          let now : List (List Log) = set left q rest in
          ap (part_of p) (one-turn q turns left piece rest e)
          ∙ (part-append p (by q piece) (in_turns turns now)
          ∙ (ap (λ z. part_of p (by q piece) ++ z) (part-turns p turns now)
          ∙ elim (eqb_tells p q) [
            | inl y ↦
                ap (λ k. part_of k (by q piece) ++ joined (get_or now k [])) y.1
                ∙ (ap (λ z. z ++ joined (get_or now q [])) (part-own q piece)
                ∙ (ap (λ z. piece ++ joined z) (get_or-set_same left q rest [] (inside q left piece rest e))
                ∙ (ap joined (sym e) ∙ ap (λ k. joined (get_or left k [])) (sym y.1))))
            | inr y ↦
                ap (λ z. z ++ joined (get_or now p [])) (part-other p q piece (λ s. y.1 (sym s)))
                ∙ ap joined (get_or-set_other left q p rest [] y.1)
          ]))
    ]

five : (a b c d e : Order) → a ++ b ++ c ++ d ++ e ≡ a ++ (b ++ (c ++ (d ++ e)))
five a b c d e = append_assoc (a ++ b ++ c) d e ∙ (append_assoc (a ++ b) c (d ++ e) ∙ append_assoc a b (c ++ (d ++ e)))

pub part-whole : (turns : List ℕ) (logs : List Log) (p : ℕ) → part_of p (whole turns logs) ≡ get_or logs p []
part-whole turns logs p =
    let log : Log = get_or logs p [] in
    let o1 : Order = ascending 0 opening_of logs in
    let o2 : Order = in_turns turns (map turns_of logs) in
    let o3 : Order = ascending 0 given_up logs in
    let o4 : Order = ascending 0 periods_ended logs in
    let o5 : Order = ascending 0 swept logs in
    let a2 : part_of p o2 ≡ joined (turns_of log) = part-turns p turns (map turns_of logs) ∙ ap joined (get_or-map turns_of logs p []) in
    let last : part_of p (o4 ++ o5) ≡ periods_ended log ++ swept log = part-append p o4 o5 ∙ (ap (λ z. z ++ part_of p o5) (part-all p periods_ended logs refl) ∙ ap (λ z. periods_ended log ++ z) (part-all p swept logs refl)) in
    let closing : part_of p (o3 ++ (o4 ++ o5)) ≡ given_up log ++ (periods_ended log ++ swept log) = part-append p o3 (o4 ++ o5) ∙ (ap (λ z. z ++ part_of p (o4 ++ o5)) (part-all p given_up logs refl) ∙ ap (λ z. given_up log ++ z) last) in
    let run : part_of p (o2 ++ (o3 ++ (o4 ++ o5))) ≡ joined (turns_of log) ++ (given_up log ++ (periods_ended log ++ swept log)) = part-append p o2 (o3 ++ (o4 ++ o5)) ∙ (ap (λ z. z ++ part_of p (o3 ++ (o4 ++ o5))) a2 ∙ ap (λ z. joined (turns_of log) ++ z) closing) in
    ap (part_of p) (five o1 o2 o3 o4 o5)
    ∙ (part-append p o1 (o2 ++ (o3 ++ (o4 ++ o5)))
    ∙ (ap (λ z. z ++ part_of p (o2 ++ (o3 ++ (o4 ++ o5)))) (part-all p opening_of logs refl)
    ∙ (ap (λ z. opening_of log ++ z) run ∙ log-parts log)))

-- ---- whose entries

below-append : (n : ℕ) (a b : Order) → AllBelow n a → AllBelow n b → AllBelow n (a ++ b)
below-append n [] b h k = k
below-append n (e ∷ a) b h k = (h.0, below-append n a b h.1 k)

below-by : (n p : ℕ) (log : Log) → p < n → AllBelow n (by p log)
below-by n p [] lt = tt
below-by n p (e ∷ log) lt = (lt, below-by n p log lt)

below-ascending : (n p : ℕ) (part : Log → Log) (logs : List Log) → p + length logs ≡ n → AllBelow n (ascending p part logs)
below-ascending n p part [] e = tt
below-ascending n p part (log ∷ logs) e = below-append n (by p (part log)) (ascending (p + 1) part logs) (below-by n p (part log) (omega (arith, e))) (below-ascending n (p + 1) part logs (omega (arith, e)))

below-turns : (n : ℕ) (turns : List ℕ) (left : List (List Log)) → length left ≡ n → AllBelow n (in_turns turns left)
below-turns n [] left e = subst (AllBelow n) (sym (rest-ascending 0 left)) (let many : length (map joined left) ≡ length left = length-map left joined in below-ascending n 0 (λ log. log) (map joined left) (omega (arith, many, e)))
below-turns n (q ∷ turns) left e =
    elim (piece-cases (get_or left q [])) [
      | inl none ↦ subst (AllBelow n) (sym (no-turn q turns left none)) (below-turns n turns (set left q []) (length-set left q [] ∙ e))
      | inr (piece, rest, is) ↦
          let lt = inside q left piece rest is in
          subst (AllBelow n) (sym (one-turn q turns left piece rest is))
          (below-append n (by q piece) (in_turns turns (set left q rest)) (below-by n q piece (omega (arith, lt, e))) (below-turns n turns (set left q rest) (length-set left q rest ∙ e)))
    ]

pub whole-order : (turns : List ℕ) (logs : List Log) → IsOrderOf logs (whole turns logs)
whole-order turns logs =
    let n = length logs in
    let part : (f : Log → Log) → AllBelow n (ascending 0 f logs) = λ f. below-ascending n 0 f logs (omega arith) in
    record {
      below = subst (AllBelow n) (sym (five (ascending 0 opening_of logs) (in_turns turns (map turns_of logs)) (ascending 0 given_up logs) (ascending 0 periods_ended logs) (ascending 0 swept logs)))
          (below-append n (ascending 0 opening_of logs) _ (part opening_of)
          (below-append n (in_turns turns (map turns_of logs)) _ (below-turns n turns (map turns_of logs) (length-map logs turns_of))
          (below-append n (ascending 0 given_up logs) _ (part given_up) (below-append n (ascending 0 periods_ended logs) (ascending 0 swept logs) (part periods_ended) (part swept)))));
      parts = λ p lt. part-whole turns logs p;
    }
