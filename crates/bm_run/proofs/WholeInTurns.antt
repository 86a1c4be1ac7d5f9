-- The order that a run makes turn by turn is the whole order of its logs.
use Rattle.std.specs.Prelude.{get_or, map, replicate}
use Rattle.std.specs.List.{range_with_len}
use Rattle.std.proofs.Common.{◌≡◌, ◌+◌, ◌<◌, ℕ, zero, suc, Bool, List, [], ◌∷◌, ◌++◌, arith, length, refl, sym, ◌∙◌, ap, append-nil, append_assoc}
use Rattle.std.proofs.lemmas.List.FromFn.{length-map-range_with_len, map-range_with_len_more}
use Rattle.bm_law.specs.Lists.{Log}
use Rattle.bm_law_order.specs.Orders.{Order, by}
use Rattle.bm_law_order.specs.Whole.{ascending, given_up, in_turns, opening_of, periods_ended, swept, turns_of, whole}
use Rattle.bm_run.specs.InTurns.{AreLogs, RunParts, TurnsSoFar, made_by, one_by_one, parts_at}
use Rattle.bm_run.proofs.PiecesCut.{given-part, opening-part, periods-part, swept-part, turns-part}
use Rattle.bm_run.proofs.TurnsInOrder.{turns-end}

-- ---- one processor after the other

-- one processor more
pub one-more : (k : ℕ) (logs : List Log) (log : Log) → one_by_one k (logs ++ log ∷ []) ≡ one_by_one k logs ++ by (k + length logs) log
one-more k [] log =
    let here : k + 0 ≡ k = omega arith in
    append-nil (by k log) ∙ ap (λ z. by z log) (sym here)
one-more k (first ∷ logs) log =
    let next : (k + 1) + length logs ≡ k + suc (length logs) = omega arith in
    ap (λ z. by k first ++ z) (one-more (k + 1) logs log ∙ ap (λ z. one_by_one (k + 1) logs ++ by z log) next)
    ∙ sym (append_assoc (by k first) (one_by_one (k + 1) logs) (by (k + suc (length logs)) log))

none-more : (k n : ℕ) → one_by_one k (replicate n []) ≡ []
none-more k zero = refl
none-more k (suc n) = none-more (k + 1) n

-- where all but the first have nothing
pub first-alone : (n : ℕ) (log : Log) → one_by_one 0 (log ∷ replicate n []) ≡ by 0 log
first-alone n log = ap (λ z. by 0 log ++ z) (none-more 1 n) ∙ append-nil (by 0 log)

-- what is made of one processor after the other, from 0 on
pub made-one-by-one : (log : ℕ → Log) (made : ℕ → Order) → made 0 ≡ [] → ((p : ℕ) → made (suc p) ≡ made p ++ by p (log p)) → (n : ℕ) → made n ≡ one_by_one 0 (map log (range_with_len 0 n))
made-one-by-one log made none next zero = none
made-one-by-one log made none next (suc n) =
    let before : List Log = map log (range_with_len 0 n) in
    let more : n + 1 ≡ suc n = omega arith in
    let here : 0 + length before ≡ n = omega (arith, length-map-range_with_len log 0 n) in
    let all : map log (range_with_len 0 (suc n)) ≡ before ++ log n ∷ [] = ap (λ k. map log (range_with_len 0 k)) (sym more) ∙ map-range_with_len_more log 0 n n (omega arith) in
    next n ∙ (ap (λ z. z ++ by n (log n)) (made-one-by-one log made none next n)
    ∙ (ap (λ z. one_by_one 0 before ++ by z (log n)) (sym here) ∙ (sym (one-more 0 before (log n)) ∙ sym (ap (one_by_one 0) all))))

-- ---- the parts of all logs

-- a part of each log, where it is known of each processor
each-part : (k : ℕ) (part : Log → Log) (logs parts : List Log) → length logs ≡ length parts → ((p : ℕ) → p < length logs → part (get_or logs p []) ≡ get_or parts p []) → ascending k part logs ≡ one_by_one k parts
each-part k part [] [] e h = refl
each-part k part [] (x ∷ parts) e h = absurd (omega arith)
each-part k part (log ∷ logs) [] e h = absurd (omega arith)
each-part k part (log ∷ logs) (x ∷ parts) e h =
    ap (λ z. by k z ++ ascending (k + 1) part logs) (h 0 (omega arith))
    ∙ ap (λ z. by k x ++ z) (each-part (k + 1) part logs parts (omega arith) (λ p lt. h (suc p) (omega arith)))

each-turns : (logs : List Log) (taken : List (List Log)) → length logs ≡ length taken → ((p : ℕ) → p < length logs → turns_of (get_or logs p []) ≡ get_or taken p []) → map turns_of logs ≡ taken
each-turns [] [] e h = refl
each-turns [] (x ∷ taken) e h = absurd (omega arith)
each-turns (log ∷ logs) [] e h = absurd (omega arith)
each-turns (log ∷ logs) (x ∷ taken) e h =
    ap (λ z. z ∷ map turns_of logs) (h 0 (omega arith)) ∙ ap (λ z. x ∷ z) (each-turns logs taken (omega arith) (λ p lt. h (suc p) (omega arith)))

-- ---- the whole order

-- The whole order of logs that have these parts is made of them, with the order of all turns between the openings and the closing.
pub whole-parts : (n : ℕ) (turns : List ℕ) (r : RunParts) (logs : List Log) (o : Order) → AreLogs n r logs → in_turns turns r.taken ≡ o → whole turns logs ≡ made_by o r
whole-parts n turns r logs o h e =
    let A = ascending 0 opening_of logs in
    let T = in_turns turns (map turns_of logs) in
    let G = ascending 0 given_up logs in
    let P = ascending 0 periods_ended logs in
    let W = ascending 0 swept logs in
    let at : (p : ℕ) → p < length logs → p < n = λ p lt. omega (arith, lt, h.logs_many) in
    let opened : A ≡ one_by_one 0 r.fills =
    each-part 0 opening_of logs r.fills (h.logs_many ∙ sym h.fills_many) (λ p lt. ap opening_of (h.logs_are p (at p lt)) ∙ opening-part (parts_at r p) (h.parts p (at p lt))) in
    let turned : T ≡ o =
    ap (in_turns turns) (each-turns logs r.taken (h.logs_many ∙ sym h.taken_many) (λ p lt. ap turns_of (h.logs_are p (at p lt)) ∙ turns-part (parts_at r p) (h.parts p (at p lt)))) ∙ e in
    let gave : G ≡ one_by_one 0 r.given =
    each-part 0 given_up logs r.given (h.logs_many ∙ sym h.given_many) (λ p lt. ap given_up (h.logs_are p (at p lt)) ∙ given-part (parts_at r p) (h.parts p (at p lt))) in
    let ended : P ≡ one_by_one 0 r.finishes =
    each-part 0 periods_ended logs r.finishes (h.logs_many ∙ sym h.finishes_many) (λ p lt. ap periods_ended (h.logs_are p (at p lt)) ∙ periods-part (parts_at r p) (h.parts p (at p lt))) in
    let cleared : W ≡ one_by_one 0 r.sweeps =
    each-part 0 swept logs r.sweeps (h.logs_many ∙ sym h.sweeps_many) (λ p lt. ap swept (h.logs_are p (at p lt)) ∙ swept-part (parts_at r p) (h.parts p (at p lt))) in
    let apart : whole turns logs ≡ A ++ (T ++ (G ++ (P ++ W))) = append_assoc (A ++ T ++ G) P W ∙ (append_assoc (A ++ T) G (P ++ W) ∙ append_assoc A T (G ++ (P ++ W))) in
    apart ∙ (λ i. opened i ++ (turned i ++ (gave i ++ (ended i ++ cleared i))))

-- A run whose turns have made an order has, with its openings and its closing, made the whole order of its logs.
pub whole-in-turns : (n : ℕ) (turns : List ℕ) (ended : List Bool) (r : RunParts) (logs : List Log) (o : Order) → TurnsSoFar n turns [] r.taken ended o → AreLogs n r logs → whole turns logs ≡ made_by o r
whole-in-turns n turns ended r logs o h parts = whole-parts n turns r logs o parts (turns-end n turns r.taken ended o h)
