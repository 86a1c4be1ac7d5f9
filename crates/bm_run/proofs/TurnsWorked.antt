-- Worked turns, computed: what the record of a run of turns allows, and what it doesn't.
use Rattle.std.specs.Prelude.{get_or, map, take}
use Rattle.std.proofs.Common.{◌≡◌, ◌<◌, ℕ, zero, suc, true, false, List, [], ◌∷◌, ◌++◌, ap, arith, lit<, refl}
use Rattle.bm_law.specs.Lists.{Log}
use Rattle.bm_law_order.specs.Orders.{Event, Order, by}
use Rattle.bm_law_order.specs.Whole.{in_turns, whole}
use Rattle.bm_run.specs.InTurns.{AreLeft, AreLogs, AreParts, TurnsSoFar, last, log_from, more, parts_at}
use Rattle.bm_run.specs.WorkedInTurns.{begins, both, both_logs, ends, enters, highest_first, leaves, lowest_first, once_each, one_ends_early, one_ends_first, one_parts, with_closing, zero_parts}
use Rattle.bm_run.proofs.TurnsInOrder.{turn-lowest, turn-named, turn-passed, turns-begin, turns-end}
use Rattle.bm_run.proofs.WholeInTurns.{whole-in-turns}

-- ---- by the logs alone

pub early-computed : whole one_ends_early both_logs ≡ with_closing one_ends_first
early-computed = refl

pub lowest-computed : whole once_each both_logs ≡ with_closing lowest_first
lowest-computed = refl

-- ---- turn by turn

-- Processor 1, 0, and 1 to its end; nothing; and processor 0 to its end.
pub early-taken : TurnsSoFar 2 one_ends_early [] both.taken (true ∷ true ∷ []) one_ends_first
early-taken =
    let a = turns-begin 2 one_ends_early in
    let b = turn-named 2 1 one_ends_early (0 ∷ 1 ∷ 1 ∷ []) _ _ [] false begins a (lit< tt) refl in
    let c = turn-named 2 0 one_ends_early (1 ∷ 1 ∷ []) _ _ _ false enters b (lit< tt) refl in
    let d = turn-named 2 1 one_ends_early (1 ∷ []) _ _ _ true ends c (lit< tt) refl in
    let e = turn-passed 2 1 one_ends_early [] _ _ _ d refl in
    turn-lowest 2 0 one_ends_early _ _ _ true leaves e (lit< tt) (record { below = λ q lt. absurd (omega arith); going = refl })

-- Processor 1 and 0; then what is left of processor 0, and what is left of processor 1.
pub lowest-taken : TurnsSoFar 2 once_each [] both.taken (true ∷ true ∷ []) lowest_first
lowest-taken =
    let a = turns-begin 2 once_each in
    let b = turn-named 2 1 once_each (0 ∷ []) _ _ [] false begins a (lit< tt) refl in
    let c = turn-named 2 0 once_each [] _ _ _ false enters b (lit< tt) refl in
    let d = turn-lowest 2 0 once_each _ _ _ true leaves c (lit< tt) (record { below = λ q lt. absurd (omega arith); going = refl }) in
    turn-lowest 2 1 once_each _ _ _ true ends d (lit< tt) (record { below = ended; going = refl })
  where
    ended : (q : ℕ) → q < 1 → get_or (true ∷ false ∷ []) q true ≡ true
    ended zero lt = refl
    ended (suc q) lt = absurd (omega arith)

-- so both orders are of all turns
pub early-order : in_turns one_ends_early both.taken ≡ one_ends_first
early-order = turns-end 2 one_ends_early both.taken (true ∷ true ∷ []) one_ends_first early-taken

pub lowest-order : in_turns once_each both.taken ≡ lowest_first
lowest-order = turns-end 2 once_each both.taken (true ∷ true ∷ []) lowest_first lowest-taken

-- ---- the parts of the logs

zero-parts : AreParts zero_parts
zero-parts = record {
  fills = (refl, tt);
  begins = refl;
  turns = more (record { front = take 3 enters; piece_is = refl; unyielding = (refl, (refl, (refl, tt))) }) (last (record { front = take 1 leaves; piece_is = refl; unyielding = (refl, tt) }));
  scripts = enters ++ take 1 leaves;
  scripts_are = refl;
  unended = (refl, (refl, (refl, (refl, (refl, tt)))));
  given = (refl, tt);
  finishes_begin = tt;
  finishes = tt;
  sweeps_begin = refl;
}

one-parts : AreParts one_parts
one-parts = record {
  fills = (refl, tt);
  begins = refl;
  turns = more (record { front = take 1 begins; piece_is = refl; unyielding = (refl, tt) }) (last (record { front = []; piece_is = refl; unyielding = tt }));
  scripts = begins;
  scripts_are = refl;
  unended = (refl, (refl, tt));
  given = tt;
  finishes_begin = refl;
  finishes = (refl, tt);
  sweeps_begin = tt;
}

both-logs : AreLogs 2 both both_logs
both-logs = record {
  logs_many = refl;
  fills_many = refl;
  taken_many = refl;
  given_many = refl;
  finishes_many = refl;
  sweeps_many = refl;
  logs_are = are;
  parts = parts;
}
  where
    are : (p : ℕ) → p < 2 → get_or both_logs p [] ≡ log_from (parts_at both p)
    are zero lt = refl
    are (suc zero) lt = refl
    are (suc (suc p)) lt = absurd (omega arith)

    parts : (p : ℕ) → p < 2 → AreParts (parts_at both p)
    parts zero lt = zero-parts
    parts (suc zero) lt = one-parts
    parts (suc (suc p)) lt = absurd (omega arith)

-- the whole order of the logs, by the turns that were taken
pub early-whole : whole one_ends_early both_logs ≡ with_closing one_ends_first
early-whole = whole-in-turns 2 one_ends_early (true ∷ true ∷ []) both both_logs one_ends_first early-taken both-logs

-- ---- a wrong one

-- what is left then
abbrev pub left : List (List Log)
left = (leaves ∷ []) ∷ [] ∷ []

-- whose the seventh entry of an order is
abbrev pub seventh : Order → ℕ
seventh o = get_or (map (λ (e : Event). e.processor) o) 6 2

-- Where the highest processor takes its turn before the lowest has ended, the record doesn't hold: with what is left of the lowest, the
-- order of all turns is another one.
pub highest-refused : TurnsSoFar 2 once_each [] ((enters ∷ []) ∷ (begins ∷ ends ∷ []) ∷ []) (false ∷ true ∷ []) highest_first → ⊥
highest-refused h = differ (h.goes_on left is-left)
  where
    is-left : AreLeft (false ∷ true ∷ []) left
    is-left = record { many = refl; none = none }
      where
        none : (p : ℕ) → get_or (false ∷ true ∷ []) p true ≡ true → get_or left p [] ≡ []
        none zero e = absurd (cc)
        none (suc zero) e = refl
        none (suc (suc p)) e = refl

    apart : (a b : ℕ) → a ≡ 0 → b ≡ 1 → a ≡ b → ⊥
    apart a b x y e = omega arith

    -- the seventh entry is of processor 0
    differ : lowest_first ≡ highest_first ++ by 0 leaves → ⊥
    differ e = apart (seventh lowest_first) (seventh (highest_first ++ by 0 leaves)) refl refl (ap seventh e)
