-- The one order of a run on one thread, by its turns. (This project's own.)
use Rattle.std.specs.Prelude.{ℕ, ◌+◌, Bool, true, false, not, if◌then◌else◌, List, [], ◌∷◌, ◌++◌, drop, get_or, map, set}
use Rattle.bm_journal.specs.declared.entry.Entry.{Entry}
use Rattle.bm_journal.specs.declared.entry.Entry.TheVariants as entry
use Rattle.bm_law.specs.Lists.{Log}
use Rattle.bm_law_order.specs.Orders.{Order, by}

-- ---- a log cut in two

-- the entries before the first that passes a test, and from it on
abbrev pub before_first : {A : Type 0} → (A → Bool) → List A → List A
before_first test [] = []
before_first test (x ∷ xs) = if test x then [] else x ∷ before_first test xs

abbrev pub from_first : {A : Type 0} → (A → Bool) → List A → List A
from_first test [] = []
from_first test (x ∷ xs) = if test x then x ∷ xs else from_first test xs

-- the entries up to and with the first that passes a test, and behind it
abbrev pub through_first : {A : Type 0} → (A → Bool) → List A → List A
through_first test [] = []
through_first test (x ∷ xs) = if test x then x ∷ [] else x ∷ through_first test xs

abbrev pub behind_first : {A : Type 0} → (A → Bool) → List A → List A
behind_first test [] = []
behind_first test (x ∷ xs) = if test x then xs else behind_first test xs

-- cut directly behind each that passes a test
abbrev pub with_front : {A : Type 0} → A → List (List A) → List (List A)
with_front x [] = (x ∷ []) ∷ []
with_front x (piece ∷ pieces) = (x ∷ piece) ∷ pieces

abbrev pub cut_behind : {A : Type 0} → (A → Bool) → List A → List (List A)
cut_behind test [] = []
cut_behind test (x ∷ xs) =
    if test x then (x ∷ []) ∷ cut_behind test xs else with_front x (cut_behind test xs)

-- pieces, one after the other
abbrev pub joined : {A : Type 0} → List (List A) → List A
joined [] = []
joined (piece ∷ pieces) = piece ++ joined pieces

-- ---- the parts of a log

abbrev pub is_fill : ℕ × Entry → Bool
is_fill (l, entry.Fill c us) = true
is_fill (l, _) = false

abbrev pub is_yield : ℕ × Entry → Bool
is_yield (l, entry.Yield) = true
is_yield (l, _) = false

abbrev pub is_ended : ℕ × Entry → Bool
is_ended (l, entry.Ended) = true
is_ended (l, _) = false

abbrev pub is_sweep : ℕ × Entry → Bool
is_sweep (l, entry.Sweep c us) = true
is_sweep (l, _) = false

abbrev pub is_finish_or_sweep : ℕ × Entry → Bool
is_finish_or_sweep (l, entry.Finish period) = true
is_finish_or_sweep (l, entry.Sweep c us) = true
is_finish_or_sweep (l, _) = false

-- the opening; the scripts up to and with `ended`; and the closing
abbrev pub opening_of : Log → Log
opening_of log = before_first (λ e. not (is_fill e)) log

abbrev pub run_of : Log → Log
run_of log = from_first (λ e. not (is_fill e)) log

abbrev pub scripts_of : Log → Log
scripts_of log = through_first is_ended (run_of log)

abbrev pub closing_of : Log → Log
closing_of log = behind_first is_ended (run_of log)

-- A turn runs from where the processor stopped up to and with its next `yield`, or to its `ended`.
abbrev pub turns_of : Log → List Log
turns_of log = cut_behind is_yield (scripts_of log)

-- ---- the order

-- a part of each log, processors ascending from p
abbrev pub ascending : ℕ → (Log → Log) → List Log → Order
ascending p part [] = []
ascending p part (log ∷ logs) = by p (part log) ++ ascending (p + 1) part logs

-- what is left of the processors' turns, processors ascending from p
abbrev pub rest_of : ℕ → List (List Log) → Order
rest_of p [] = []
rest_of p (pieces ∷ left) = by p (joined pieces) ++ rest_of (p + 1) left

-- A turn of a processor takes the next piece of its log, and nothing once it has ended. When the turns are used up, the lowest
-- processor that hasn't ended takes turns until it has.
abbrev pub in_turns : List ℕ → List (List Log) → Order
in_turns [] left = rest_of 0 left
in_turns (p ∷ turns) left =
    by p (first_of (get_or left p [])) ++ in_turns turns (set left p (drop 1 (get_or left p [])))
  where
    first_of : List Log → Log
    first_of [] = []
    first_of (piece ∷ pieces) = piece

-- In the closing processor 0 gives up what the maps hold, before it ends a period or sweeps. Then the periods in progress end, and
-- then each processor gives back what its caches hold.
abbrev pub given_up : Log → Log
given_up log = before_first is_finish_or_sweep (closing_of log)

abbrev pub periods_ended : Log → Log
periods_ended log = before_first is_sweep (from_first is_finish_or_sweep (closing_of log))

abbrev pub swept : Log → Log
swept log = from_first is_sweep (from_first is_finish_or_sweep (closing_of log))

abbrev pub whole : (turns : List ℕ) → List Log → Order
whole turns logs =
    ascending 0 opening_of logs ++ in_turns turns (map turns_of logs) ++ ascending 0 given_up logs
    ++ ascending 0 periods_ended logs ++ ascending 0 swept logs
