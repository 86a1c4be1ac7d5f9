-- How turns make the whole order of a run: what they have done so far, and the parts in which a run leaves its logs. (This project's own.)
use Rattle.std.specs.Prelude.{◌≡◌, ◌<◌, ℕ, Bool, true, false, not, List, [], ◌∷◌, ◌++◌, get_or, length}
use Rattle.bm_journal.specs.declared.entry.Entry.{Entry}
use Rattle.bm_journal.specs.declared.entry.Entry.TheVariants as entry
use Rattle.bm_law.specs.Lists.{Log}
use Rattle.bm_law_order.specs.Orders.{Order}
use Rattle.bm_law_order.specs.Whole.{ascending, in_turns, is_ended, is_fill, is_finish_or_sweep, is_sweep, is_yield, joined}

-- ---- what the turns have done so far

-- the pieces of each processor's turns so far, and after them those of the turns that are left
abbrev pub with_left : (taken left : List (List Log)) → List (List Log)
with_left [] left = []
with_left (pieces ∷ taken) [] = pieces ∷ taken
with_left (pieces ∷ taken) (more ∷ left) = (pieces ++ more) ∷ with_left taken left

-- These may be the pieces that are left of the processors' turns: none where one has ended.
pub record AreLeft (ended : List Bool) (left : List (List Log)) : Type 0 where
  pub many : length left ≡ length ended
  pub none : (p : ℕ) → get_or ended p true ≡ true → get_or left p [] ≡ []

-- So many processors take turns in this order, of which the rest is still to come. By now they have taken turns with these pieces, and some
-- have ended; the turns made this order. Whatever pieces are left, with them the order of all turns is this one and then theirs.
pub record TurnsSoFar (processors : ℕ) (turns rest : List ℕ) (taken : List (List Log))
    (ended : List Bool) (order : Order) : Type 0 where
  pub taken_many : length taken ≡ processors
  pub ended_many : length ended ≡ processors
  pub goes_on :
      (left : List (List Log)) → AreLeft ended left
      → in_turns turns (with_left taken left) ≡ order ++ in_turns rest left

-- Processor p is the lowest that hasn't ended.
pub record IsLowest (ended : List Bool) (p : ℕ) : Type 0 where
  pub below : (q : ℕ) → q < p → get_or ended q true ≡ true
  pub going : get_or ended p true ≡ false

-- ---- the pieces of a log

-- no entry passes the test
abbrev pub NonePass : {A : Type 0} → (A → Bool) → List A → Type 0
NonePass test [] = Unit {0}
NonePass test (x ∷ xs) = (test x ≡ false) × NonePass test xs

-- the first one passes it, if there is one
abbrev pub BeginsWith : {A : Type 0} → (A → Bool) → List A → Type 0
BeginsWith test [] = Unit {0}
BeginsWith test (x ∷ xs) = test x ≡ true

-- A turn stops with a yield, and the last one with the end of the processor.
abbrev pub stop_of : Bool → Entry
stop_of false = entry.Yield
stop_of true = entry.Ended

-- The piece of a turn, with which the processor ends or doesn't: it stops with its last entry, and there is no yield before.
pub record IsPiece (ends : Bool) (piece : Log) : Type 0 where
  pub front : Log
  pub piece_is : piece ≡ front ++ (0, stop_of ends) ∷ []
  pub unyielding : NonePass is_yield front

-- the pieces of a processor's turns, of which only the last one is that of its end, where it has ended
pub data ArePieces : Bool → List Log → Type 0 where
  none : ArePieces false []
  last : {piece : Log} → IsPiece true piece → ArePieces true (piece ∷ [])
  more :
      {ended : Bool} {piece : Log} {pieces : List Log} → IsPiece false piece
      → ArePieces ended pieces → ArePieces ended (piece ∷ pieces)

-- these are the pieces of so many processors' turns so far, some of which have ended
abbrev pub AreTaken : ℕ → List (List Log) → List Bool → Type 0
AreTaken processors taken ended =
    (p : ℕ) → p < processors → ArePieces (get_or ended p true) (get_or taken p [])

-- ---- the parts of a log

-- The log of a processor of a run: its opening, the pieces of its turns, what it gives up in the closing, the periods that it ends there,
-- and its sweeps.
pub record LogParts : Type 0 where
  pub fills : Log
  pub pieces : List Log
  pub given : Log
  pub finishes : Log
  pub sweeps : Log

abbrev pub log_from : LogParts → Log
log_from x = x.fills ++ (joined x.pieces ++ (x.given ++ (x.finishes ++ x.sweeps)))

-- Each part is told from the next one by its entries: the opening is of fills alone, and no fill comes next; the turns end with the only
-- `ended`; what is given up comes before all periods that end, and these before all sweeps.
pub record AreParts (x : LogParts) : Type 0 where
  pub fills : NonePass (λ e. not (is_fill e)) x.fills
  pub begins : BeginsWith (λ e. not (is_fill e)) (joined x.pieces)
  pub turns : ArePieces true x.pieces
  pub scripts : Log
  pub scripts_are : joined x.pieces ≡ scripts ++ (0, entry.Ended) ∷ []
  pub unended : NonePass is_ended scripts
  pub given : NonePass is_finish_or_sweep x.given
  pub finishes_begin : BeginsWith is_finish_or_sweep x.finishes
  pub finishes : NonePass is_sweep x.finishes
  pub sweeps_begin : BeginsWith is_sweep x.sweeps

-- ---- the parts of all logs, and the order

-- The parts of the logs of a run: each list has one of each processor, in order.
pub record RunParts : Type 0 where
  pub fills : List Log
  pub taken : List (List Log)
  pub given : List Log
  pub finishes : List Log
  pub sweeps : List Log

-- those of processor p
abbrev pub parts_at : RunParts → ℕ → LogParts
parts_at r p = record {
  fills = get_or r.fills p [];
  pieces = get_or r.taken p [];
  given = get_or r.given p [];
  finishes = get_or r.finishes p [];
  sweeps = get_or r.sweeps p [];
}

-- These are the logs of so many processors, by their parts.
pub record AreLogs (processors : ℕ) (r : RunParts) (logs : List Log) : Type 0 where
  pub logs_many : length logs ≡ processors
  pub fills_many : length r.fills ≡ processors
  pub taken_many : length r.taken ≡ processors
  pub given_many : length r.given ≡ processors
  pub finishes_many : length r.finishes ≡ processors
  pub sweeps_many : length r.sweeps ≡ processors
  pub logs_are : (p : ℕ) → p < processors → get_or logs p [] ≡ log_from (parts_at r p)
  pub parts : (p : ℕ) → p < processors → AreParts (parts_at r p)

-- stretches of the logs of processors, ascending from p
abbrev pub one_by_one : ℕ → List Log → Order
one_by_one p logs = ascending p (λ log. log) logs

-- The order that a run makes: the processors open, one after the other; they take turns, which make this order; and they close, one after
-- the other in each part of the closing.
abbrev pub made_by : Order → RunParts → Order
made_by order r =
    one_by_one 0 r.fills
    ++ (order ++ (one_by_one 0 r.given ++ (one_by_one 0 r.finishes ++ one_by_one 0 r.sweeps)))
