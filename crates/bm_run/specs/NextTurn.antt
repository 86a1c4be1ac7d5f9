-- Whose turn is next, and what makes turns end. (This project's own.)
use Rattle.std.specs.Prelude.{◌≡◌, ◌⊎◌, ◌+◌, ℕ, Bool, List, [], ◌∷◌, if◌then◌else◌, sum_by}
use Rattle.bm_lang.specs.declared.scenario.Parts.{Parts}
use Rattle.bm_run.specs.InTurns.{IsLowest}
use Rattle.bm_run.specs.Turns.{weight_left}
use Rattle.bm_run.specs.declared.seats.Seat.{Seat}

-- Of the turns that are still to come the next one is processor p's, which hasn't ended, and these come after it: it is named next, or
-- none is named any more, and it is the lowest that hasn't ended.
abbrev pub IsNextTurn : List Bool → (rest : List ℕ) → (p : ℕ) → (after : List ℕ) → Type 0
IsNextTurn ended rest p after = (rest ≡ p ∷ after) ⊎ ((rest ≡ []) × (after ≡ []) × IsLowest ended p)

-- what each turn makes smaller
abbrev pub seat_weight : Parts → Seat → ℕ
seat_weight s x = if x.ended then 0 else weight_left s x.remaining + 1

abbrev pub seats_weight : Parts → List Seat → ℕ
seats_weight s seats = sum_by (seat_weight s) seats
