-- The units of a processor. (This project's own.)
use Rattle.std.specs.Prelude.{◌⊎◌, ◌<◌, ℕ}
use Rattle.bm_law.specs.Stands.{times}
use Rattle.bm_law.specs.State.{State, seven_lists}

-- unit n is in a list or a hand
abbrev pub Has : ℕ → State ℕ → Type 0
Has n s =
    ((c : ℕ) × (0 < times n (seven_lists (s.rows c)))) ⊎ ((l : ℕ) × (0 < times n (s.sides l).hand))
