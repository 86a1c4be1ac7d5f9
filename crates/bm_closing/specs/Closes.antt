-- What a processor does to what all share in its closing. (This project's own.)
use Rattle.std.specs.Prelude.{List, [], ◌∷◌}
use Rattle.bm_law_order.specs.Act.{Act}
use Rattle.bm_law_order.specs.Act as act

-- An act of the closing: it is about periods and stamps, receives a parcel from an inbox of the processor's own, or returns units.
-- It enters no section, sends nothing, fetches nothing, and begins and ends no life.
abbrev pub IsClosing : Act → Type 0
IsClosing (act.Stamps d x) = Unit {0}
IsClosing (act.Reads d x n) = Unit {0}
IsClosing (act.Begins d n) = Unit {0}
IsClosing (act.Looks d words) = Unit {0}
IsClosing (act.Finishes period) = Unit {0}
IsClosing (act.Receives c us) = Unit {0}
IsClosing (act.Returns us) = Unit {0}
IsClosing _ = ⊥

-- .. and so is each of these
abbrev pub AreClosing : List Act → Type 0
AreClosing [] = Unit {0}
AreClosing (a ∷ more) = IsClosing a × AreClosing more

-- A side came to be that one by acts of the closing, and by nothing else.
abbrev pub ClosesBy : {W : Type 0} → (List Act → W → W → Type 0) → W → W → Type 0
ClosesBy does before now = (acts : List Act) × AreClosing acts × does acts before now
