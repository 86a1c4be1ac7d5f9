-- Which pieces a script is made of. A draw goes to the next state and takes its number from there. (This project's own.)
use Rattle.std.specs.Prelude.{ℕ, zero, suc, ◌==◌, List, [], ◌∷◌, if◌then◌else◌}
use Rattle.bm_generator.specs.declared.pieces.Piece.{Piece}
use Rattle.bm_generator.specs.declared.pieces.Piece.TheVariants.{Push, Pop, Plant, Pick, Swap, Yield}
use Rattle.bm_generator.specs.Draws.{next, drawn}

-- the piece that c picks, with its numbers drawn from state x on, in the order in which they stand
abbrev pub picked : ℕ → ℕ → Piece
picked c x =
    if c == 0 then Push (drawn 100 (next x)) (drawn 100 (next (next x)))
    else (if c == 1 then Pop
    else (if c == 2 then Plant (drawn 50 (next x))
    else (if c == 3 then Pick
    else (if c == 4 then Swap (drawn 100 (next x))
    else Yield))))

-- the piece that is drawn from state x on
abbrev pub piece : ℕ → Piece
piece x = picked (drawn 6 (next x)) (next x)

-- the state behind a piece that was picked at state x: it has gone on by one for each number
abbrev pub behind : Piece → ℕ → ℕ
behind (Push a b) x = next (next x)
behind Pop x = x
behind (Plant k) x = next x
behind Pick x = x
behind (Swap v) x = next x
behind Yield x = x

abbrev pub behind_piece : ℕ → ℕ
behind_piece x = behind (piece x) (next x)

-- n pieces, one drawn after the other, and the state behind them
abbrev pub pieces : ℕ → ℕ → List Piece
pieces zero x = []
pieces (suc n) x = piece x ∷ pieces n (behind_piece x)

abbrev pub behind_pieces : ℕ → ℕ → ℕ
behind_pieces zero x = x
behind_pieces (suc n) x = behind_pieces n (behind_piece x)
