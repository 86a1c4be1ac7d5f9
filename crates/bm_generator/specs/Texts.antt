-- The texts of a generated scenario's parts, as the code writes them. That they are what is printed of the parts is proved.
use Rattle.std.specs.Prelude.{ℕ, zero, suc, ◌+◌, List, [], ◌∷◌, ◌++◌, codes, decimal}
use Rattle.std.specs.List.{flat_map}
use Rattle.bm_generator.specs.declared.pieces.Piece.{Piece}
use Rattle.bm_generator.specs.declared.pieces.Piece.TheVariants.{Push, Pop, Plant, Pick, Swap, Yield}
use Rattle.bm_generator.specs.Pieces.{pieces, behind_pieces}

abbrev pub piece_text : Piece → List ℕ
piece_text (Push a b) =
    codes "new x job "
    ++ (decimal a ++ 32 ∷ (decimal b ++ codes "\nif x {\nlock q\npush_back q x\nunlock\n}\n"))
piece_text Pop = codes "lock q\npop_front x q\nunlock\nif x {\ndrop x\n}\n"
piece_text (Plant k) =
    codes "new x node " ++ (decimal k ++ codes "\nif x {\nlock t\nadd t x\nunlock\n}\n")
piece_text Pick = codes "lock t\nfirst f t\nremove g t f\nunlock\nif g {\ndrop g\n}\n"
piece_text (Swap v) =
    codes "new x part " ++ (decimal v ++ codes "\nif x {\nxchg o spare x\nif o {\ndrop o\n}\n}\n")
piece_text Yield = codes "yield\n"

-- what stands before the scripts
abbrev pub header_text : List ℕ
header_text = codes "scenario {\nprocessors 4\npages 64\ndeferred on\n"

abbrev pub types_text : List ℕ
types_text =
    codes "type job counted list {\na b\n}\ntype node tree {\nk\n}\ntype part counted {\nv\n}\n"

abbrev pub maps_text : List ℕ
maps_text = codes "slot spare part\nlist q job\ntree t node\n"

-- the script of a processor with these pieces
abbrev pub script_text : ℕ → List Piece → List ℕ
script_text processor ps =
    codes "script p" ++ (48 + processor)
    ∷ (codes " plain {\n" ++ (flat_map piece_text ps ++ codes "}\n"))

-- the scripts of k processors from this one on, with n pieces each, drawn from state s on
abbrev pub scripts_text : ℕ → ℕ → ℕ → ℕ → List ℕ
scripts_text zero processor n s = []
scripts_text (suc k) processor n s =
    script_text processor (pieces n s) ++ scripts_text k (processor + 1) n (behind_pieces n s)

-- the handler, and the lines that run scripts
abbrev pub handler_text : List ℕ
handler_text = codes "script h handler {\n" ++ (piece_text (Swap 7) ++ codes "}\n")

abbrev pub run_text : List ℕ
run_text = codes "run 0 p0\nrun 1 p1\nrun 2 p2\nrun 3 p3\n"

abbrev pub at_text : List ℕ
at_text = codes "at 0 100 1 h\nat 1 200 2 h\n"

-- the processors in turn, on one line
abbrev pub rounds_text : ℕ → List ℕ
rounds_text zero = []
rounds_text (suc zero) = codes "0 1 2 3\n"
rounds_text (suc (suc n)) = codes "0 1 2 3 " ++ rounds_text (suc n)

abbrev pub turns_text : ℕ → List ℕ
turns_text n = codes "turns {\n" ++ (rounds_text n ++ codes "}\n")
