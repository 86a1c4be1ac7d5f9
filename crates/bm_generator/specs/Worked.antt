-- Two generated scenarios, whose texts were worked out by `tools/second_generator.py`, and neighbours that they aren't.
use Rattle.std.specs.Prelude.{◌≡◌, ℕ, List, [], ◌∷◌, ◌++◌, codes}
use Rattle.bm_lang.specs.Spelling.{spell_scenario}
use Rattle.bm_lang.specs.Printing.{printed}
use Rattle.bm_generator.specs.declared.pieces.Piece.{Piece}
use Rattle.bm_generator.specs.declared.pieces.Piece.TheVariants.{Push, Pop, Plant, Pick, Swap, Yield}
use Rattle.bm_generator.specs.Pieces.{pieces}
use Rattle.bm_generator.specs.Generated.{generated}

-- what stands before the first script of each
abbrev pub front : List ℕ
front =
    codes
    "scenario {\nprocessors 4\npages 64\ndeferred on\ntype job counted list {\na b\n}\ntype node tree {\nk\n}\ntype part counted {\nv\n}\nslot spare part\nlist q job\ntree t node\n"

-- .. and behind the last, up to the turns
abbrev pub back : List ℕ
back =
    codes
    "script h handler {\nnew x part 7\nif x {\nxchg o spare x\nif o {\ndrop o\n}\n}\n}\nrun 0 p0\nrun 1 p1\nrun 2 p2\nrun 3 p3\nat 0 100 1 h\nat 1 200 2 h\nturns {\n"

-- `gen 1 0`
abbrev pub scripts_1_0 : List ℕ
scripts_1_0 =
    codes
    "script p0 plain {\nyield\n}\nscript p1 plain {\nnew x job 37 36\nif x {\nlock q\npush_back q x\nunlock\n}\n}\nscript p2 plain {\nyield\n}\nscript p3 plain {\nyield\n}\n"

abbrev pub text_1_0 : List ℕ
text_1_0 = front ++ (scripts_1_0 ++ (back ++ codes "0 1 2 3\n}\n}\n"))

-- the pieces of `gen 2 11`, all scripts together
abbrev pub pieces_2_11 : List Piece
pieces_2_11 = (Swap 51) ∷ Yield ∷ (Push 34 83) ∷ Pop ∷ (Push 40 63) ∷ Pick ∷ Yield ∷ (Plant 1) ∷ []

pub record WorkedScenarios : Type 0 where
  -- the text of `gen 1 0`
  pub first : printed (spell_scenario (generated 1 0)) ≡ text_1_0
  -- each of the six pieces, with its numbers
  pub all_pieces : pieces 8 11 ≡ pieces_2_11
  -- what comes where a number is taken before the state has gone on
  pub too_early : (pieces 3 11 ≡ (Push 96 51) ∷ Yield ∷ (Push 34 83) ∷ []) → ⊥
  -- .. where a number is drawn before the piece is picked
  pub number_first : (pieces 3 11 ≡ Pop ∷ (Push 43 34) ∷ Pop ∷ []) → ⊥
  -- .. where numbers are taken modulo 101 and 51
  pub off_by_one : (pieces 3 11 ≡ (Swap 85) ∷ Yield ∷ (Push 45 87) ∷ []) → ⊥
  -- .. where a job has its two values the other way round
  pub turned : (pieces 3 11 ≡ (Swap 51) ∷ Yield ∷ (Push 83 34) ∷ []) → ⊥
