-- The worked scenarios, by computing.
use Rattle.std.proofs.Common.{◌≡◌, ℕ, List, [], ◌∷◌, ◌++◌, refl, sym, ap, ◌∙◌, codes, arith, lit≤, lit<}
use Rattle.std.specs.Prelude.{decimal}
use Rattle.std.proofs.lemmas.Fmt.{decimal_digit, decimal_step}
use Rattle.bm_lang.specs.Spelling.{spell_scenario}
use Rattle.bm_lang.specs.Printing.{printed}
use Rattle.bm_generator.specs.declared.pieces.Piece.{Piece}
use Rattle.bm_generator.specs.declared.pieces.Piece.TheVariants.{Push, Pop, Plant, Pick, Swap, Yield}
use Rattle.bm_generator.specs.Draws.{next, drawn}
use Rattle.bm_generator.specs.Pieces.{pieces}
use Rattle.bm_generator.specs.Generated.{generated}
use Rattle.bm_generator.specs.Texts.{header_text, types_text, maps_text, scripts_text, handler_text, run_text, at_text, turns_text}
use Rattle.bm_generator.specs.Worked.{WorkedScenarios, text_1_0, scripts_1_0, pieces_2_11}
use Rattle.bm_generator.proofs.TextLemmas.{whole_text}

d7 : decimal 7 ≡ 55 ∷ []
d7 = decimal_digit 7 (lit< tt)

d36 : decimal 36 ≡ 51 ∷ 54 ∷ []
d36 = decimal_step 36 (lit≤ tt) (lit< tt) ∙ ap (λ ds. ds ++ 54 ∷ []) (decimal_digit 3 (lit< tt))

d37 : decimal 37 ≡ 51 ∷ 55 ∷ []
d37 = decimal_step 37 (lit≤ tt) (lit< tt) ∙ ap (λ ds. ds ++ 55 ∷ []) (decimal_digit 3 (lit< tt))

scripts_are : scripts_text 4 0 1 0 ≡ scripts_1_0
unfolding next drawn
scripts_are = rw (d36, d37) refl

handler_is : handler_text ++ (run_text ++ at_text) ≡ codes "script h handler {\nnew x part 7\nif x {\nxchg o spare x\nif o {\ndrop o\n}\n}\n}\nrun 0 p0\nrun 1 p1\nrun 2 p2\nrun 3 p3\nat 0 100 1 h\nat 1 200 2 h\n"
handler_is = rw d7 refl

first_is : printed (spell_scenario (generated 1 0)) ≡ text_1_0
first_is =
    let o1 = [] ++ (header_text ++ (types_text ++ maps_text)) in
    let o2 = o1 ++ scripts_1_0 in
    let o3 = o2 ++ codes "script h handler {\nnew x part 7\nif x {\nxchg o spare x\nif o {\ndrop o\n}\n}\n}\nrun 0 p0\nrun 1 p1\nrun 2 p2\nrun 3 p3\nat 0 100 1 h\nat 1 200 2 h\n" in
    let o4 = o3 ++ turns_text 1 in
    sym (whole_text 1 0 o1 o2 o3 o4 (o4 ++ 125 ∷ 10 ∷ []) (lit≤ tt) refl (ap (λ (t : List ℕ). o1 ++ t) (sym scripts_are)) (ap (λ (t : List ℕ). o2 ++ t) (sym handler_is)) refl refl)

pieces_are : pieces 8 11 ≡ pieces_2_11
unfolding next drawn
pieces_are = refl

three_are : pieces 3 11 ≡ (Swap 51) ∷ Yield ∷ (Push 34 83) ∷ []
unfolding next drawn
three_are = refl

-- a number of a piece, and of the first and the third of some
abbrev number_in : Piece → ℕ
number_in (Push a b) = a
number_in Pop = 0
number_in (Plant k) = k
number_in Pick = 0
number_in (Swap v) = v
number_in Yield = 0

abbrev first_number : List Piece → ℕ
first_number [] = 0
first_number (p ∷ ps) = number_in p

abbrev third_number : List Piece → ℕ
third_number [] = 0
third_number (p ∷ []) = 0
third_number (p ∷ r ∷ ps) = first_number ps

pub worked : WorkedScenarios
worked = record {
  first = first_is;
  all_pieces = pieces_are;
  too_early = λ e. let bad : (Swap 51) ∷ Yield ∷ (Push 34 83) ∷ [] ≡ (Push 96 51) ∷ Yield ∷ (Push 34 83) ∷ [] = sym three_are ∙ e in cc;
  number_first = λ e. let bad : (Swap 51) ∷ Yield ∷ (Push 34 83) ∷ [] ≡ Pop ∷ (Push 43 34) ∷ Pop ∷ [] = sym three_are ∙ e in cc;
  off_by_one = λ e. let bad : (Swap 51) ∷ Yield ∷ (Push 34 83) ∷ [] ≡ (Swap 85) ∷ Yield ∷ (Push 45 87) ∷ [] = sym three_are ∙ e in let no : 51 ≡ 85 = ap first_number bad in absurd (omega arith);
  turned = λ e. let bad : (Swap 51) ∷ Yield ∷ (Push 34 83) ∷ [] ≡ (Swap 51) ∷ Yield ∷ (Push 83 34) ∷ [] = sym three_are ∙ e in let no : 34 ≡ 83 = ap third_number bad in absurd (omega arith);
}
