-- The text of a generated scenario isn't too long to be read.
use Rattle.std.proofs.Common.{◌≡◌, ℕ, zero, suc, ◌+◌, ◌*◌, ◌<◌, ◌≤◌, ◌/◌, ◌%◌, ◌==◌, List, [], ◌∷◌, ◌++◌, length, length-append, refl, ap, arith, lit≤, lit<, codes}
use Rattle.std.specs.Prelude.{decimal, nat_lt}
use Rattle.std.specs.List.{flat_map}
use Rattle.std.proofs.lemmas.Bool.Decides.{nat_tests}
use Rattle.std.proofs.lemmas.Fmt.{decimal_digit, decimal_step}
use Rattle.bm_lang.specs.Spelling.{spell_scenario}
use Rattle.bm_lang.specs.Printing.{printed}
use Rattle.bm_generator.specs.declared.pieces.Piece.{Piece}
use Rattle.bm_generator.specs.declared.pieces.Piece.TheVariants as piece
use Rattle.bm_generator.specs.Draws.{drawn, next}
use Rattle.bm_generator.specs.Pieces.{picked, piece as drawn_piece, behind_piece, pieces, behind_pieces}
use Rattle.bm_generator.specs.Generated.{generated}
use Rattle.bm_generator.specs.Texts.{piece_text, header_text, types_text, maps_text, script_text, scripts_text, handler_text, run_text, at_text, rounds_text, turns_text}
use Rattle.bm_generator.proofs.TextLemmas.{whole_text}
use Rattle.bm_generator.proofs.ReadBackLemmas.{below, bool_cases}

-- a number of at most two digits
number_short : (k : ℕ) → k < 100 → length (decimal k) ≤ 2
number_short k h =
    bool_cases (nat_lt k 10)
    (λ e. let small : k < 10 = grind (arith, nat_tests) in omega (arith, ap (λ (t : List ℕ). length t) (decimal_digit k small)))
    (λ e. let great : 10 ≤ k = grind (arith, nat_tests) in
    omega (arith, ap (λ (t : List ℕ). length t) (decimal_step k great (omega arith)), length-append (decimal (k / 10)) ((48 + k % 10) ∷ []), ap (λ (t : List ℕ). length t) (decimal_digit (k / 10) (omega arith))))

-- ---- pieces

abbrev IsFew : Piece → Type 0
IsFew (piece.Push a b) = (a < 100) × (b < 100)
IsFew piece.Pop = Unit {0}
IsFew (piece.Plant k) = k < 100
IsFew piece.Pick = Unit {0}
IsFew (piece.Swap v) = v < 100
IsFew piece.Yield = Unit {0}

few : (k s : ℕ) → 0 < k → k ≤ 100 → drawn k s < 100
few k s some h = omega (arith, below k s some)

picked_few : (c s : ℕ) → IsFew (picked c s)
picked_few c s =
    bool_cases (c == 0) (λ e. rw e (few 100 (next s) (lit< tt) (lit≤ tt), few 100 (next (next s)) (lit< tt) (lit≤ tt))) (λ e0.
    bool_cases (c == 1) (λ e. rw (e0, e) tt) (λ e1.
    bool_cases (c == 2) (λ e. rw (e0, e1, e) (few 50 (next s) (lit< tt) (lit≤ tt))) (λ e2.
    bool_cases (c == 3) (λ e. rw (e0, e1, e2, e) tt) (λ e3.
    bool_cases (c == 4) (λ e. rw (e0, e1, e2, e3, e) (few 100 (next s) (lit< tt) (lit≤ tt))) (λ e4. rw (e0, e1, e2, e3, e4) tt)))))

-- a number between two texts
around : (m : ℕ) (a c : List ℕ) (k : ℕ) → k < 100 → length a + 2 + length c ≤ m → length (a ++ (decimal k ++ c)) ≤ m
around m a c k h le = omega (arith, length-append a (decimal k ++ c), length-append (decimal k) c, number_short k h)

piece_short : (p : Piece) → IsFew p → length (piece_text p) ≤ 60
piece_short (piece.Push a b) h =
    let rest = 32 ∷ (decimal b ++ codes "\nif x {\nlock q\npush_back q x\nunlock\n}\n") in
    let r : length rest ≤ 45 = around 45 (32 ∷ []) (codes "\nif x {\nlock q\npush_back q x\nunlock\n}\n") b h.1 (lit≤ tt) in
    around 60 (codes "new x job ") rest a h.0 (omega arith)
piece_short piece.Pop h = lit≤ tt
piece_short (piece.Plant k) h = around 60 (codes "new x node ") (codes "\nif x {\nlock t\nadd t x\nunlock\n}\n") k h (lit≤ tt)
piece_short piece.Pick h = lit≤ tt
piece_short (piece.Swap v) h = around 60 (codes "new x part ") (codes "\nif x {\nxchg o spare x\nif o {\ndrop o\n}\n}\n") v h (lit≤ tt)
piece_short piece.Yield h = lit≤ tt

pieces_short : (n s : ℕ) → length (flat_map piece_text (pieces n s)) ≤ 60 * n
pieces_short zero s = lit≤ tt
pieces_short (suc n) s =
    omega (arith, length-append (piece_text (drawn_piece s)) (flat_map piece_text (pieces n (behind_piece s))), piece_short (drawn_piece s) (picked_few (drawn 6 (next s)) (next s)), pieces_short n (behind_piece s))

-- ---- the whole

script_short : (p n s : ℕ) → length (script_text p (pieces n s)) ≤ 60 * n + 20
script_short p n s = omega (arith, length-append (flat_map piece_text (pieces n s)) (codes "}\n"), pieces_short n s)

scripts_short : (n s : ℕ) → length (scripts_text 4 0 n s) ≤ 240 * n + 80
scripts_short n s =
    let s1 = behind_pieces n s in
    let s2 = behind_pieces n s1 in
    let s3 = behind_pieces n s2 in
    let t0 = script_text 0 (pieces n s) in let t1 = script_text 1 (pieces n s1) in let t2 = script_text 2 (pieces n s2) in let t3 = script_text 3 (pieces n s3) in
    four t0 t1 t2 t3 (60 * n + 20) (240 * n + 80) (script_short 0 n s) (script_short 1 n s1) (script_short 2 n s2) (script_short 3 n s3) (omega arith)
  where
    four : (a b c d : List ℕ) (m k : ℕ) → length a ≤ m → length b ≤ m → length c ≤ m → length d ≤ m → m + m + m + m ≤ k → length (a ++ (b ++ (c ++ (d ++ [])))) ≤ k
    four a b c d m k ha hb hc hd le = omega (arith, length-append a (b ++ (c ++ (d ++ []))), length-append b (c ++ (d ++ [])), length-append c (d ++ []), length-append d [])

rounds_short : (n : ℕ) → length (rounds_text n) ≤ 8 * n
rounds_short zero = lit≤ tt
rounds_short (suc zero) = lit≤ tt
rounds_short (suc (suc n)) = omega (arith, rounds_short (suc n))

turns_short : (n : ℕ) → length (turns_text n) ≤ 8 * n + 10
turns_short n = omega (arith, length-append (rounds_text n) (codes "}\n"), rounds_short n)

-- the handler's text and the lines that run scripts
lines_short : length (handler_text ++ (run_text ++ at_text)) ≤ 200
lines_short =
    let h : length handler_text ≤ 90 = handler_short in
    omega (arith, length-append handler_text (run_text ++ at_text))
  where
    handler_short : length handler_text ≤ 90
    handler_short = omega (arith, length-append (piece_text (piece.Swap 7)) (codes "}\n"), piece_short (piece.Swap 7) (lit< tt))

pub text_short : (n s : ℕ) → n ≤ 2000 → length (printed (spell_scenario (generated n s))) ≤ 1048576
text_short n s h =
    let o1 = [] ++ (header_text ++ (types_text ++ maps_text)) in
    let o2 = o1 ++ scripts_text 4 0 n s in
    let o3 = o2 ++ (handler_text ++ (run_text ++ at_text)) in
    let o4 = o3 ++ turns_text n in
    let e = whole_text n s o1 o2 o3 o4 (o4 ++ 125 ∷ 10 ∷ []) h refl refl refl refl refl in
    short_text (header_text ++ (types_text ++ maps_text)) (scripts_text 4 0 n s) (handler_text ++ (run_text ++ at_text)) (turns_text n) (125 ∷ 10 ∷ []) (printed (spell_scenario (generated n s))) n h (lit≤ tt) (scripts_short n s) lines_short (turns_short n) (lit≤ tt) e
  where
    short_text : (a b c d e t : List ℕ) (n : ℕ) → n ≤ 2000 → length a ≤ 300 → length b ≤ 240 * n + 80 → length c ≤ 200 → length d ≤ 8 * n + 10 → length e ≤ 2 → (((([] ++ a) ++ b) ++ c) ++ d) ++ e ≡ t → length t ≤ 1048576
    short_text a b c d e t n h ha hb hc hd he is =
        omega (arith, ap (λ (x : List ℕ). length x) is, length-append a b, length-append (a ++ b) c, length-append ((a ++ b) ++ c) d, length-append (((a ++ b) ++ c) ++ d) e)
