-- The first piece of a text.
use Rattle.std.proofs.Common.{◌≡◌, ℕ, suc, ◌+◌, ◌≤◌, ◌<◌, Bool, true, false, cond, ◌==◌, List, [], ◌∷◌, length, take, drop, refl, sym, ap, ◌∙◌, arith}
use Rattle.std.proofs.lemmas.Bool.Decides.{nat_tests}
use Rattle.bm_word.specs.Word.{is_run_byte}
use Rattle.bm_lang.specs.declared.place.Place.{Place}
use Rattle.bm_lang.specs.Tokens.{is_separator, run_length, token_length, Piece, pieces, extended, after, StartsWithNoSeparator}

-- the place n bytes on, on the same line
abbrev pub moved : Place → ℕ → Place
moved p n = record { line = p.line; column = p.column + n }

pub run_length-bound : (bs : List ℕ) → run_length bs ≤ length bs
run_length-bound [] = omega arith
run_length-bound (b ∷ bs) = elim (is_run_byte b) as (λ t. cond t (suc (run_length bs)) 0 ≤ suc (length bs)) [ true ↦ let h = run_length-bound bs in omega arith | false ↦ omega arith ]

pub bool_cases : {A : Type 0} (t : Bool) → (t ≡ true → A) → (t ≡ false → A) → A
bool_cases {A} t f g = (elim t as (λ v. (v ≡ true → A) → (v ≡ false → A) → A) [ true ↦ λ y n. y refl | false ↦ λ y n. n refl ]) f g

pub run_byte_stays : (b : ℕ) → is_run_byte b ≡ true → is_separator b ≡ false
run_byte_stays b h = grind (arith, nat_tests)

no_line_feed : (b : ℕ) → is_separator b ≡ false → (b == 10) ≡ false
no_line_feed b h = grind (arith, nat_tests)

moved_on : (p : Place) (n : ℕ) → moved (moved p 1) n ≡ moved p (suc n)
moved_on p n =
    let e : p.column + 1 + n ≡ p.column + suc n = omega arith in
    ap (λ (k : ℕ). let r : Place = record { line = p.line; column = k } in r) e

after_is : (p : Place) (b : ℕ) → is_separator b ≡ false → after p b ≡ moved p 1
after_is p b h = rw (no_line_feed b h) refl

-- the pieces of b ∷ cs where the first has k bytes behind b
abbrev pub cut : Place → ℕ → List ℕ → ℕ → List Piece
cut p b cs k = record { place = p; bytes = b ∷ take k cs } ∷ pieces (moved p (suc k)) (drop k cs)

abbrev in_front : Place → List ℕ → List Piece → List Piece
in_front p bytes xs = record { place = p; bytes = bytes } ∷ xs

-- a longest run is the first piece
pub run_piece : (bs : List ℕ) (p : Place) (b : ℕ) → is_run_byte b ≡ true → pieces p (b ∷ bs) ≡ cut p b bs (run_length bs)
run_piece [] p b h = rw (run_byte_stays b h, h, after_is p b (run_byte_stays b h)) refl
run_piece (c ∷ bs) p b h =
    let s = run_byte_stays b h in
    let a = after_is p b s in
    let n = run_length bs in
    let inside : is_run_byte c ≡ true → pieces p (b ∷ c ∷ bs) ≡ cut p b (c ∷ bs) (run_length (c ∷ bs)) = λ e.
    let one : pieces p (b ∷ c ∷ bs) ≡ extended p b (pieces (after p b) (c ∷ bs)) = rw (s, h, e) refl in
    let two = ap (extended p b) (run_piece bs (after p b) c e) in
    let three : pieces (moved (after p b) (suc n)) (drop n bs) ≡ pieces (moved p (suc (suc n))) (drop n bs) =
    ap (λ q. pieces q (drop n bs)) (ap (λ q. moved q (suc n)) a ∙ moved_on p (suc n)) in
    let four : run_length (c ∷ bs) ≡ suc n = rw e refl in
    one ∙ two ∙ ap (in_front p (b ∷ c ∷ take n bs)) three ∙ sym (ap (cut p b (c ∷ bs)) four) in
    let outside : is_run_byte c ≡ false → pieces p (b ∷ c ∷ bs) ≡ cut p b (c ∷ bs) (run_length (c ∷ bs)) = λ e.
    let one : pieces p (b ∷ c ∷ bs) ≡ in_front p (b ∷ []) (pieces (after p b) (c ∷ bs)) = rw (s, h, e) refl in
    let two = ap (in_front p (b ∷ [])) (ap (λ q. pieces q (c ∷ bs)) a) in
    let four : run_length (c ∷ bs) ≡ 0 = rw e refl in
    one ∙ two ∙ sym (ap (cut p b (c ∷ bs)) four) in
    bool_cases (is_run_byte c) inside outside

-- the pieces of some bytes where the first has n of them
abbrev pub cut_at : Place → List ℕ → ℕ → List Piece
cut_at p bs n = record { place = p; bytes = take n bs } ∷ pieces (moved p n) (drop n bs)

-- the first piece of bytes that begin with no separator
pub first_piece : (bs : List ℕ) (p : Place) → StartsWithNoSeparator bs → 0 < length bs → pieces p bs ≡ cut_at p bs (token_length bs)
first_piece [] p s lt = absurd (omega arith)
first_piece (b ∷ bs) p s lt =
    let inside : is_run_byte b ≡ true → pieces p (b ∷ bs) ≡ cut_at p (b ∷ bs) (token_length (b ∷ bs)) = λ e.
    let four : token_length (b ∷ bs) ≡ suc (run_length bs) = rw e refl in
    run_piece bs p b e ∙ sym (ap (cut_at p (b ∷ bs)) four) in
    let outside : is_run_byte b ≡ false → pieces p (b ∷ bs) ≡ cut_at p (b ∷ bs) (token_length (b ∷ bs)) = λ e.
    let one : pieces p (b ∷ bs) ≡ in_front p (b ∷ []) (pieces (after p b) bs) = rw (s, e) refl in
    let two = ap (in_front p (b ∷ [])) (ap (λ q. pieces q bs) (after_is p b s)) in
    let four : token_length (b ∷ bs) ≡ 1 = rw e refl in
    one ∙ two ∙ sym (ap (cut_at p (b ∷ bs)) four) in
    bool_cases (is_run_byte b) inside outside
