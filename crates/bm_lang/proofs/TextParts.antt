-- The tokens of a text that is made of them.
use Rattle.std.proofs.Common.{◌≡◌, ℕ, suc, ◌<◌, Bool, true, false, ◌&&◌, List, [], ◌∷◌, ◌++◌, length, take, drop, refl, ap, ◌∙◌, arith, inl, inr}
use Rattle.std.specs.List.{list_all}
use Rattle.bm_word.specs.Word.{is_run_byte}
use Rattle.bm_lang.specs.declared.place.Place.{Place}
use Rattle.bm_lang.specs.Tokens.{Sort, is_separator, run_length, token_length, begins_run, sort_of, tokens, pieces, marks_of, after, StartsWithNoSeparator}
use Rattle.bm_lang.specs.Texts.{Part, AreParts, IsTokenText, text_of_parts, sorts, part_sorts, PartsAreTokens}
use Rattle.bm_lang.proofs.Scanning.{first_piece, run_byte_stays, cut_at, moved, bool_cases}

pub no_run : (b : ℕ) → is_separator b ≡ true → is_run_byte b ≡ false
no_run b h = bool_cases (is_run_byte b) (λ e. let x = run_byte_stays b e in cc) (λ e. e)

starts : (xs : List Part) → AreParts xs → begins_run (text_of_parts xs) ≡ false
starts [] h = refl
starts (x ∷ xs) h = no_run x.before h.0.0

both : (a b : Bool) → a && b ≡ true → (a ≡ true) × (b ≡ true)
both true b h = (refl, h)
both false b h = cc

run_through : (bs rest : List ℕ) → list_all is_run_byte bs ≡ true → begins_run rest ≡ false → run_length (bs ++ rest) ≡ length bs
run_through [] [] h e = refl
run_through [] (c ∷ rest) h e = rw e refl
run_through (b ∷ bs) rest h e = let p = both (is_run_byte b) (list_all is_run_byte bs) h in rw p.0 (ap suc (run_through bs rest p.1 e))

pub through : (bs rest : List ℕ) → IsTokenText bs → begins_run rest ≡ false → token_length (bs ++ rest) ≡ length bs
through [] rest h e = absurd h
through (b ∷ bs) rest (inl h) e = let p = both (is_run_byte b) (list_all is_run_byte bs) h in rw p.0 (ap suc (run_through bs rest p.1 e))
through (b ∷ bs) rest (inr h) e = rw (h.0, h.2) refl

pub clear : (bs rest : List ℕ) → IsTokenText bs → StartsWithNoSeparator (bs ++ rest)
clear [] rest h = absurd h
clear (b ∷ bs) rest (inl h) = let p = both (is_run_byte b) (list_all is_run_byte bs) h in run_byte_stays b p.0
clear (b ∷ bs) rest (inr h) = h.1

pub has_some : (bs rest : List ℕ) → IsTokenText bs → 0 < length (bs ++ rest)
has_some [] rest h = absurd h
has_some (b ∷ bs) rest h = omega arith

pub take_front : (xs ys : List ℕ) → take (length xs) (xs ++ ys) ≡ xs
take_front [] ys = refl
take_front (x ∷ xs) ys = ap (λ zs. x ∷ zs) (take_front xs ys)

pub drop_front : (xs ys : List ℕ) → drop (length xs) (xs ++ ys) ≡ ys
drop_front [] ys = refl
drop_front (x ∷ xs) ys = drop_front xs ys

parts : (xs : List Part) (p : Place) → AreParts xs → sorts (marks_of (pieces p (text_of_parts xs))) ≡ part_sorts xs
parts [] p h = refl
parts (x ∷ xs) p h =
    let rest = text_of_parts xs in
    let q = after p x.before in
    let n = through x.bytes rest h.0.1 (starts xs h.1) in
    let one : pieces p (x.before ∷ (x.bytes ++ rest)) ≡ pieces q (x.bytes ++ rest) = rw h.0.0 refl in
    let two = first_piece (x.bytes ++ rest) q (clear x.bytes rest h.0.1) (has_some x.bytes rest h.0.1) ∙ ap (cut_at q (x.bytes ++ rest)) n in
    let three : sorts (marks_of (cut_at q (x.bytes ++ rest) (length x.bytes))) ≡ sort_of x.bytes ∷ part_sorts xs =
    ap (λ (b : List ℕ). sort_of b ∷ sorts (marks_of (pieces (moved q (length x.bytes)) (drop (length x.bytes) (x.bytes ++ rest))))) (take_front x.bytes rest)
    ∙ ap (λ (b : List ℕ). sort_of x.bytes ∷ sorts (marks_of (pieces (moved q (length x.bytes)) b))) (drop_front x.bytes rest)
    ∙ ap (λ (ss : List Sort). sort_of x.bytes ∷ ss) (parts xs (moved q (length x.bytes)) h.1) in
    ap (λ ps. sorts (marks_of ps)) (one ∙ two) ∙ three

pub parts_have_tokens : PartsAreTokens
unfolding tokens
parts_have_tokens xs p h = parts xs p h
