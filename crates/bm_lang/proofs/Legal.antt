-- The bytes of a name are a word that isn't reserved.
use Rattle.std.proofs.Common.{◌≡◌, ℕ, suc, ◌<◌, ◌^◌, Bool, true, false, cond, ◌==◌, ◌&&◌, List, [], ◌∷◌, length, take, refl, arith, subst, Option, Some, None, ltb}
use Rattle.std.proofs.lemmas.Bool.Decides.{nat_tests}
use Rattle.std.specs.Prelude.{IsTrue}
use Rattle.std.specs.List.{list_all}
use Rattle.std.specs.Char.{is_ascii_digit}
use Rattle.bm_word.specs.Word.{is_run_byte, is_word}
use Rattle.bm_word.specs.Number.{number_of}
use Rattle.bm_lang.specs.declared.keyword.Keyword.{Keyword}
use Rattle.bm_lang.specs.declared.token.TokenFault.TheVariants as fault
use Rattle.bm_lang.specs.Keywords.{keyword_of}
use Rattle.bm_lang.specs.Tokens.{Sort, Open, Close, Number, Wrong, sort_of, number_sort, word_sort, number_or_fault, reserved_or_name, run_length, token_length, IsLegal, Piece, pieces, extended, after, begins_run, is_separator, marks_of, tokens}
use Rattle.bm_lang.specs.declared.place.Place.{Place}
use Rattle.bm_lang.specs.Texts.{AreLegal, TokensAreLegal}
use Rattle.bm_lang.proofs.Scanning.{bool_cases, run_piece}

legal_if : (t : Bool) (x y : Sort) → (t ≡ true → IsLegal x) → (t ≡ false → IsLegal y) → IsLegal (cond t x y)
legal_if true x y p q = p refl
legal_if false x y p q = q refl

below_32 : (n : ℕ) → ltb n (2 ^ 32) ≡ true → n < 2 ^ 32
below_32 n e = grind (arith, nat_tests)

legal_number : (n : Option ℕ) → IsLegal (number_or_fault n)
legal_number (Some n) = legal_if (ltb n (2 ^ 32)) (Number n) (Wrong fault.Number) (below_32 n) (λ e. tt)
legal_number None = tt

legal_word : (bytes : List ℕ) (w : Option Keyword) → keyword_of bytes ≡ w → IsTrue (is_word bytes) → IsLegal (reserved_or_name bytes w)
legal_word bytes (Some w) e h = tt
legal_word bytes None e h = (h, e)

-- a run of at most 31 bytes that begins with no digit is a word
word : (b : ℕ) (bs : List ℕ) → is_ascii_digit b ≡ false → ltb 31 (length (b ∷ bs)) ≡ false → list_all is_run_byte (b ∷ bs) ≡ true → IsTrue (is_word (b ∷ bs))
word b bs d s r = grind (arith, nat_tests)

-- one run, or one byte that is in none
legal_token : (b : ℕ) (bs : List ℕ) → (is_run_byte b ≡ true → list_all is_run_byte (b ∷ bs) ≡ true) → IsLegal (sort_of (b ∷ bs))
legal_token b bs run =
    legal_if (b == 123) Open _ (λ e. tt) (λ opens.
    legal_if (b == 125) Close _ (λ e. tt) (λ closes.
    legal_if (is_ascii_digit b) (number_sort (b ∷ bs)) _ (λ e. legal_number (number_of (b ∷ bs))) (λ digit.
    legal_if (is_run_byte b) (word_sort (b ∷ bs)) (Wrong fault.Byte) (λ first.
    legal_if (ltb 31 (length (b ∷ bs))) (Wrong fault.Name) (reserved_or_name (b ∷ bs) (keyword_of (b ∷ bs))) (λ e. tt) (λ short.
    legal_word (b ∷ bs) (keyword_of (b ∷ bs)) refl (word b bs digit short (run first))))
    (λ e. tt))))

run_front : (bs : List ℕ) → list_all is_run_byte (take (run_length bs) bs) ≡ true
run_front [] = refl
run_front (b ∷ bs) =
    bool_cases (is_run_byte b) (λ e. rw (e, e) (run_front bs)) (λ e. rw e refl)

-- the first token of some bytes is legal
pub legal_front : (bs front : List ℕ) (n : ℕ) → 0 < length bs → n ≡ token_length bs → front ≡ take n bs → IsLegal (sort_of front)
legal_front [] front n lt t f = absurd (omega arith)
legal_front (b ∷ bs) front n lt t f =
    bool_cases (is_run_byte b)
    (λ e. let s : token_length (b ∷ bs) ≡ suc (run_length bs) = rw e refl in
    rw (f, t, s) (legal_token b (take (run_length bs) bs) (λ h. rw e (run_front bs))))
    (λ e. let s : token_length (b ∷ bs) ≡ 1 = rw e refl in
    rw (f, t, s) (legal_token b [] (λ h. cc)))

legal_either : (t : Bool) (xs ys : List Piece) → (t ≡ true → AreLegal (marks_of xs)) → (t ≡ false → AreLegal (marks_of ys)) → AreLegal (marks_of (cond t xs ys))
legal_either true xs ys p q = p refl
legal_either false xs ys p q = q refl

and_first : (a b : Bool) → a && b ≡ true → a ≡ true
and_first true b h = refl
and_first false b h = cc

and_second : (a b : Bool) → a && b ≡ true → b ≡ true
and_second true b h = h
and_second false b h = cc

-- one more byte in front of a run
legal_extended : (p q : Place) (b : ℕ) (bs : List ℕ) → is_run_byte b ≡ true → begins_run bs ≡ true → AreLegal (marks_of (pieces q bs)) → AreLegal (marks_of (extended p b (pieces q bs)))
legal_extended p q b [] r e h = cc
legal_extended p q b (c ∷ bs) r e h =
    let first = run_piece bs q c e in
    let rest = subst (λ xs. AreLegal (marks_of xs)) first h in
    let whole : list_all is_run_byte (b ∷ c ∷ take (run_length bs) bs) ≡ true = rw (r, e) (run_front bs) in
    rw first (legal_token b (c ∷ take (run_length bs) bs) (λ _. whole), rest.1)

legal_pieces : (bs : List ℕ) (p : Place) → AreLegal (marks_of (pieces p bs))
legal_pieces [] p = (tt, tt)
legal_pieces (b ∷ bs) p =
    let rest = legal_pieces bs (after p b) in
    legal_either (is_separator b) _ _ (λ e. rest) (λ stays.
    legal_either (is_run_byte b && begins_run bs) _ _
    (λ e. legal_extended p (after p b) b bs (and_first (is_run_byte b) (begins_run bs) e) (and_second (is_run_byte b) (begins_run bs) e) rest)
    (λ e. (legal_token b [] (λ h. rw h refl), rest)))

pub legal_tokens : TokensAreLegal
unfolding tokens
legal_tokens bytes p = legal_pieces bytes p
