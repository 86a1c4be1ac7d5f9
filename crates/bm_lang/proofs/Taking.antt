-- What taking a token leaves.
use Rattle.std.proofs.Common.{◌≡◌, ℕ, ◌+◌, ◌<◌, ◌^◌, Bool, true, false, cond, ◌==◌, List, [], ◌∷◌, length, take, drop, refl, sym, ap, ◌∙◌, arith, Option, Some, None, ltb}
use Rattle.std.specs.Char.{is_ascii_digit}
use Rattle.bm_word.specs.Word.{is_run_byte}
use Rattle.bm_word.specs.Number.{number_of}
use Rattle.bm_lang.specs.declared.place.Place.{Place}
use Rattle.bm_lang.specs.declared.keyword.Keyword.{Keyword}
use Rattle.bm_lang.specs.declared.token.TokenFault.TheVariants as fault
use Rattle.bm_lang.specs.Keywords.{keyword_of}
use Rattle.bm_lang.specs.Tokens.{Sort, Open, Close, Number, End, Wrong, Mark, marks_of, sort_of, behind, number_sort, word_sort, number_or_fault, reserved_or_name, token_length, Piece, pieces, StartsWithNoSeparator}
use Rattle.bm_lang.proofs.Scanning.{moved, cut_at, first_piece}

behind_if : (t : Bool) (x y : Sort) (more : List Mark) → behind x more ≡ more → behind y more ≡ more → behind (cond t x y) more ≡ more
behind_if true x y more p q = p
behind_if false x y more p q = q

behind_number : (n : Option ℕ) (more : List Mark) → behind (number_or_fault n) more ≡ more
behind_number (Some n) more = behind_if (ltb n (2 ^ 32)) (Number n) (Wrong fault.Number) more refl refl
behind_number None more = refl

behind_word : (bytes : List ℕ) (w : Option Keyword) (more : List Mark) → behind (reserved_or_name bytes w) more ≡ more
behind_word bytes (Some w) more = refl
behind_word bytes None more = refl

-- what has bytes is not the end
behind_token : (bs : List ℕ) (more : List Mark) → 0 < length bs → behind (sort_of bs) more ≡ more
behind_token [] more lt = absurd (omega arith)
behind_token (b ∷ bs) more lt =
    let word = behind_if (ltb 31 (length (b ∷ bs))) (Wrong fault.Name) (reserved_or_name (b ∷ bs) (keyword_of (b ∷ bs))) more refl (behind_word (b ∷ bs) (keyword_of (b ∷ bs)) more) in
    let run = behind_if (is_run_byte b) (word_sort (b ∷ bs)) (Wrong fault.Byte) more word refl in
    behind_if (b == 123) Open _ more refl
    (behind_if (b == 125) Close _ more refl
    (behind_if (is_ascii_digit b) (number_sort (b ∷ bs)) _ more (behind_number (number_of (b ∷ bs)) more) run))

pub takes_end : (old : List Piece) (p : Place) (bs : List ℕ) → pieces p bs ≡ old → length bs ≡ 0 → marks_of old ≡ record { sort = End; place = p } ∷ []
takes_end old p [] e h = ap marks_of (sym e)
takes_end old p (b ∷ bs) e h = absurd (omega arith)

pub takes_token : (old : List Piece) (p : Place) (bs front back : List ℕ) (n : ℕ) (s : Sort) → pieces p bs ≡ old → StartsWithNoSeparator bs → 0 < length bs → n ≡ token_length bs
    → front ≡ take n bs → back ≡ drop n bs → length front ≡ n → 0 < n → s ≡ sort_of front
    → marks_of old ≡ record { sort = s; place = p } ∷ behind s (marks_of (pieces (record { line = p.line; column = p.column + length front }) back))
takes_token old p bs front back n s e clear lt t f b l pos k =
    let one : pieces p bs ≡ cut_at p bs n = first_piece bs p clear lt ∙ ap (cut_at p bs) (sym t) in
    let two = ap marks_of (sym e ∙ one) in
    let lf : 0 < length front = omega arith in
    let stays = behind_token front (marks_of (pieces (moved p n) back)) lf in
    rw (k, l, two, stays, ← f, ← b) refl

-- what has bytes is not the end of the text
pub is_no_end : (bs : List ℕ) → 0 < length bs → sort_of bs ≡ End → ⊥
is_no_end bs lt e =
    let m : Mark = record { sort = End; place = record { line = 1; column = 1 } } in
    let none : [] ≡ m ∷ [] = ap (λ s. behind s (m ∷ [])) (sym e) ∙ behind_token bs (m ∷ []) lt in
    cc
