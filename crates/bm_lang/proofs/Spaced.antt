-- The tokens of a text in which each word has a separator behind it, and which words are spelled by their token's text.
use Rattle.std.proofs.Common.{◌≡◌, ℕ, zero, suc, ◌<◌, ◌^◌, Bool, true, false, cond, ◌==◌, ◌&&◌, ◌||◌, List, [], ◌∷◌, ◌++◌, length, drop, get_or, refl, ap, ◌∙◌, arith, rules, Some, None, ltb, inl, inr, decimal}
use Rattle.std.proofs.lemmas.Bool.Decides.{nat_tests}
use Rattle.std.proofs.lemmas.Str.Parse.{IsNumeralModel, numerals_by_fold}
use Rattle.std.proofs.lemmas.Fmt.{digits_decimal, digits_value-decimal, decimal_digit, decimal_nonempty, first_decimal}
use Rattle.std.specs.Prelude.{IsTrue}
use Rattle.std.specs.List.{list_all}
use Rattle.std.specs.Char.{is_ascii_digit}
use Rattle.bm_word.specs.Word.{is_run_byte, is_word}
use Rattle.bm_word.specs.Number.{digits_value, number_behind, number_of}
use Rattle.bm_lang.specs.declared.place.Place.{Place}
use Rattle.bm_lang.specs.declared.keyword.Keyword.{Keyword}
use Rattle.bm_lang.specs.declared.keyword.Keyword.TheVariants as word
use Rattle.bm_lang.specs.declared.token.TokenFault.TheVariants as fault
use Rattle.bm_lang.specs.Keywords.{keyword_of, keyword_text}
use Rattle.bm_lang.specs.Tokens.{Sort, Open, Close, Number, Reserved, Name, End, Wrong, is_separator, sort_of, tokens, pieces, marks_of, after, number_or_fault, word_sort, reserved_or_name, IsLegal}
use Rattle.bm_lang.specs.Texts.{IsTokenText, sorts}
use Rattle.bm_lang.specs.Spelling.{Word, any}
use Rattle.bm_lang.specs.Printing.{token_text, gap, printed, begins_line}
use Rattle.bm_lang.specs.Grammar.{is_open}
use Rattle.bm_lang.proofs.Scanning.{first_piece, cut_at, moved}
use Rattle.bm_lang.proofs.TextParts.{no_run, through, clear, has_some, take_front, drop_front}
use Rattle.bm_lang.proofs.Spelled.{found}

-- a word whose text is its token
pub record IsPrinted (t : Sort) : Type 0 where
  pub text : IsTokenText (token_text t)
  pub sort : sort_of (token_text t) ≡ t

own : IsNumeralModel (λ ds. list_all is_ascii_digit ds ≡ true) (digits_value 0)
own = numerals_by_fold _ (search rules) digits_value (search rules)

behind_is : (ds : List ℕ) (n : ℕ) → list_all is_ascii_digit ds ≡ true → digits_value 0 ds ≡ n → n < 2 ^ 64 → number_behind 0 ds ≡ Some n
behind_is ds n all value small =
    let fits : ltb (digits_value 0 ds) (2 ^ 64) ≡ true = rw value (grind (arith, nat_tests)) in
    rw (all, fits) (ap Some value)

one_zero : (n : ℕ) → n < 2 ^ 64 → get_or (decimal n) 0 0 ≡ 48 → length (decimal n) ≡ 1
one_zero zero small first = rw (decimal_digit 0 (omega arith)) refl
one_zero (suc n) small first = absurd (omega (arith, first_decimal (suc n) (omega arith) small))

digit_runs : (b : ℕ) → is_ascii_digit b ≡ true → is_run_byte b ≡ true
digit_runs b h = grind (arith, nat_tests)

both : (a b : Bool) → a && b ≡ true → (a ≡ true) × (b ≡ true)
both true b h = (refl, h)
both false b h = cc

digits_run : (ds : List ℕ) → list_all is_ascii_digit ds ≡ true → list_all is_run_byte ds ≡ true
digits_run [] h = refl
digits_run (d ∷ ds) h = let p = both (is_ascii_digit d) (list_all is_ascii_digit ds) h in rw (digit_runs d p.0, digits_run ds p.1) refl

no_brace : (b : ℕ) → is_ascii_digit b ≡ true → ((b == 123) ≡ false) × ((b == 125) ≡ false)
no_brace b h = (grind (arith, nat_tests), grind (arith, nat_tests))

fits_32 : (n : ℕ) → n < 2 ^ 32 → number_or_fault (Some n) ≡ Number n
fits_32 n h = let e : ltb n (2 ^ 32) ≡ true = grind (arith, nat_tests) in rw e refl

digits_sort : (ds : List ℕ) (n : ℕ) → list_all is_ascii_digit ds ≡ true → number_of ds ≡ Some n → n < 2 ^ 32 → 0 < length ds → IsTokenText ds × (sort_of ds ≡ Number n)
digits_sort [] n all e h some = absurd (omega arith)
digits_sort (d ∷ ds) n all e h some =
    let p = both (is_ascii_digit d) (list_all is_ascii_digit ds) all in
    let q = no_brace d p.0 in
    (inl (digits_run (d ∷ ds) all), rw (q.0, q.1, p.0, e) (fits_32 n h))

-- bytes with no leading zero are read as their digits
plain : (ds : List ℕ) → 0 < length ds → (get_or ds 0 0 ≡ 48 → length ds ≡ 1) → number_of ds ≡ number_behind 0 ds
plain [] some one = absurd (omega arith)
plain (b ∷ []) some one = refl
plain (b ∷ c ∷ ds) some one = let no : (b == 48) ≡ false = grind (arith, nat_tests, one) in rw no refl

number_printed : (n : ℕ) → n < 2 ^ 32 → IsPrinted (Number n)
number_printed n h =
    let small : n < 2 ^ 64 = omega arith in
    let all = digits_decimal own n small in
    let reads : number_of (decimal n) ≡ Some n = plain (decimal n) (decimal_nonempty n small) (one_zero n small) ∙ behind_is (decimal n) n all (digits_value-decimal own n small) small in
    let k = digits_sort (decimal n) n all reads h (decimal_nonempty n small) in
    record { text = k.0; sort = k.1 }

no_brace_in_run : (b : ℕ) → is_run_byte b ≡ true → ((b == 123) ≡ false) × ((b == 125) ≡ false)
no_brace_in_run b h = (grind (arith, nat_tests), grind (arith, nat_tests))

word_parts : (b : ℕ) (bs : List ℕ) → IsTrue (is_word (b ∷ bs)) → (is_ascii_digit b ≡ false) × (list_all is_run_byte (b ∷ bs) ≡ true) × (ltb 31 (length (b ∷ bs)) ≡ false) × (is_run_byte b ≡ true)
word_parts b bs h = (grind (arith, nat_tests), grind (arith, nat_tests), grind (arith, nat_tests), grind (arith, nat_tests))

name_printed : (n : List ℕ) → IsTrue (is_word n) → keyword_of n ≡ None → IsPrinted (Name n)
name_printed [] h k = cc
name_printed (b ∷ bs) h k =
    let p = word_parts b bs h in
    let q = no_brace_in_run b p.3 in
    let run : sort_of (b ∷ bs) ≡ word_sort (b ∷ bs) = rw (q.0, q.1, p.3, p.0) refl in
    let short : word_sort (b ∷ bs) ≡ reserved_or_name (b ∷ bs) (keyword_of (b ∷ bs)) = ap (λ t. cond t (Wrong fault.Name) (reserved_or_name (b ∷ bs) (keyword_of (b ∷ bs)))) p.2 in
    record { text = inl p.1; sort = run ∙ short ∙ ap (reserved_or_name (b ∷ bs)) k }

keyword_sort : (w : Keyword) → IsTokenText (keyword_text w) × (sort_of (keyword_text w) ≡ reserved_or_name (keyword_text w) (keyword_of (keyword_text w)))
keyword_sort word.Scenario = (inl refl, refl)
keyword_sort w = (inl refl, refl)

keyword_printed : (w : Keyword) → IsPrinted (Reserved w)
keyword_printed w = let k = keyword_sort w in record { text = k.0; sort = k.1 ∙ ap (reserved_or_name (keyword_text w)) (found w) }

-- a token that has a text
abbrev pub prints : Sort → Bool
prints Open = true
prints Close = true
prints (Number n) = true
prints (Reserved w) = true
prints (Name n) = true
prints End = false
prints (Wrong why) = false

pub legal_printed : (t : Sort) → prints t ≡ true → IsLegal t → IsPrinted t
legal_printed Open h l = record { text = inr (refl, refl, refl); sort = refl }
legal_printed Close h l = record { text = inr (refl, refl, refl); sort = refl }
legal_printed (Number n) h l = number_printed n l
legal_printed (Reserved w) h l = keyword_printed w
legal_printed (Name n) h l = name_printed n l.0 l.1
legal_printed End h l = cc
legal_printed (Wrong why) h l = cc

abbrev pub ArePrinted : List Word → Type 0
ArePrinted [] = Unit {0}
ArePrinted (w ∷ ws) = IsPrinted w.sort × ArePrinted ws

abbrev pub word_sorts : List Word → List Sort
word_sorts [] = []
word_sorts (w ∷ ws) = w.sort ∷ word_sorts ws

gap_if : (b : Bool) → is_separator (cond b 10 32) ≡ true
gap_if true = refl
gap_if false = refl

gap_separates : (v : Word) (ws : List Word) → is_separator (gap v ws) ≡ true
gap_separates v [] = refl
gap_separates v (w ∷ ws) = gap_if (is_open v.sort || begins_line w)

spaced : (ws : List Word) (p : Place) → ArePrinted ws → sorts (marks_of (pieces p (printed ws))) ≡ word_sorts (ws ++ any End ∷ [])
spaced [] p h = refl
spaced (w ∷ ws) p h =
    let x = token_text w.sort in
    let g = gap w ws in
    let rest = g ∷ printed ws in
    let s = gap_separates w ws in
    let n = through x rest h.0.text (no_run g s) in
    let q = moved p (length x) in
    let one = first_piece (x ++ rest) p (clear x rest h.0.text) (has_some x rest h.0.text) ∙ ap (cut_at p (x ++ rest)) n in
    let two : pieces q rest ≡ pieces (after q g) (printed ws) = rw s refl in
    let three : sorts (marks_of (cut_at p (x ++ rest) (length x))) ≡ w.sort ∷ word_sorts (ws ++ any End ∷ []) =
    ap (λ (b : List ℕ). sort_of b ∷ sorts (marks_of (pieces q (drop (length x) (x ++ rest))))) (take_front x rest)
    ∙ ap (λ (b : List ℕ). sort_of x ∷ sorts (marks_of (pieces q b))) (drop_front x rest)
    ∙ ap (λ ps. sort_of x ∷ sorts (marks_of ps)) two
    ∙ ap (λ (t : Sort). t ∷ sorts (marks_of (pieces (after q g) (printed ws)))) h.0.sort
    ∙ ap (λ (ss : List Sort). w.sort ∷ ss) (spaced ws (after q g) h.1) in
    ap (λ ps. sorts (marks_of ps)) one ∙ three

pub printed_tokens : (ws : List Word) (p : Place) → ArePrinted ws → sorts (tokens p (printed ws)) ≡ word_sorts (ws ++ any End ∷ [])
unfolding tokens
printed_tokens ws p h = spaced ws p h
