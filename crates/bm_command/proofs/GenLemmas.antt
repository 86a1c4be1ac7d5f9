-- The words behind `gen` are two or three, or no command.
use Rattle.std.proofs.Common.{◌≡◌, ◌≢◌, ◌==◌, inl, inr, ℕ, ◌+◌, true, false, List, [], ◌∷◌, None, Option, Some, length, filter, refl, subst, sym, arith}
use Rattle.std.proofs.lemmas.Bool.Decides.{nat_tests}
use Rattle.std.specs.Borrow.{Bor}
use Rattle.bm_word.specs.Number.{number_of}
use Rattle.bm_command.specs.Words.{texts, is_flag, is_argument, count_of, gen_by, gen_of, gen_behind}
use Rattle.bm_command.proofs.WordLemmas.{is_or_not}

-- two arguments and at most one flag, or no command
other_counts : (flags arguments : List (List ℕ)) → length flags + length arguments ≢ 2 → length flags + length arguments ≢ 3 → gen_of flags arguments ≡ None
other_counts [] [] g h = refl
other_counts [] (one ∷ []) g h = refl
other_counts [] (one ∷ two ∷ []) g h = absurd (g refl)
other_counts [] (one ∷ two ∷ three ∷ more) g h = refl
other_counts (flag ∷ other ∷ flags) arguments g h = refl
other_counts (flag ∷ []) [] g h = refl
other_counts (flag ∷ []) (one ∷ []) g h = refl
other_counts (flag ∷ []) (one ∷ two ∷ []) g h = absurd (h refl)
other_counts (flag ∷ []) (one ∷ two ∷ three ∷ more) g h = refl

-- a flag is no number
flag_first : (b : ℕ) → (b == 45) ≡ true → b ≡ 45
flag_first b h = grind (arith, nat_tests)

pub no_number : (x : List ℕ) → is_flag x ≡ true → number_of x ≡ None
no_number [] h = cc
no_number (b ∷ []) h = (let e = flag_first b h in subst (λ n. number_of (n ∷ []) ≡ None) (sym e) refl)
no_number (b ∷ c ∷ bs) h = (let e = flag_first b h in subst (λ n. number_of (n ∷ c ∷ bs) ≡ None) (sym e) refl)

one_argument : (flag x : List ℕ) → gen_of (flag ∷ []) (x ∷ []) ≡ None
one_argument flag x = refl

-- two words behind `gen` are its numbers, without a flag
pub two_behind : (x y : List ℕ) → gen_by (count_of x) (number_of y) false ≡ gen_behind (x ∷ y ∷ [])
two_behind x y = elim (is_or_not (is_flag x)) [
  | inl flag ↦ elim (is_or_not (is_flag y)) [
    | inl other ↦ rw (flag, other, no_number x flag) refl
    | inr argument ↦ rw (flag, argument, no_number x flag) refl
  ]
  | inr argument ↦ elim (is_or_not (is_flag y)) [
    | inl flag ↦ rw (argument, flag, no_number y flag) (no_start (count_of x))
    | inr other ↦ rw (argument, other) refl
  ]
]
  where
    no_start : (count : Option ℕ) → gen_by count None false ≡ None
    no_start None = refl
    no_start (Some count) = refl

-- each word is a flag or an argument
all_words : (rest : List (List ℕ)) → length (filter is_flag rest) + length (filter is_argument rest) ≡ length rest
all_words [] = refl
all_words (x ∷ rest) = elim (is_or_not (is_flag x)) [
  | inl flag ↦ rw flag (omega (arith, all_words rest))
  | inr argument ↦ rw argument (omega (arith, all_words rest))
]

length_of_texts : (words : List (Bor (List ℕ))) → length (texts words) ≡ length words
length_of_texts [] = refl
length_of_texts (word ∷ words) = omega (arith, length_of_texts words)

pub other_length : (rest : List (Bor (List ℕ))) → length rest ≢ 2 → length rest ≢ 3 → None ≡ gen_behind (texts rest)
other_length rest g h =
    let all = all_words (texts rest) in
    let long = length_of_texts rest in
    let not_two : length (filter is_flag (texts rest)) + length (filter is_argument (texts rest)) ≢ 2 = λ two. g (omega (arith, all, long, two)) in
    let not_three : length (filter is_flag (texts rest)) + length (filter is_argument (texts rest)) ≢ 3 = λ three. h (omega (arith, all, long, three)) in
    rw (other_counts (filter is_flag (texts rest)) (filter is_argument (texts rest)) not_two not_three) refl
