-- Numbers and their digits.
use Rattle.std.proofs.Common.{◌≡◌, ℕ, zero, suc, ◌<◌, ◌^◌, Bool, true, false, cond, ◌==◌, ◌&&◌, List, [], ◌∷◌, length, get_or, refl, sym, ap, ◌∙◌, arith, rules, Some, None, ltb, decimal}
use Rattle.std.proofs.lemmas.Bool.Decides.{nat_tests}
use Rattle.std.proofs.lemmas.Str.Parse.{IsNumeralModel, numerals_by_fold}
use Rattle.std.proofs.lemmas.Fmt.{digits_decimal, digits_value-decimal, decimal-digits_value, decimal_digit, decimal_nonempty, first_decimal}
use Rattle.std.specs.List.{list_all}
use Rattle.std.specs.Char.{is_ascii_digit}
use Rattle.bm_word.specs.Number.{digits_value, number_behind, number_of, NumbersRoundTrip}

own : IsNumeralModel (λ ds. list_all is_ascii_digit ds ≡ true) (digits_value 0)
own = numerals_by_fold _ (search rules) digits_value (search rules)

-- bytes with no leading zero are read as their digits
plain : (ds : List ℕ) → 0 < length ds → (get_or ds 0 0 ≡ 48 → length ds ≡ 1) → number_of ds ≡ number_behind 0 ds
plain [] some one = absurd (omega arith)
plain (b ∷ []) some one = refl
plain (b ∷ c ∷ ds) some one = let no : (b == 48) ≡ false = grind (arith, nat_tests, one) in rw no refl

behind_is : (ds : List ℕ) (n : ℕ) → list_all is_ascii_digit ds ≡ true → digits_value 0 ds ≡ n → n < 2 ^ 64 → number_behind 0 ds ≡ Some n
behind_is ds n all value small =
    let fits : ltb (digits_value 0 ds) (2 ^ 64) ≡ true = rw value (grind (arith, nat_tests)) in
    rw (all, fits) (ap Some value)

one_zero : (n : ℕ) → n < 2 ^ 64 → get_or (decimal n) 0 0 ≡ 48 → length (decimal n) ≡ 1
one_zero zero small first = rw (decimal_digit 0 (omega arith)) refl
one_zero (suc n) small first = absurd (omega (arith, first_decimal (suc n) (omega arith) small))

reads : (n : ℕ) → n < 2 ^ 64 → number_of (decimal n) ≡ Some n
reads n small = plain (decimal n) (decimal_nonempty n small) (one_zero n small) ∙ behind_is (decimal n) n (digits_decimal own n small) (digits_value-decimal own n small) small

-- what is read behind 0 is the digits of the number
chosen : (a : Bool) (v n : ℕ) → cond (a && ltb v (2 ^ 64)) (Some v) None ≡ Some n → (a ≡ true) × (v < 2 ^ 64) × (v ≡ n)
chosen true v n h = grind (arith, nat_tests)
chosen false v n h = cc

digits_back : (ds : List ℕ) (n : ℕ) → 0 < length ds → (get_or ds 0 0 ≡ 48 → length ds ≡ 1) → number_behind 0 ds ≡ Some n → ds ≡ decimal n
digits_back ds n some one h =
    let k = chosen (list_all is_ascii_digit ds) (digits_value 0 ds) n h in
    sym (decimal-digits_value own ds k.0 some one k.1) ∙ ap decimal k.2

only : (bytes : List ℕ) (n : ℕ) → number_of bytes ≡ Some n → bytes ≡ decimal n
only [] n h = cc
only (b ∷ []) n h = digits_back (b ∷ []) n (omega arith) (λ _. refl) h
only (b ∷ c ∷ ds) n h =
    let case : (t : Bool) → (b == 48) ≡ t → cond t None (number_behind 0 (b ∷ c ∷ ds)) ≡ Some n → (b ∷ c ∷ ds) ≡ decimal n = λ t e k.
    (elim t as (λ v. (b == 48) ≡ v → cond v None (number_behind 0 (b ∷ c ∷ ds)) ≡ Some n → (b ∷ c ∷ ds) ≡ decimal n)
    [ true ↦ λ e k. cc | false ↦ λ e k. digits_back (b ∷ c ∷ ds) n (omega arith) (λ z. absurd (grind (arith, nat_tests))) k ]) e k in
    case (b == 48) refl h

pub round_trip : NumbersRoundTrip
round_trip = record { reads = reads; only = only }
