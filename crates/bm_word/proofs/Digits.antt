-- Digits, one after the other.
use Rattle.std.proofs.Common.{◌≡◌, ℕ, ◌+◌, ◌-◌, ◌*◌, ◌≤◌, ◌<◌, ◌^◌, Bool, true, false, cond, ◌&&◌, List, [], ◌∷◌, length, drop, get_or, refl, sym, ◌∙◌, arith, Some, None, ltb}
use Rattle.std.proofs.lemmas.Bool.Decides.{nat_tests}
use Rattle.std.proofs.lemmas.List.{at_drop_more, at_drop_all}
use Rattle.std.specs.List.{list_all}
use Rattle.std.specs.Char.{is_ascii_digit}
use Rattle.bm_word.specs.Number.{digits_value, number_behind}

value_grows : (bs : List ℕ) (n : ℕ) → n ≤ digits_value n bs
value_grows [] n = omega arith
value_grows (b ∷ bs) n = let h = value_grows bs (10 * n + (b - 48)) in omega arith

chosen_none : (a : Bool) (v : ℕ) → 2 ^ 64 ≤ v → cond (a && ltb v (2 ^ 64)) (Some v) None ≡ None
chosen_none a v h = elim a as (λ t. cond (t && ltb v (2 ^ 64)) (Some v) None ≡ None) [ true ↦ grind (arith, nat_tests) | false ↦ refl ]

-- where the number so far would go over with the next byte, the whole does
pub goes_over : (bytes : List ℕ) (n i : ℕ) → i < length bytes → number_behind n (drop i bytes) ≡ number_behind 0 bytes → 2 ^ 64 ≤ 10 * n + (get_or bytes i 0 - 48) → None ≡ number_behind 0 bytes
goes_over bytes n i lt e h =
    let b = get_or bytes i 0 in
    let rest = drop (i + 1) bytes in
    let up = value_grows rest (10 * n + (b - 48)) in
    let big : 2 ^ 64 ≤ digits_value (10 * n + (b - 48)) rest = omega arith in
    sym (chosen_none (list_all is_ascii_digit (b ∷ rest)) (digits_value (10 * n + (b - 48)) rest) big) ∙ sym (at_drop_more (number_behind n) bytes i 0 lt) ∙ e

-- where nothing is left, the number so far is the whole
pub all_read : (bytes : List ℕ) (n i : ℕ) → length bytes ≤ i → number_behind n (drop i bytes) ≡ number_behind 0 bytes → n < 2 ^ 64 → Some n ≡ number_behind 0 bytes
all_read bytes n i le e h =
    let whole : number_behind n [] ≡ Some n = grind (arith, nat_tests) in
    sym whole ∙ sym (at_drop_all (number_behind n) bytes i le) ∙ e
