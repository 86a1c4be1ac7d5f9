-- Numbers as decimal digits.
use Rattle.std.specs.Prelude.{◌≡◌, ℕ, ◌+◌, ◌-◌, ◌*◌, ◌^◌, ◌<◌, ◌==◌, ◌&&◌, List, [], ◌∷◌, Option, Some, None, nat_lt, if◌then◌else◌, decimal}
use Rattle.std.specs.List.{list_all}
use Rattle.std.specs.Char.{is_ascii_digit}

-- the number that decimal digits stand for, behind n
abbrev pub digits_value : ℕ → List ℕ → ℕ
digits_value n [] = n
digits_value n (b ∷ bs) = digits_value (10 * n + (b - 48)) bs

-- the number below 2 ^ 64 that decimal digits stand for behind n, if the bytes are digits and it is
abbrev pub number_behind : ℕ → List ℕ → Option ℕ
number_behind n bytes =
    if list_all is_ascii_digit bytes && nat_lt (digits_value n bytes) (2 ^ 64)
    then Some (digits_value n bytes) else None

-- the number that the bytes are in decimal digits, without a leading zero but for `0` itself
abbrev pub number_of : List ℕ → Option ℕ
number_of [] = None
number_of (b ∷ []) = number_behind 0 (b ∷ [])
number_of (b ∷ c ∷ bs) = if b == 48 then None else number_behind 0 (b ∷ c ∷ bs)

-- the digits of a number are read as it, and what is read is the digits of the number
pub record NumbersRoundTrip : Type 0 where
  pub reads : (n : ℕ) → n < 2 ^ 64 → number_of (decimal n) ≡ Some n
  pub only : (bytes : List ℕ) (n : ℕ) → number_of bytes ≡ Some n → (bytes ≡ decimal n)
