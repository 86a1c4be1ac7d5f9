-- Words: what names are made of.
use Rattle.std.specs.Prelude.{ℕ, Bool, false, ◌==◌, ◌||◌, ◌&&◌, not, List, [], ◌∷◌, length, nat_le}
use Rattle.std.specs.List.{list_all}
use Rattle.std.specs.Char.{is_ascii_digit, is_ascii_alphanumeric}

-- an ASCII letter, a digit or `_`: the bytes of runs, which words and numbers are
abbrev pub is_run_byte : ℕ → Bool
is_run_byte b = is_ascii_alphanumeric b || (b == 95)

abbrev pub begins_word : List ℕ → Bool
begins_word [] = false
begins_word (b ∷ bs) = not (is_ascii_digit b)

-- a run of at most 31 bytes that doesn't begin with a digit
abbrev pub is_word : List ℕ → Bool
is_word bytes = begins_word bytes && (nat_le (length bytes) 31 && list_all is_run_byte bytes)
