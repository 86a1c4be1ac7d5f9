-- Texts that are made of tokens.
use Rattle.std.specs.Prelude.{◌≡◌, ℕ, true, false, List, [], ◌∷◌, ◌++◌, ◌⊎◌}
use Rattle.std.specs.List.{list_all}
use Rattle.bm_word.specs.Word.{is_run_byte}
use Rattle.bm_lang.specs.declared.place.Place.{Place}
use Rattle.bm_lang.specs.Tokens.{Sort, End, Mark, is_separator, sort_of, tokens, IsLegal}

-- one run, or one byte that is in none and no separator
abbrev pub IsTokenText : List ℕ → Type 0
IsTokenText [] = ⊥
IsTokenText (b ∷ bs) =
    (list_all is_run_byte (b ∷ bs) ≡ true)
    ⊎ ((is_run_byte b ≡ false) × (is_separator b ≡ false) × (bs ≡ []))

-- a separator and a token behind it
pub record Part : Type 0 where
  pub before : ℕ
  pub bytes : List ℕ

abbrev pub IsPart : Part → Type 0
IsPart x = (is_separator x.before ≡ true) × IsTokenText x.bytes

abbrev pub AreParts : List Part → Type 0
AreParts [] = Unit {0}
AreParts (x ∷ xs) = IsPart x × AreParts xs

abbrev pub text_of_parts : List Part → List ℕ
text_of_parts [] = []
text_of_parts (x ∷ xs) = x.before ∷ (x.bytes ++ text_of_parts xs)

-- what the tokens are, without their places
abbrev pub sorts : List Mark → List Sort
sorts [] = []
sorts (m ∷ ms) = m.sort ∷ sorts ms

abbrev pub part_sorts : List Part → List Sort
part_sorts [] = End ∷ []
part_sorts (x ∷ xs) = sort_of x.bytes ∷ part_sorts xs

-- a text of parts has their tokens
abbrev pub PartsAreTokens : Type 0
PartsAreTokens =
    (xs : List Part) (p : Place) → AreParts xs → sorts (tokens p (text_of_parts xs)) ≡ part_sorts xs

-- where a text begins changes no token
abbrev pub PlacesArePlacesAlone : Type 0
PlacesArePlacesAlone =
    (bytes : List ℕ) (p q : Place) → sorts (tokens p bytes) ≡ sorts (tokens q bytes)

abbrev pub AreLegal : List Mark → Type 0
AreLegal [] = Unit {0}
AreLegal (m ∷ ms) = IsLegal m.sort × AreLegal ms

-- the names among a text's tokens are words that aren't reserved
abbrev pub TokensAreLegal : Type 0
TokensAreLegal = (bytes : List ℕ) (p : Place) → AreLegal (tokens p bytes)
