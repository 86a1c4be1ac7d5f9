-- The tokens of a text, with their places. What is a token is this project's own rule: space, tab, line feed and
-- carriage return separate tokens; a token is `{`, `}` or a longest run of ASCII letters, digits and `_`.
use Rattle.std.specs.Prelude.{◌≡◌, ℕ, suc, ◌+◌, ◌<◌, ◌^◌, Bool, false, ◌==◌, ◌||◌, ◌&&◌, List, [], ◌∷◌, length, nat_lt, if◌then◌else◌, Option, Some, None, IsTrue}
use Rattle.std.specs.Char.{is_ascii_digit}
use Rattle.bm_word.specs.Word.{is_run_byte, is_word}
use Rattle.bm_word.specs.Number.{number_of}
use Rattle.bm_lang.specs.declared.keyword.Keyword.{Keyword}
use Rattle.bm_lang.specs.declared.place.Place.{Place}
use Rattle.bm_lang.specs.declared.token.TokenFault.{TokenFault}
use Rattle.bm_lang.specs.declared.token.TokenFault.TheVariants as fault
use Rattle.bm_lang.specs.declared.token.Token.{Token}
use Rattle.bm_lang.specs.declared.token.Token.TheVariants as token
use Rattle.bm_lang.specs.declared.token.Placed.{Placed}
use Rattle.bm_lang.specs.Keywords.{keyword_of}

-- what a token is
pub data Sort : Type 0 where
  Open : Sort
  Close : Sort
  Number : (n : ℕ) → Sort
  Reserved : (word : Keyword) → Sort
  Name : (bytes : List ℕ) → Sort
  End : Sort
  Wrong : (why : TokenFault) → Sort

-- a space, a tab, a line feed, a carriage return
abbrev pub is_separator : ℕ → Bool
is_separator b = (b == 32) || (b == 9) || (b == 10) || (b == 13)

abbrev pub number_or_fault : Option ℕ → Sort
number_or_fault (Some n) = if nat_lt n (2 ^ 32) then Number n else Wrong fault.Number
number_or_fault None = Wrong fault.Number

-- a run that begins with a digit: a number below 2 ^ 32, without a leading zero but for `0` itself
abbrev pub number_sort : List ℕ → Sort
number_sort bytes = number_or_fault (number_of bytes)

abbrev pub reserved_or_name : List ℕ → Option Keyword → Sort
reserved_or_name bytes (Some word) = Reserved word
reserved_or_name bytes None = Name bytes

-- a run that begins with no digit: a word of at most 31 bytes
abbrev pub word_sort : List ℕ → Sort
word_sort bytes =
    if nat_lt 31 (length bytes) then Wrong fault.Name else reserved_or_name bytes (keyword_of bytes)

-- the sort of a brace, a run or a stray byte. No bytes are the end of the text.
abbrev pub sort_of : List ℕ → Sort
sort_of [] = End
sort_of (b ∷ bs) =
    if b == 123 then Open
    else (if b == 125 then Close
    else (if is_ascii_digit b then number_sort (b ∷ bs)
    else (if is_run_byte b then word_sort (b ∷ bs)
    else Wrong fault.Byte)))

-- the bytes of a token and the place of the first
pub record Piece : Type 0 where
  pub place : Place
  pub bytes : List ℕ

-- the place of a text's first byte
abbrev pub start : Place
start = record { line = 1; column = 1 }

-- the place behind a byte: lines are counted by line feeds, columns by bytes
abbrev pub after : Place → ℕ → Place
after p b =
    if b == 10 then record { line = p.line + 1; column = 1 }
    else record { line = p.line; column = p.column + 1 }

abbrev pub begins_run : List ℕ → Bool
begins_run [] = false
begins_run (b ∷ bs) = is_run_byte b

-- the first piece has one more byte in front
abbrev pub extended : Place → ℕ → List Piece → List Piece
extended p b [] = []
extended p b (x ∷ xs) = record { place = p; bytes = b ∷ x.bytes } ∷ xs

-- The pieces of a text whose first byte stands at p: longest runs, and single bytes that are no
-- separators. The last piece is empty, and stands behind the last byte.
abbrev pub pieces : Place → List ℕ → List Piece
pieces p [] = record { place = p; bytes = [] } ∷ []
pieces p (b ∷ bs) =
    if is_separator b then pieces (after p b) bs
    else (if is_run_byte b && begins_run bs then extended p b (pieces (after p b) bs)
    else record { place = p; bytes = b ∷ [] } ∷ pieces (after p b) bs)

-- a token with its place
pub record Mark : Type 0 where
  pub sort : Sort
  pub place : Place

abbrev pub mark_of : Piece → Mark
mark_of x = record { sort = sort_of x.bytes; place = x.place }

abbrev pub marks_of : List Piece → List Mark
marks_of [] = []
marks_of (x ∷ xs) = mark_of x ∷ marks_of xs

-- the tokens of a text whose first byte stands at p, the end of the text last
unfoldable pub tokens : Place → List ℕ → List Mark
tokens p bytes = marks_of (pieces p bytes)

-- what a token of the code is
abbrev pub sort : Token → Sort
sort token.Open = Open
sort token.Close = Close
sort (token.Number n) = Number n
sort (token.Keyword word) = Reserved word
sort (token.Name bytes) = Name bytes.now
sort token.End = End
sort (token.Wrong why) = Wrong why

abbrev pub placed : Placed → Mark
placed x = record { sort = sort x.token; place = x.place }

-- how many bytes at the front stand in a run
abbrev pub run_length : List ℕ → ℕ
run_length [] = 0
run_length (b ∷ bs) = if is_run_byte b then suc (run_length bs) else 0

-- how many bytes at the front are one run or one byte that is in none
abbrev pub token_length : List ℕ → ℕ
token_length [] = 0
token_length (b ∷ bs) = if is_run_byte b then suc (run_length bs) else 1

-- behind the end of the text nothing stands
abbrev pub behind : Sort → List Mark → List Mark
behind End more = []
behind Open more = more
behind Close more = more
behind (Number n) more = more
behind (Reserved word) more = more
behind (Name bytes) more = more
behind (Wrong why) more = more

-- the first of some tokens is x, and these stand behind it
abbrev pub Begins : List Mark → Mark → List Mark → Type 0
Begins all x more = all ≡ x ∷ behind x.sort more

-- a name is a word that isn't reserved, and a number fits 32 bits
abbrev pub IsLegal : Sort → Type 0
IsLegal Open = Unit {0}
IsLegal Close = Unit {0}
IsLegal (Number n) = n < 2 ^ 32
IsLegal (Reserved word) = Unit {0}
IsLegal (Name bytes) = IsTrue (is_word bytes) × (keyword_of bytes ≡ None)
IsLegal End = Unit {0}
IsLegal (Wrong why) = Unit {0}

abbrev pub StartsWithNoSeparator : List ℕ → Type 0
StartsWithNoSeparator [] = Unit {0}
StartsWithNoSeparator (b ∷ bs) = is_separator b ≡ false
