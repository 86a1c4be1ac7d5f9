-- What single words of a line say.
use Rattle.std.specs.Prelude.{ℕ, ◌^◌, Bool, ◌==◌, List, [], ◌∷◌, Option, Some, None, codes, length, find, nat_lt, nat_le, if◌then◌else◌}
use Rattle.std.specs.Str.{bytes_eq}
use Rattle.bm_class.specs.Sizes.{size_of_class}
use Rattle.bm_word.specs.Number.{number_of}
use Rattle.bm_word.specs.Word.{is_word}
use Rattle.bm_journal.specs.declared.ids.Domain.{Domain}
use Rattle.bm_journal.specs.declared.ids.Domain.TheVariants.{Plain, Tracing}
use Rattle.bm_journal.specs.declared.ids.ObjId.{ObjId}
use Rattle.bm_journal.specs.declared.ids.Tag.{Tag}
use Rattle.bm_journal.specs.EntryText.{Words}

-- what is read of a value that was read
abbrev pub after : {A B : Type 0} → Option A → (A → Option B) → Option B
after None f = None
after (Some x) f = f x

-- only where a test holds
abbrev pub only_if : {A : Type 0} → Bool → Option A → Option A
only_if test answer = if test then answer else None

-- only where the word is this one
abbrev pub word_is : List ℕ → List ℕ → Bool
word_is text word = bytes_eq word text

-- a number below a limit
unfoldable pub number : ℕ → List ℕ → Option ℕ
number limit word = after (number_of word) (λ n. only_if (nat_lt n limit) (Some n))

-- a name
unfoldable pub name : List ℕ → Option (List ℕ)
name word = only_if (is_word word) (Some word)

-- a class, by the size of its units
abbrev pub classes : List ℕ
classes = 0 ∷ 1 ∷ 2 ∷ 3 ∷ 4 ∷ 5 ∷ 6 ∷ 7 ∷ 8 ∷ 9 ∷ 10 ∷ []

unfoldable pub class : List ℕ → Option ℕ
class word = after (number_of word) (λ n. find (λ c. size_of_class c == n) classes)

unfoldable pub domain : List ℕ → Option Domain
domain word =
    if word_is (codes "plain") word then Some Plain
    else (if word_is (codes "tracing") word then Some Tracing else None)

-- each word read, to the end of the line
abbrev pub each_read : {A : Type 0} → (List ℕ → Option A) → Words → Option (List A)
each_read read [] = Some []
each_read read (word ∷ words) =
    after (read word) (λ x. after (each_read read words) (λ xs. Some (x ∷ xs)))

-- numbers below a limit
unfoldable pub numbers : ℕ → Words → Option (List ℕ)
numbers limit words = each_read (number limit) words

-- names
unfoldable pub names : Words → Option (List (List ℕ))
names words = each_read name words

-- the same, and so many at most
abbrev pub few : ℕ → Words → Option (List ℕ)
few most words = after (numbers (2 ^ 32) words) (λ ns. only_if (nat_le (length ns) most) (Some ns))

-- a unit and a life
abbrev pub object_id : List ℕ → List ℕ → Option ObjId
object_id u l =
    after (number (2 ^ 16) u)
    (λ u. after (number (2 ^ 32) l) (λ l. Some (record { unit = u; life = l })))

-- a call's processor and serial number
abbrev pub tag : List ℕ → List ℕ → Option Tag
tag p s =
    after (number (2 ^ 8) p)
    (λ p. after (number (2 ^ 32) s) (λ s. Some (record { processor = p; serial = s })))

-- an object or `none`, and the words after it
abbrev pub object_some : List ℕ → Words → Option (Option ObjId × Words)
object_some u (l ∷ rest) = after (object_id u l) (λ o. Some (Some o, rest))
object_some u rest = None

unfoldable pub object : Words → Option (Option ObjId × Words)
object [] = None
object (u ∷ rest) = if word_is (codes "none") u then Some (None, rest) else object_some u rest

-- a call or `start`, to the end of the line
unfoldable pub call : Words → Option (Option Tag)
call (p ∷ s ∷ []) = after (tag p s) (λ t. Some (Some t))
call (p ∷ []) = only_if (word_is (codes "start") p) (Some None)
call words = None
