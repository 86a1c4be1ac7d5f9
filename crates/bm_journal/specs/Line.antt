-- Lines of a journal: words with single spaces between them, and a line feed.
use Rattle.std.specs.Prelude.{ℕ, List, [], ◌∷◌, ◌++◌}

-- words, each behind a space
abbrev pub spaced : List (List ℕ) → List ℕ
spaced [] = []
spaced (word ∷ words) = (32 ∷ word) ++ spaced words

-- a line: its first word, the others behind it, and a line feed
unfoldable pub line : List ℕ → List (List ℕ) → List ℕ
line word words = word ++ (spaced words ++ 10 ∷ [])
