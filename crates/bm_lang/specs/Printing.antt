-- The text that a scenario is printed as: its words, each with a space or a line feed behind it.
use Rattle.std.specs.Prelude.{ℕ, Bool, true, false, ◌||◌, List, [], ◌∷◌, ◌++◌, Option, Some, None, is_some, if◌then◌else◌, decimal}
use Rattle.bm_lang.specs.declared.keyword.Keyword.TheVariants as word
use Rattle.bm_lang.specs.Keywords.{keyword_text}
use Rattle.bm_lang.specs.Tokens.{Sort, Open, Close, Number, Reserved, Name, End, Wrong}
use Rattle.bm_lang.specs.Grammar.{is_word, is_open, is_close}
use Rattle.bm_lang.specs.declared.scenario.Node.{Node}
use Rattle.bm_lang.specs.Spelling.{Word, node_word}

-- the bytes of a token
abbrev pub token_text : Sort → List ℕ
token_text Open = 123 ∷ []
token_text Close = 125 ∷ []
token_text (Number n) = decimal n
token_text (Reserved w) = keyword_text w
token_text (Name bytes) = bytes
token_text End = []
token_text (Wrong why) = []

-- A word begins a line where it is a `}`, or the first of an item or a statement, or `else`.
abbrev pub begins_line : Word → Bool
begins_line w =
    is_some w.line || is_close w.sort || is_word word.Pages w.sort || is_word word.Deferred w.sort
    || is_word word.Turns w.sort || is_word word.Else w.sort

-- a line ends behind a `{`, before a word that begins one, and at the end
abbrev pub gap : Word → List Word → ℕ
gap v [] = 10
gap v (w ∷ ws) = if is_open v.sort || begins_line w then 10 else 32

abbrev pub printed : List Word → List ℕ
printed [] = []
printed (w ∷ ws) = token_text w.sort ++ gap w ws ∷ printed ws

-- some texts, with this byte behind the last
abbrev pub row_text : List (List ℕ) → ℕ → List ℕ
row_text [] behind = []
row_text (x ∷ []) behind = x ++ behind ∷ []
row_text (x ∷ y ∷ xs) behind = x ++ 32 ∷ row_text (y ∷ xs) behind

-- the lines of a type, its closing brace apart
abbrev pub counted_text : Bool → List ℕ
counted_text true = keyword_text word.Counted ++ 32 ∷ []
counted_text false = []

abbrev pub node_text : Option Node → List ℕ
node_text None = []
node_text (Some d) = keyword_text (node_word d) ++ 32 ∷ []

abbrev pub type_front : List ℕ → Bool → Option Node → List ℕ
type_front n c d =
    keyword_text word.Type ++ 32 ∷ (n ++ 32 ∷ (counted_text c ++ (node_text d ++ 123 ∷ 10 ∷ [])))

abbrev pub fields_text : List (List ℕ) → Option ℕ → List ℕ
fields_text fs None = row_text fs 10
fields_text fs (Some n) = row_text fs 32 ++ (keyword_text word.Pad ++ 32 ∷ (decimal n ++ 10 ∷ []))
