-- The reserved words of a scenario. They are this project's own.
use Rattle.std.specs.Prelude.{◌≡◌, ℕ, Bool, ◌==◌, List, [], ◌∷◌, Option, Some, codes, find, IsTrue, ◌↔◌}
use Rattle.std.specs.Str.{bytes_eq}
use Rattle.bm_lang.specs.declared.keyword.Keyword.{Keyword}
use Rattle.bm_lang.specs.declared.keyword.Keyword.TheVariants as word

-- how a word is spelled
abbrev pub keyword_text : Keyword → List ℕ
keyword_text word.Scenario = codes "scenario"
keyword_text word.Processors = codes "processors"
keyword_text word.Pages = codes "pages"
keyword_text word.Deferred = codes "deferred"
keyword_text word.On = codes "on"
keyword_text word.Off = codes "off"
keyword_text word.Type = codes "type"
keyword_text word.Counted = codes "counted"
keyword_text word.List = codes "list"
keyword_text word.Tree = codes "tree"
keyword_text word.Pad = codes "pad"
keyword_text word.Slot = codes "slot"
keyword_text word.Script = codes "script"
keyword_text word.Plain = codes "plain"
keyword_text word.Sleepable = codes "sleepable"
keyword_text word.Handler = codes "handler"
keyword_text word.Run = codes "run"
keyword_text word.At = codes "at"
keyword_text word.Turns = codes "turns"
keyword_text word.New = codes "new"
keyword_text word.Drop = codes "drop"
keyword_text word.Acquire = codes "acquire"
keyword_text word.Get = codes "get"
keyword_text word.Xchg = codes "xchg"
keyword_text word.Null = codes "null"
keyword_text word.If = codes "if"
keyword_text word.Else = codes "else"
keyword_text word.Repeat = codes "repeat"
keyword_text word.Section = codes "section"
keyword_text word.Lock = codes "lock"
keyword_text word.Unlock = codes "unlock"
keyword_text word.Yield = codes "yield"
keyword_text word.PushFront = codes "push_front"
keyword_text word.PushBack = codes "push_back"
keyword_text word.PopFront = codes "pop_front"
keyword_text word.PopBack = codes "pop_back"
keyword_text word.Add = codes "add"
keyword_text word.First = codes "first"
keyword_text word.Remove = codes "remove"
keyword_text word.Peek = codes "peek"
keyword_text word.Weak = codes "weak"

-- every reserved word, once
abbrev pub keywords : List Keyword
keywords =
    word.Scenario ∷ word.Processors ∷ word.Pages ∷ word.Deferred ∷ word.On ∷ word.Off ∷
    word.Type ∷ word.Counted ∷ word.List ∷ word.Tree ∷ word.Pad ∷ word.Slot ∷
    word.Script ∷ word.Plain ∷ word.Sleepable ∷ word.Handler ∷ word.Run ∷ word.At ∷
    word.Turns ∷ word.New ∷ word.Drop ∷ word.Acquire ∷ word.Get ∷ word.Xchg ∷
    word.Null ∷ word.If ∷ word.Else ∷ word.Repeat ∷ word.Section ∷ word.Lock ∷
    word.Unlock ∷ word.Yield ∷ word.PushFront ∷ word.PushBack ∷ word.PopFront ∷ word.PopBack ∷
    word.Add ∷ word.First ∷ word.Remove ∷ word.Peek ∷ word.Weak ∷ []

-- the reserved word with these bytes
unfoldable pub keyword_of : List ℕ → Option Keyword
keyword_of bytes = find (λ w. bytes_eq (keyword_text w) bytes) keywords

-- a word's place among the reserved words
abbrev pub keyword_code : Keyword → ℕ
keyword_code word.Scenario = 0
keyword_code word.Processors = 1
keyword_code word.Pages = 2
keyword_code word.Deferred = 3
keyword_code word.On = 4
keyword_code word.Off = 5
keyword_code word.Type = 6
keyword_code word.Counted = 7
keyword_code word.List = 8
keyword_code word.Tree = 9
keyword_code word.Pad = 10
keyword_code word.Slot = 11
keyword_code word.Script = 12
keyword_code word.Plain = 13
keyword_code word.Sleepable = 14
keyword_code word.Handler = 15
keyword_code word.Run = 16
keyword_code word.At = 17
keyword_code word.Turns = 18
keyword_code word.New = 19
keyword_code word.Drop = 20
keyword_code word.Acquire = 21
keyword_code word.Get = 22
keyword_code word.Xchg = 23
keyword_code word.Null = 24
keyword_code word.If = 25
keyword_code word.Else = 26
keyword_code word.Repeat = 27
keyword_code word.Section = 28
keyword_code word.Lock = 29
keyword_code word.Unlock = 30
keyword_code word.Yield = 31
keyword_code word.PushFront = 32
keyword_code word.PushBack = 33
keyword_code word.PopFront = 34
keyword_code word.PopBack = 35
keyword_code word.Add = 36
keyword_code word.First = 37
keyword_code word.Remove = 38
keyword_code word.Peek = 39
keyword_code word.Weak = 40

abbrev pub keyword_eq : Keyword → Keyword → Bool
keyword_eq a b = keyword_code a == keyword_code b

-- A word is found by its own spelling and by no other, and no two words are taken for one.
pub record KeywordsAreSpelled : Type 0 where
  pub found : (w : Keyword) → keyword_of (keyword_text w) ≡ Some w
  pub only : (bytes : List ℕ) (w : Keyword) → keyword_of bytes ≡ Some w → bytes ≡ keyword_text w
  pub same : (a b : Keyword) → IsTrue (keyword_eq a b) ↔ (a ≡ b)
