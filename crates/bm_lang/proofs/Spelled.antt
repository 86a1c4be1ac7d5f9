-- Each reserved word is found by its own spelling.
use Rattle.std.proofs.Common.{◌≡◌, ℕ, Bool, true, List, [], ◌∷◌, Some, refl, sym, ap, ◌∙◌, arith}
use Rattle.std.proofs.lemmas.Bool.Decides.{nat_tests}
use Rattle.std.proofs.lemmas.Slice.Eq.{bytes_eq-Decides}
use Rattle.std.specs.Prelude.{IsTrue, find, slice_get}
use Rattle.std.specs.Str.{bytes_eq}
use Rattle.bm_lang.specs.declared.keyword.Keyword.{Keyword}
use Rattle.bm_lang.specs.declared.keyword.Keyword.TheVariants as word
use Rattle.bm_lang.specs.Keywords.{keyword_of, keyword_text, keyword_code, keyword_eq, keywords, KeywordsAreSpelled}
use Rattle.bm_lang.proofs.Scanning.{bool_cases}

pub found : (w : Keyword) → keyword_of (keyword_text w) ≡ Some w
unfolding keyword_of
found word.Scenario = refl
found word.Processors = refl
found word.Pages = refl
found word.Deferred = refl
found word.On = refl
found word.Off = refl
found word.Type = refl
found word.Counted = refl
found word.List = refl
found word.Tree = refl
found word.Pad = refl
found word.Slot = refl
found word.Script = refl
found word.Plain = refl
found word.Sleepable = refl
found word.Handler = refl
found word.Run = refl
found word.At = refl
found word.Turns = refl
found word.New = refl
found word.Drop = refl
found word.Acquire = refl
found word.Get = refl
found word.Xchg = refl
found word.Null = refl
found word.If = refl
found word.Else = refl
found word.Repeat = refl
found word.Section = refl
found word.Lock = refl
found word.Unlock = refl
found word.Yield = refl
found word.PushFront = refl
found word.PushBack = refl
found word.PopFront = refl
found word.PopBack = refl
found word.Add = refl
found word.First = refl
found word.Remove = refl
found word.Peek = refl
found word.Weak = refl

some_is : {X : Type 0} (x y : X) → Some x ≡ Some y → x ≡ y
some_is x y e = cc

-- what is found passes the test
found_passes : {X : Type 0} (test : X → Bool) (xs : List X) (x : X) → find test xs ≡ Some x → test x ≡ true
found_passes test [] x e = cc
found_passes test (y ∷ ys) x e =
    bool_cases (test y)
    (λ t. let s : Some y ≡ Some x = sym (let h : find test (y ∷ ys) ≡ Some y = rw t refl in h) ∙ e in
    ap test (sym (some_is y x s)) ∙ t)
    (λ t. found_passes test ys x (sym (let h : find test (y ∷ ys) ≡ find test ys = rw t refl in h) ∙ e))

pub only : (bytes : List ℕ) (w : Keyword) → keyword_of bytes ≡ Some w → bytes ≡ keyword_text w
unfolding keyword_of
only bytes w e = sym ((bytes_eq-Decides (keyword_text w) bytes).0 (found_passes (λ v. bytes_eq (keyword_text v) bytes) keywords w e))

at_code : (w : Keyword) → slice_get keywords (keyword_code w) ≡ Some w
at_code word.Scenario = refl
at_code word.Processors = refl
at_code word.Pages = refl
at_code word.Deferred = refl
at_code word.On = refl
at_code word.Off = refl
at_code word.Type = refl
at_code word.Counted = refl
at_code word.List = refl
at_code word.Tree = refl
at_code word.Pad = refl
at_code word.Slot = refl
at_code word.Script = refl
at_code word.Plain = refl
at_code word.Sleepable = refl
at_code word.Handler = refl
at_code word.Run = refl
at_code word.At = refl
at_code word.Turns = refl
at_code word.New = refl
at_code word.Drop = refl
at_code word.Acquire = refl
at_code word.Get = refl
at_code word.Xchg = refl
at_code word.Null = refl
at_code word.If = refl
at_code word.Else = refl
at_code word.Repeat = refl
at_code word.Section = refl
at_code word.Lock = refl
at_code word.Unlock = refl
at_code word.Yield = refl
at_code word.PushFront = refl
at_code word.PushBack = refl
at_code word.PopFront = refl
at_code word.PopBack = refl
at_code word.Add = refl
at_code word.First = refl
at_code word.Remove = refl
at_code word.Peek = refl
at_code word.Weak = refl

same_code : (a b : Keyword) → IsTrue (keyword_eq a b) → a ≡ b
same_code a b e =
    let codes : keyword_code a ≡ keyword_code b = grind (arith, nat_tests) in
    some_is a b (sym (at_code a) ∙ ap (slice_get keywords) codes ∙ at_code b)

own_code : (a b : Keyword) → a ≡ b → IsTrue (keyword_eq a b)
own_code a b e =
    let codes : keyword_code a ≡ keyword_code b = ap keyword_code e in
    grind (arith, nat_tests)

pub keywords_spelled : KeywordsAreSpelled
keywords_spelled = record { found = found; only = only; same = λ a b. (same_code a b, own_code a b) }
