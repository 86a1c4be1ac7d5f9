-- Tokens that aren't of a sort.
use Rattle.std.proofs.Common.{◌≡◌, ℕ, Bool, true, false, List, [], ◌∷◌, refl}
use Rattle.std.specs.Prelude.{◌||◌}
use Rattle.bm_lang.specs.declared.keyword.Keyword.{Keyword}
use Rattle.bm_lang.specs.declared.keyword.Keyword.TheVariants as word
use Rattle.bm_lang.specs.declared.fault.LangFault.{LangFault}
use Rattle.bm_lang.specs.declared.fault.LangFault.TheVariants.{Bad}
use Rattle.bm_lang.specs.declared.token.Token.{Token}
use Rattle.bm_lang.specs.declared.token.Token.TheVariants as token
use Rattle.bm_lang.specs.declared.token.Placed.{Placed}
use Rattle.bm_lang.specs.Tokens.{Sort, Open, Close, Number, Reserved, Name, End, Wrong, Mark, sort, placed, behind}
use Rattle.bm_lang.specs.Names.{Names}
use Rattle.bm_lang.specs.Grammar.{Symbol, Refuse, next, refusal, is_word, KindOfScript, OnOrOff, EndOfText}
use Rattle.bm_lang.specs.Machine.{bad}
use Rattle.bm_lang.specs.Reads.{Fails}
use Rattle.bm_lang.proofs.Steps.{fails_here}

abbrev pub is_reserved : Sort → Bool
is_reserved (Reserved w) = true
is_reserved Open = false
is_reserved Close = false
is_reserved (Number n) = false
is_reserved (Name n) = false
is_reserved End = false
is_reserved (Wrong why) = false

not_reserved : (t : Token) → ((w : Keyword) → t ≡ token.Keyword w → ⊥) → is_reserved (sort t) ≡ false
not_reserved token.Open k = refl
not_reserved token.Close k = refl
not_reserved (token.Number n) k = refl
not_reserved (token.Keyword w) k = absurd (k w refl)
not_reserved (token.Name n) k = refl
not_reserved token.End k = refl
not_reserved (token.Wrong why) k = refl

-- no word, where one is needed
pub no_keyword : (e : LangFault) (a : List Mark) (names : Names) (x : Symbol) (t : Placed) (more : List Mark) → a ≡ placed t ∷ behind (sort t.token) more → ((w : Keyword) → t.token ≡ token.Keyword w → ⊥)
    → ((s : Sort) → is_reserved s ≡ false → next names x s ≡ Refuse (refusal s)) → e ≡ Bad (bad t.place (refusal (sort t.token))) → Fails e names (x ∷ []) a
no_keyword e a names x t more h k n q = fails_here _ _ (placed t) names x [] (refusal (sort t.token)) e h (n (sort t.token) (not_reserved t.token k)) q

pub word_needed : (names : Names) (n : List ℕ) (s : Sort) → is_reserved s ≡ false → next names (KindOfScript n) s ≡ Refuse (refusal s)
word_needed names n (Reserved w) h = cc
word_needed names n Open h = refl
word_needed names n Close h = refl
word_needed names n (Number m) h = refl
word_needed names n (Name m) h = refl
word_needed names n End h = refl
word_needed names n (Wrong why) h = refl

pub on_needed : (names : Names) (s : Sort) → is_reserved s ≡ false → next names OnOrOff s ≡ Refuse (refusal s)
on_needed names (Reserved w) h = cc
on_needed names Open h = refl
on_needed names Close h = refl
on_needed names (Number m) h = refl
on_needed names (Name m) h = refl
on_needed names End h = refl
on_needed names (Wrong why) h = refl

pub other_word : (w : Keyword) → (w ≡ word.On → ⊥) → (w ≡ word.Off → ⊥) → is_word word.On (Reserved w) || is_word word.Off (Reserved w) ≡ false
other_word word.On a b = absurd (a refl)
other_word word.Off a b = absurd (b refl)
other_word w a b = refl

end_needed : (names : Names) (t : Token) → (t ≡ token.End → ⊥) → next names EndOfText (sort t) ≡ Refuse (refusal (sort t))
end_needed names token.Open k = refl
end_needed names token.Close k = refl
end_needed names (token.Number n) k = refl
end_needed names (token.Keyword w) k = refl
end_needed names (token.Name n) k = refl
end_needed names token.End k = absurd (k refl)
end_needed names (token.Wrong why) k = refl

-- something behind the last brace
pub no_end : (e : LangFault) (a : List Mark) (names : Names) (t : Placed) (more : List Mark) → a ≡ placed t ∷ behind (sort t.token) more → (t.token ≡ token.End → ⊥) → e ≡ Bad (bad t.place (refusal (sort t.token))) → Fails e names (EndOfText ∷ []) a
no_end e a names t more h k q = fails_here _ _ (placed t) names EndOfText [] (refusal (sort t.token)) e h (end_needed names t.token k) q
