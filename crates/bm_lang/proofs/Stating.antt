-- Statements, one after the other.
use Rattle.std.proofs.Common.{◌≡◌, ℕ, zero, suc, false, List, [], ◌∷◌, ◌++◌, refl, sym, ap, ◌∙◌, subst, append_assoc, Err, Some, None, length, ◌<◌, arith}
use Rattle.std.specs.Prelude.{if◌then◌else◌}
use Rattle.bm_lang.specs.declared.keyword.Keyword.{Keyword}
use Rattle.bm_lang.specs.declared.keyword.Keyword.TheVariants as word
use Rattle.bm_lang.specs.declared.place.Place.{Place}
use Rattle.bm_lang.specs.declared.fault.BadKind.TheVariants as kind
use Rattle.bm_lang.specs.declared.fault.LangFault.{LangFault}
use Rattle.bm_lang.specs.declared.fault.LangFault.TheVariants.{Bad, NoMemory}
use Rattle.bm_lang.specs.Tokens.{Close, Number, Reserved, Mark}
use Rattle.bm_lang.specs.Names.{Names, TypeForm, MapForm}
use Rattle.bm_lang.specs.Grammar.{Symbol, Refuse, Pass, next, refusal, is_word, is_name, is_number, statement_step, statement_body, is_later, Statements, CloseBrace, NameOrNull, Values}
use Rattle.bm_lang.specs.declared.token.Token.{Token}
use Rattle.bm_lang.specs.declared.token.Token.TheVariants as token
use Rattle.bm_lang.specs.declared.token.Placed.{Placed}
use Rattle.bm_lang.specs.Tokens.{sort, placed, behind}
use Rattle.bm_lang.specs.declared.scenario.Action.{Action, New, Drop, Acquire, Get, Exchange, If', Repeat, Section, Lock, Unlock, Yield, PushFront, PushBack, PopFront, PopBack, Add, First, Remove}
use Rattle.bm_lang.specs.Fine.{FineAction}
use Rattle.bm_lang.specs.Machine.{read_token, parse, bad}
use Rattle.bm_lang.specs.Spelling.{Word, on, number, spell_action}
use Rattle.bm_lang.specs.Reads.{mark, Spells, Read, Fails, Gets, Absent}
use Rattle.std.proofs.lemmas.List.{append-nil}
use Rattle.bm_lang.specs.Others.{IsSimple, IsOther}
use Rattle.bm_lang.proofs.Scanning.{bool_cases}
use Rattle.bm_lang.proofs.Steps.{shifts, read_shift, fails_here, fails_pass, more, refuses, passes, spells_strictly, read_nothing, no_values}

pub no_value : (names : Names) (a : List Mark) (k : List Symbol) → parse a names (Values zero ∷ k) ≡ parse a names k
unfolding parse read_token
no_value names [] k = refl
no_value names (m ∷ more) k = refl

-- no values are left to read
pub no_more_values : (names : Names) (a : List Mark) → Read names (Values zero ∷ []) names [] [] (Unit {0}) a a
no_more_values names a = record { grammar = no_value names a; spelled = refl; fine = tt }

-- neither a name nor `null`
pub no_name_or_null : {X : Type 0} (e : LangFault) (f : X → Mark) (old mid new : List Mark) (names : Names) (g : List Symbol) → Absent (is_word word.Null) old mid → Gets {X = X} (Err e) f is_name mid new → Fails e names (NameOrNull ∷ g) old
no_name_or_null NoMemory f old mid new names g h p = tt
no_name_or_null (Bad b) f old mid new names g h p =
    let two : h.front ∷ h.more ≡ p.0 ∷ p.1 = sym h.front_is ∙ sym h.stays ∙ p.2 in
    let one : h.front ≡ p.0 = cc in
    let null : is_word word.Null p.0.sort ≡ false = ap (λ (m : Mark). is_word word.Null m.sort) (sym one) ∙ h.other in
    λ k. refuses old p.1 p.0 names NameOrNull (g ++ k) (refusal p.0.sort) b (sym h.stays ∙ p.2) (rw (p.3, null) refl) p.4

-- a statement behind its word
pub statement : {names : Names} {ws : List Word} {F G : Type 0} {old new : List Mark} (d : ℕ) (w : Keyword) (p : Place) (body : List Symbol) → statement_body d w ≡ Some body → Read names body names [] ws F old new → (F → G)
    → Read names (Statements d ∷ []) names (Statements d ∷ []) (on p.line (Reserved w) ∷ ws) G (mark (Reserved w) p ∷ old) new
statement {names = names} {ws = ws} {F = F} {G = G} {old = old} {new = new} d w p body h r t =
    let P : List Symbol → Type 0 = λ f. Read names f names (Statements d ∷ []) ws F old new in
    read_shift names names names (Statements d) (body ++ Statements d ∷ []) [] (Statements d ∷ []) (mark (Reserved w) p) (on p.line (Reserved w)) ws F G _ old new refl (ap (statement_step names d w) h) refl refl
    (subst P (sym (append-nil (body ++ Statements d ∷ []))) (more (Statements d ∷ []) r)) t

pub statement_fails : (e : LangFault) (names : Names) (d : ℕ) (w : Keyword) (p : Place) (old : List Mark) (body : List Symbol) → statement_body d w ≡ Some body → Fails e names body old → Fails e names (Statements d ∷ CloseBrace ∷ []) (mark (Reserved w) p ∷ old)
statement_fails NoMemory names d w p old body h f = tt
statement_fails (Bad b) names d w p old body h f = λ k.
    shifts _ old (mark (Reserved w) p) names names (Statements d) (body ++ Statements d ∷ []) (CloseBrace ∷ k) refl (ap (statement_step names d w) h)
    ∙ ap (parse old names) (append_assoc body (Statements d ∷ []) (CloseBrace ∷ k)) ∙ f (Statements d ∷ CloseBrace ∷ k)

-- a word that begins no statement
pub other_body : (d : ℕ) (w : Keyword) → IsOther w → (w ≡ word.Lock → ⊥) → (w ≡ word.PushFront → ⊥) → (w ≡ word.PushBack → ⊥) → (w ≡ word.PopFront → ⊥) → (w ≡ word.PopBack → ⊥) → (w ≡ word.Add → ⊥) → (w ≡ word.First → ⊥) → (w ≡ word.Remove → ⊥) → statement_body d w ≡ None
other_body d word.Lock h a1 a2 a3 a4 a5 a6 a7 a8 = absurd (a1 refl)
other_body d word.PushFront h a1 a2 a3 a4 a5 a6 a7 a8 = absurd (a2 refl)
other_body d word.PushBack h a1 a2 a3 a4 a5 a6 a7 a8 = absurd (a3 refl)
other_body d word.PopFront h a1 a2 a3 a4 a5 a6 a7 a8 = absurd (a4 refl)
other_body d word.PopBack h a1 a2 a3 a4 a5 a6 a7 a8 = absurd (a5 refl)
other_body d word.Add h a1 a2 a3 a4 a5 a6 a7 a8 = absurd (a6 refl)
other_body d word.First h a1 a2 a3 a4 a5 a6 a7 a8 = absurd (a7 refl)
other_body d word.Remove h a1 a2 a3 a4 a5 a6 a7 a8 = absurd (a8 refl)
other_body d word.If h a1 a2 a3 a4 a5 a6 a7 a8 = absurd h
other_body d word.Repeat h a1 a2 a3 a4 a5 a6 a7 a8 = absurd h
other_body d word.Section h a1 a2 a3 a4 a5 a6 a7 a8 = absurd h
other_body d word.New h a1 a2 a3 a4 a5 a6 a7 a8 = absurd h
other_body d word.Drop h a1 a2 a3 a4 a5 a6 a7 a8 = absurd h
other_body d word.Acquire h a1 a2 a3 a4 a5 a6 a7 a8 = absurd h
other_body d word.Get h a1 a2 a3 a4 a5 a6 a7 a8 = absurd h
other_body d word.Xchg h a1 a2 a3 a4 a5 a6 a7 a8 = absurd h
other_body d word.Unlock h a1 a2 a3 a4 a5 a6 a7 a8 = absurd h
other_body d word.Yield h a1 a2 a3 a4 a5 a6 a7 a8 = absurd h
other_body d w h a1 a2 a3 a4 a5 a6 a7 a8 = refl

pub no_statement : (e : LangFault) (names : Names) (d : ℕ) (w : Keyword) (p : Place) (old : List Mark) → statement_body d w ≡ None → e ≡ Bad (bad p (if is_later w then kind.NotYet else kind.Unexpected)) → Fails e names (Statements d ∷ CloseBrace ∷ []) (mark (Reserved w) p ∷ old)
no_statement e names d w p old h q =
    bool_cases (is_later w)
    (λ t. fails_here _ old (mark (Reserved w) p) names (Statements d) (CloseBrace ∷ []) kind.NotYet e refl (rw (h, t) refl) (q ∙ ap (λ b. Bad (bad p (if b then kind.NotYet else kind.Unexpected))) t))
    (λ t. fails_pass e _ old (mark (Reserved w) p) names (Statements d) (CloseBrace ∷ []) refl (rw (h, t) refl)
    (fails_here _ old (mark (Reserved w) p) names CloseBrace [] kind.Unexpected e refl refl (q ∙ ap (λ b. Bad (bad p (if b then kind.NotYet else kind.Unexpected))) t)))

pub is_simple : (w : Keyword) → (w ≡ word.If → ⊥) → (w ≡ word.Repeat → ⊥) → (w ≡ word.Section → ⊥) → IsSimple w
is_simple word.If a b c = a refl
is_simple word.Repeat a b c = b refl
is_simple word.Section a b c = c refl
is_simple w a b c = tt

pub is_other : (w : Keyword) → IsSimple w → (w ≡ word.New → ⊥) → (w ≡ word.Drop → ⊥) → (w ≡ word.Acquire → ⊥) → (w ≡ word.Get → ⊥) → (w ≡ word.Xchg → ⊥) → (w ≡ word.Unlock → ⊥) → (w ≡ word.Yield → ⊥) → IsOther w
is_other word.New h a b c d e f g = a refl
is_other word.Drop h a b c d e f g = b refl
is_other word.Acquire h a b c d e f g = c refl
is_other word.Get h a b c d e f g = d refl
is_other word.Xchg h a b c d e f g = e refl
is_other word.Unlock h a b c d e f g = f refl
is_other word.Yield h a b c d e f g = g refl
is_other w h a b c d e f g = h

-- the brace behind the last statement
pub read_pass_close : (names : Names) (d : ℕ) (p : Place) (a b : List Mark) (l : ℕ) → l ≡ p.line → a ≡ mark Close p ∷ b → Read names (Statements d ∷ CloseBrace ∷ []) names [] (on l Close ∷ []) (Unit {0}) a b
read_pass_close names d p a b l h e = record {
  grammar = λ k. passes a b (mark Close p) names (Statements d) (CloseBrace ∷ k) e refl ∙ shifts a b (mark Close p) names names CloseBrace [] k e refl;
  spelled = (p, b, e, h, refl);
  fine = tt;
}

-- neither a word nor a brace
pub not_word : (e : LangFault) (a : List Mark) (names : Names) (d : ℕ) (x : Placed) (more : List Mark) → a ≡ placed x ∷ behind (sort x.token) more → ((w : Keyword) → x.token ≡ token.Keyword w → ⊥) → (x.token ≡ token.Close → ⊥)
    → e ≡ Bad (bad x.place (refusal (sort x.token))) → Fails e names (Statements d ∷ CloseBrace ∷ []) a
not_word e a names d x more h k c q = fails_pass e _ _ (placed x) names (Statements d) (CloseBrace ∷ []) h (passed x.token k) (fails_here _ _ (placed x) names CloseBrace [] (refusal (sort x.token)) e h (refused x.token c) q)
  where
    passed : (t : Token) → ((w : Keyword) → t ≡ token.Keyword w → ⊥) → next names (Statements d) (sort t) ≡ Pass
    passed token.Open k = refl
    passed token.Close k = refl
    passed (token.Number n) k = refl
    passed (token.Keyword w) k = absurd (k w refl)
    passed (token.Name n) k = refl
    passed token.End k = refl
    passed (token.Wrong why) k = refl

    refused : (t : Token) → (t ≡ token.Close → ⊥) → next names CloseBrace (sort t) ≡ Refuse (refusal (sort t))
    refused token.Open c = refl
    refused token.Close c = absurd (c refl)
    refused (token.Number n) c = refl
    refused (token.Keyword w) c = refl
    refused (token.Name n) c = refl
    refused token.End c = refl
    refused (token.Wrong why) c = refl

some_words : (ws : List Word) (a b : List Mark) → 0 < length ws → Spells a ws b → length b < length a
some_words [] a b h p = absurd (omega arith)
some_words (w ∷ ws) a b h p = spells_strictly w ws a b p

-- a statement has a word
has_word : (types : List TypeForm) (maps : List MapForm) (l : ℕ) (x : Action) → 0 < length (spell_action types maps l x)
has_word types maps l (New y t values) = omega arith
has_word types maps l (Drop y) = omega arith
has_word types maps l (Acquire y z) = omega arith
has_word types maps l (Get y f) = omega arith
has_word types maps l (Exchange y s z) = omega arith
has_word types maps l (If' y body otherwise) = omega arith
has_word types maps l (Repeat n body) = omega arith
has_word types maps l (Section body) = omega arith
has_word types maps l (Lock g) = omega arith
has_word types maps l Unlock = omega arith
has_word types maps l Yield = omega arith
has_word types maps l (PushFront q y) = omega arith
has_word types maps l (PushBack q y) = omega arith
has_word types maps l (PopFront y q) = omega arith
has_word types maps l (PopBack y q) = omega arith
has_word types maps l (Add t y) = omega arith
has_word types maps l (First y t) = omega arith
has_word types maps l (Remove y t z) = omega arith

pub statement_shorter : (types : List TypeForm) (maps : List MapForm) (d l : ℕ) (x : Action) (a b : List Mark) (names : Names) → Read names (Statements d ∷ []) names (Statements d ∷ []) (spell_action types maps l x) (FineAction types maps d x) a b → length b < length a
statement_shorter types maps d l x a b names r = some_words (spell_action types maps l x) a b (has_word types maps l x) r.spelled

-- one value, and none
pub one_value : (names : Names) (m n v : ℕ) (p : Place) (a b : List Mark) → m ≡ suc n → a ≡ mark (Number v) p ∷ b → Read names (Values m ∷ []) names (Values n ∷ []) (number v ∷ []) (Unit {0}) a b
one_value names m n v p a b k e = rw k (read_shift names names names (Values (suc n)) (Values n ∷ []) [] (Values n ∷ []) (mark (Number v) p) (number v) [] (Unit {0}) (Unit {0}) a b b e refl refl tt (read_nothing names (Values n ∷ []) b b refl) (λ u. u))

pub last_value : (names : Names) (m : ℕ) (a : List Mark) → m ≡ 0 → Read names (Values m ∷ []) names [] [] (Unit {0}) a a
last_value names m a k = rw k (no_more_values names a)

pub missing_value : {X : Type 0} (e : LangFault) (f : X → Mark) (old new : List Mark) (names : Names) (m n : ℕ) → m ≡ suc n → Gets {X = X} (Err e) f is_number old new → Fails e names (Values m ∷ []) old
missing_value e f old new names m n k p = rw k (no_values e f old new names n [] p)

pub first_value : (names : Names) (m n : ℕ) (a : List Mark) → n ≡ m → Read names (Values m ∷ []) names (Values n ∷ []) [] (Unit {0}) a a
first_value names m n a k = rw k (read_nothing names (Values m ∷ []) a a refl)
