-- Steps of the machine, and how what was read in parts was read as a whole.
use Rattle.std.proofs.Common.{◌≡◌, ℕ, suc, Bool, true, false, List, [], ◌∷◌, ◌++◌, refl, sym, ap, ◌∙◌, subst, append_assoc, Result, Err, Option, Some, None, arith, ◌≤◌, ◌<◌, length}
use Rattle.std.specs.Prelude.{IsErrAnd, IfSome, is_some}
use Rattle.std.proofs.lemmas.Result.{err_from_is_err_and}
use Rattle.std.proofs.lemmas.Bool.Decides.{nat_tests}
use Rattle.bm_lang.specs.declared.keyword.Keyword.{Keyword}
use Rattle.bm_lang.specs.declared.fault.BadText.{BadText}
use Rattle.bm_lang.specs.declared.fault.BadKind.{BadKind}
use Rattle.bm_lang.specs.declared.fault.LangFault.{LangFault}
use Rattle.bm_lang.specs.declared.fault.LangFault.TheVariants.{Bad, NoMemory}
use Rattle.bm_lang.specs.declared.keyword.Keyword.TheVariants as word
use Rattle.bm_lang.specs.declared.scenario.MapKind.{MapKind}
use Rattle.bm_lang.specs.declared.scenario.MapKind.TheVariants as map_kind
use Rattle.bm_lang.specs.declared.scenario.Node.{Node}
use Rattle.bm_lang.specs.declared.scenario.Node.TheVariants as node
use Rattle.bm_lang.specs.declared.scenario.ScriptKind.{ScriptKind}
use Rattle.bm_lang.specs.declared.scenario.ScriptKind.TheVariants as script_kind
use Rattle.bm_lang.specs.declared.names.MapNeed.{MapNeed}
use Rattle.bm_lang.specs.Tokens.{Sort, Open, Close, Number, Reserved, Name, End, Wrong, Mark}
use Rattle.bm_lang.specs.Names.{Names}
use Rattle.bm_lang.specs.Grammar as symbol
use Rattle.bm_lang.specs.Grammar.{Symbol, Step, Refuse, Pass, Shift, next, refusal, needed, may, need_name, need_number, need_word, may_word, may_name, may_number, is_word, is_open, is_close, is_name, is_number, statement_step, statement_body, Statements}
use Rattle.bm_lang.specs.Machine.{read_token, parse, bad}
use Rattle.bm_lang.specs.Spelling.{Word, any, node_word, map_word, script_word}
use Rattle.bm_lang.specs.Reads.{mark, begins_node, begins_map, Spells, Read, Fails, Reading, Stating, Gets, Absent}

pub shifts : (a new : List Mark) (m : Mark) (names n : Names) (x : Symbol) (ys k : List Symbol) → a ≡ m ∷ new → next names x m.sort ≡ Shift n ys → parse a names (x ∷ k) ≡ parse new n (ys ++ k)
unfolding parse read_token
shifts a new m names n x ys k e h = rw (e, h) refl

pub refuses : (a new : List Mark) (m : Mark) (names : Names) (x : Symbol) (k : List Symbol) (why : BadKind) (f : BadText) → a ≡ m ∷ new → next names x m.sort ≡ Refuse why → f ≡ bad m.place why → parse a names (x ∷ k) ≡ Some f
unfolding parse read_token
refuses a new m names x k why f e h g = rw (e, h, g) refl

pub passes : (a new : List Mark) (m : Mark) (names : Names) (x : Symbol) (k : List Symbol) → a ≡ m ∷ new → next names x m.sort ≡ Pass → parse a names (x ∷ k) ≡ parse a names k
unfolding parse read_token
passes a new m names x k e h = rw (e, h) refl

-- an answer that is an error
pub failed : {X : Type 0} (r : Result X LangFault) (e : LangFault) (names : Names) (f : List Symbol) (after : X → Names) (words : X → List Word) (fine : X → Type 0) (old new : List Mark)
    → IsErrAnd r (λ y. y ≡ e) → Fails e names f old → Reading r names f after words fine old new
failed r e names f after words fine old new h g = let p = err_from_is_err_and r h in rw (p.1, p.2) g

pub failed_statement : {X : Type 0} (r : Result X LangFault) (e : LangFault) (names : Names) (d : ℕ) (words : X → List Word) (fine : X → Type 0) (old new : List Mark)
    → IsErrAnd r (λ y. y ≡ e) → Fails e names (Statements d ∷ symbol.CloseBrace ∷ []) old → Stating r names d words fine old new
failed_statement r e names d words fine old new h g = let p = err_from_is_err_and r h in rw (p.1, p.2) g

-- a fault at the first of some symbols
pub fails_first : (e : LangFault) (names : Names) (x : Symbol) (g : List Symbol) (a : List Mark) → Fails e names (x ∷ []) a → Fails e names (x ∷ g) a
fails_first NoMemory names x g a h = tt
fails_first (Bad b) names x g a h = λ k. h (g ++ k)

pub fails_front : (e : LangFault) (names : Names) (f g : List Symbol) (a : List Mark) → Fails e names f a → Fails e names (f ++ g) a
fails_front NoMemory names f g a h = tt
fails_front (Bad b) names f g a h = λ k. ap (parse a names) (append_assoc f g k) ∙ h (g ++ k)

-- a fault behind what was read
pub fails_after : (e : LangFault) (names n : Names) (x : Symbol) (g : List Symbol) (ws : List Word) (F : Type 0) (a b : List Mark) → Read names (x ∷ []) n [] ws F a b → Fails e n g b → Fails e names (x ∷ g) a
fails_after NoMemory names n x g ws F a b r h = tt
fails_after (Bad f) names n x g ws F a b r h = λ k. r.grammar (g ++ k) ∙ h k

-- a fault behind a step
pub fails_shift : (e : LangFault) (a new : List Mark) (m : Mark) (names n : Names) (x : Symbol) (ys g : List Symbol) → a ≡ m ∷ new → next names x m.sort ≡ Shift n ys → Fails e n (ys ++ g) new → Fails e names (x ∷ g) a
fails_shift NoMemory a new m names n x ys g e h f = tt
fails_shift (Bad b) a new m names n x ys g e h f = λ k. shifts a new m names n x ys (g ++ k) e h ∙ ap (parse new n) (sym (append_assoc ys g k)) ∙ f k

pub fails_pass : (e : LangFault) (a new : List Mark) (m : Mark) (names : Names) (x : Symbol) (g : List Symbol) → a ≡ m ∷ new → next names x m.sort ≡ Pass → Fails e names g a → Fails e names (x ∷ g) a
fails_pass NoMemory a new m names x g e h f = tt
fails_pass (Bad b) a new m names x g e h f = λ k. passes a new m names x (g ++ k) e h ∙ f k

pub fails_here : (a new : List Mark) (m : Mark) (names : Names) (x : Symbol) (g : List Symbol) (why : BadKind) (e : LangFault) → a ≡ m ∷ new → next names x m.sort ≡ Refuse why → e ≡ Bad (bad m.place why) → Fails e names (x ∷ g) a
fails_here a new m names x g why e p h q = rw q (λ k. refuses a new m names x (g ++ k) why (bad m.place why) p h refl)

pub spells_then : (xs ys : List Word) (a b c : List Mark) → Spells a xs b → Spells b ys c → Spells a (xs ++ ys) c
spells_then [] ys a b c p q = let P : List Mark → Type 0 = λ m. Spells m ys c in subst P (sym p) q
spells_then (x ∷ xs) ys a b c p q = (p.0, p.1, p.2, p.3, spells_then xs ys p.1 b c p.4 q)

-- one symbol, and then the others
pub read_then : (names n n' : Names) (x : Symbol) (g h : List Symbol) (ws vs : List Word) (F G H : Type 0) (a b c : List Mark)
    → Read names (x ∷ []) n [] ws F a b → Read n g n' h vs G b c → (F → G → H) → Read names (x ∷ g) n' h (ws ++ vs) H a c
read_then names n n' x g h ws vs F G H a b c r s t = record {
  grammar = λ k. r.grammar (g ++ k) ∙ s.grammar k;
  spelled = spells_then ws vs a b c r.spelled s.spelled;
  fine = t r.fine s.fine;
}

-- one step
pub read_shift : (names n n' : Names) (x : Symbol) (ys g h : List Symbol) (m : Mark) (w : Word) (ws : List Word) (F G : Type 0) (a b c : List Mark)
    → a ≡ m ∷ b → next names x m.sort ≡ Shift n ys → w.sort ≡ m.sort → IfSome w.line (λ l. l ≡ m.place.line) → Read n (ys ++ g) n' h ws F b c → (F → G) → Read names (x ∷ g) n' h (w ∷ ws) G a c
read_shift names n n' x ys g h m w ws F G a b c e s t l r f = record {
  grammar = λ k. shifts a b m names n x ys (g ++ k) e s ∙ ap (parse b n) (sym (append_assoc ys g k)) ∙ r.grammar k;
  spelled = (m.place, b, e ∙ ap (λ (u : Sort). mark u m.place ∷ b) (sym t), l, r.spelled);
  fine = f r.fine;
}

pub read_pass : (names n' : Names) (x : Symbol) (g h : List Symbol) (m : Mark) (ws : List Word) (F : Type 0) (a more c : List Mark)
    → a ≡ m ∷ more → next names x m.sort ≡ Pass → Read names g n' h ws F a c → Read names (x ∷ g) n' h ws F a c
read_pass names n' x g h m ws F a more c e s r = record {
  grammar = λ k. passes a more m names x (g ++ k) e s ∙ r.grammar k;
  spelled = r.spelled;
  fine = r.fine;
}

pub read_nothing : (names : Names) (f : List Symbol) (a b : List Mark) → a ≡ b → Read names f names f [] (Unit {0}) a b
read_nothing names f a b e = record { grammar = λ k. ap (λ ms. parse ms names (f ++ k)) e; spelled = e; fine = tt }

pub read_as : (names n : Names) (f g : List Symbol) (ws vs : List Word) (F G : Type 0) (a b : List Mark) → Read names f n g ws F a b → ws ≡ vs → (F → G) → Read names f n g vs G a b
read_as names n f g ws vs F G a b r e t = record {
  grammar = r.grammar;
  spelled = let P : List Word → Type 0 = λ xs. Spells a xs b in subst P e r.spelled;
  fine = t r.fine;
}

-- a token that isn't of the sort that is needed
pub not_got : {X : Type 0} (e : LangFault) (f : X → Mark) (test : Sort → Bool) (old new : List Mark) (names : Names) (x : Symbol) (g : List Symbol)
    → ((t : Sort) → test t ≡ false → next names x t ≡ Refuse (refusal t)) → Gets {X = X} (Err e) f test old new → Fails e names (x ∷ g) old
not_got NoMemory f test old new names x g h p = tt
not_got (Bad b) f test old new names x g h p = λ k. refuses old p.1 p.0 names x (g ++ k) (refusal p.0.sort) b p.2 (h p.0.sort p.3) p.4

pub number_refused : (t : Sort) (f : ℕ → Step) → is_number t ≡ false → need_number t f ≡ Refuse (refusal t)
number_refused (Number n) f h = cc
number_refused Open f h = refl
number_refused Close f h = refl
number_refused (Reserved w) f h = refl
number_refused (Name n) f h = refl
number_refused End f h = refl
number_refused (Wrong why) f h = refl

pub name_refused : (t : Sort) (f : List ℕ → Step) → is_name t ≡ false → need_name t f ≡ Refuse (refusal t)
name_refused (Name n) f h = cc
name_refused Open f h = refl
name_refused Close f h = refl
name_refused (Reserved w) f h = refl
name_refused (Number n) f h = refl
name_refused End f h = refl
name_refused (Wrong why) f h = refl

pub name_passed : (t : Sort) (f : List ℕ → Step) → is_name t ≡ false → may_name t f ≡ Pass
name_passed (Name n) f h = cc
name_passed Open f h = refl
name_passed Close f h = refl
name_passed (Reserved w) f h = refl
name_passed (Number n) f h = refl
name_passed End f h = refl
name_passed (Wrong why) f h = refl

pub number_passed : (t : Sort) (f : ℕ → Step) → is_number t ≡ false → may_number t f ≡ Pass
number_passed (Number n) f h = cc
number_passed Open f h = refl
number_passed Close f h = refl
number_passed (Reserved w) f h = refl
number_passed (Name n) f h = refl
number_passed End f h = refl
number_passed (Wrong why) f h = refl

pub needed_refused : (b : Bool) (t : Sort) (s : Step) → b ≡ false → needed b t s ≡ Refuse (refusal t)
needed_refused b t s h = rw h refl

pub no_any_name : {X : Type 0} (e : LangFault) (f : X → Mark) (old new : List Mark) (names : Names) (g : List Symbol) → Gets {X = X} (Err e) f is_name old new → Fails e names (symbol.AnyName ∷ g) old
no_any_name e f old new names g p = not_got e f is_name old new names symbol.AnyName g (λ t h. name_refused t _ h) p

pub no_type_name : {X : Type 0} (e : LangFault) (f : X → Mark) (old new : List Mark) (names : Names) (g : List Symbol) → Gets {X = X} (Err e) f is_name old new → Fails e names (symbol.TypeName ∷ g) old
no_type_name e f old new names g p = not_got e f is_name old new names symbol.TypeName g (λ t h. name_refused t _ h) p

pub no_map_name : {X : Type 0} (e : LangFault) (f : X → Mark) (old new : List Mark) (names : Names) (k : MapKind) (g : List Symbol) → Gets {X = X} (Err e) f is_name old new → Fails e names (symbol.MapName k ∷ g) old
no_map_name e f old new names k g p = not_got e f is_name old new names (symbol.MapName k) g (λ t h. name_refused t _ h) p

pub no_map_type : {X : Type 0} (e : LangFault) (f : X → Mark) (old new : List Mark) (names : Names) (k : MapKind) (g : List Symbol) → Gets {X = X} (Err e) f is_name old new → Fails e names (symbol.MapType k ∷ g) old
no_map_type e f old new names k g p = not_got e f is_name old new names (symbol.MapType k) g (λ t h. name_refused t _ h) p

pub no_script_name : {X : Type 0} (e : LangFault) (f : X → Mark) (old new : List Mark) (names : Names) (g : List Symbol) → Gets {X = X} (Err e) f is_name old new → Fails e names (symbol.ScriptName ∷ g) old
no_script_name e f old new names g p = not_got e f is_name old new names symbol.ScriptName g (λ t h. name_refused t _ h) p

pub no_script_of : {X : Type 0} (e : LangFault) (f : X → Mark) (old new : List Mark) (names : Names) (h' : Bool) (g : List Symbol) → Gets {X = X} (Err e) f is_name old new → Fails e names (symbol.ScriptOf h' ∷ g) old
no_script_of e f old new names h' g p = not_got e f is_name old new names (symbol.ScriptOf h') g (λ t h. name_refused t _ h) p

pub no_new_type : {X : Type 0} (e : LangFault) (f : X → Mark) (old new : List Mark) (names : Names) (g : List Symbol) → Gets {X = X} (Err e) f is_name old new → Fails e names (symbol.NewType ∷ g) old
no_new_type e f old new names g p = not_got e f is_name old new names symbol.NewType g (λ t h. name_refused t _ h) p

pub no_map_of : {X : Type 0} (e : LangFault) (f : X → Mark) (old new : List Mark) (names : Names) (n : MapNeed) (g : List Symbol) → Gets {X = X} (Err e) f is_name old new → Fails e names (symbol.MapOf n ∷ g) old
no_map_of e f old new names n g p = not_got e f is_name old new names (symbol.MapOf n) g (λ t h. name_refused t _ h) p

pub no_any_number : {X : Type 0} (e : LangFault) (f : X → Mark) (old new : List Mark) (names : Names) (g : List Symbol) → Gets {X = X} (Err e) f is_number old new → Fails e names (symbol.AnyNumber ∷ g) old
no_any_number e f old new names g p = not_got e f is_number old new names symbol.AnyNumber g (λ t h. number_refused t _ h) p

pub no_processor_count : {X : Type 0} (e : LangFault) (f : X → Mark) (old new : List Mark) (names : Names) (g : List Symbol) → Gets {X = X} (Err e) f is_number old new → Fails e names (symbol.ProcessorCount ∷ g) old
no_processor_count e f old new names g p = not_got e f is_number old new names symbol.ProcessorCount g (λ t h. number_refused t _ h) p

pub no_pad_bytes : {X : Type 0} (e : LangFault) (f : X → Mark) (old new : List Mark) (names : Names) (g : List Symbol) → Gets {X = X} (Err e) f is_number old new → Fails e names (symbol.PadBytes ∷ g) old
no_pad_bytes e f old new names g p = not_got e f is_number old new names symbol.PadBytes g (λ t h. number_refused t _ h) p

pub no_processor : {X : Type 0} (e : LangFault) (f : X → Mark) (old new : List Mark) (names : Names) (g : List Symbol) → Gets {X = X} (Err e) f is_number old new → Fails e names (symbol.Processor ∷ g) old
no_processor e f old new names g p = not_got e f is_number old new names symbol.Processor g (λ t h. number_refused t _ h) p

pub no_level : {X : Type 0} (e : LangFault) (f : X → Mark) (old new : List Mark) (names : Names) (g : List Symbol) → Gets {X = X} (Err e) f is_number old new → Fails e names (symbol.Level ∷ g) old
no_level e f old new names g p = not_got e f is_number old new names symbol.Level g (λ t h. number_refused t _ h) p

pub no_values : {X : Type 0} (e : LangFault) (f : X → Mark) (old new : List Mark) (names : Names) (n : ℕ) (g : List Symbol) → Gets {X = X} (Err e) f is_number old new → Fails e names (symbol.Values (suc n) ∷ g) old
no_values e f old new names n g p = not_got e f is_number old new names (symbol.Values (suc n)) g (λ t h. number_refused t _ h) p

pub no_open : {X : Type 0} (e : LangFault) (f : X → Mark) (old new : List Mark) (names : Names) (g : List Symbol) → Gets {X = X} (Err e) f is_open old new → Fails e names (symbol.OpenBrace ∷ g) old
no_open e f old new names g p = not_got e f is_open old new names symbol.OpenBrace g (λ t h. needed_refused _ t _ h) p

pub no_braced : {X : Type 0} (e : LangFault) (f : X → Mark) (old new : List Mark) (names : Names) (d : ℕ) (g : List Symbol) → Gets {X = X} (Err e) f is_open old new → Fails e names (symbol.Braced d ∷ g) old
no_braced e f old new names d g p = not_got e f is_open old new names (symbol.Braced d) g (λ t h. needed_refused _ t _ h) p

pub no_close : {X : Type 0} (e : LangFault) (f : X → Mark) (old new : List Mark) (names : Names) (g : List Symbol) → Gets {X = X} (Err e) f is_close old new → Fails e names (symbol.CloseBrace ∷ g) old
no_close e f old new names g p = not_got e f is_close old new names symbol.CloseBrace g (λ t h. needed_refused _ t _ h) p

pub no_type_end : {X : Type 0} (e : LangFault) (f : X → Mark) (old new : List Mark) (names : Names) (g : List Symbol) → Gets {X = X} (Err e) f is_close old new → Fails e names (symbol.TypeEnd ∷ g) old
no_type_end e f old new names g p = not_got e f is_close old new names symbol.TypeEnd g (λ t h. needed_refused _ t _ h) p

pub no_word : {X : Type 0} (e : LangFault) (f : X → Mark) (old new : List Mark) (names : Names) (w : Keyword) (g : List Symbol) → Gets {X = X} (Err e) f (is_word w) old new → Fails e names (symbol.Word w ∷ g) old
no_word e f old new names w g p = not_got e f (is_word w) old new names (symbol.Word w) g (λ t h. needed_refused _ t _ h) p

pub same_word : (w : Keyword) → is_word w (Reserved w) ≡ true
same_word w = grind (arith, nat_tests)

pub word_taken : (names : Names) (w : Keyword) → next names (symbol.Word w) (Reserved w) ≡ Shift names []
word_taken names w = rw (same_word w) refl

pub ruleset reading = (failed, failed_statement, fails_first, fails_after, fails_here, no_any_name, no_type_name, no_map_name, no_map_type, no_script_name, no_script_of, no_new_type, no_map_of, no_any_number, no_processor_count, no_pad_bytes, no_processor, no_level, no_values, no_open, no_braced, no_close, no_type_end, no_word)

-- what was read goes on
pub read_on : (names n n' : Names) (f g h : List Symbol) (ws vs : List Word) (F G H : Type 0) (a b c : List Mark)
    → Read names f n g ws F a b → Read n g n' h vs G b c → (F → G → H) → Read names f n' h (ws ++ vs) H a c
read_on names n n' f g h ws vs F G H a b c r s t = record {
  grammar = λ k. r.grammar k ∙ s.grammar k;
  spelled = spells_then ws vs a b c r.spelled s.spelled;
  fine = t r.fine s.fine;
}

pub fails_on : (e : LangFault) (names n : Names) (f g : List Symbol) (ws : List Word) (F : Type 0) (a b : List Mark) → Read names f n g ws F a b → Fails e n g b → Fails e names f a
fails_on NoMemory names n f g ws F a b r h = tt
fails_on (Bad x) names n f g ws F a b r h = λ k. r.grammar k ∙ h k

-- one token
pub one : (names n : Names) (x : Symbol) (m : Mark) (F : Type 0) (a b : List Mark) → a ≡ m ∷ b → next names x m.sort ≡ Shift n [] → F → Read names (x ∷ []) n [] (any m.sort ∷ []) F a b
one names n x m F a b e s f = read_shift names n n x [] [] [] m (any m.sort) [] (Unit {0}) F a b b e s refl tt (read_nothing n [] b b refl) (λ _. f)

-- a symbol that is left out
pub absent : (names : Names) (x : Symbol) (test : Sort → Bool) (a b : List Mark) → ((t : Sort) → test t ≡ false → next names x t ≡ Pass) → Absent test a b → Read names (x ∷ []) names [] [] (Unit {0}) a b
absent names x test a b p h = record {
  grammar = λ k. passes a h.more h.front names x k h.front_is (p h.front.sort h.other) ∙ ap (λ (ms : List Mark). parse ms names k) (sym h.stays);
  spelled = sym h.stays;
  fine = tt;
}

pub may_passed : (b : Bool) (s : Step) → b ≡ false → may b s ≡ Pass
may_passed b s h = rw h refl

-- each word read leaves fewer tokens
pub spells_shorter : (xs : List Word) (a b : List Mark) → Spells a xs b → length b ≤ length a
spells_shorter [] a b p = rw p (omega arith)
spells_shorter (x ∷ xs) a b p = let h = spells_shorter xs p.1 b p.4 in rw p.2 (omega arith)

pub spells_strictly : (x : Word) (xs : List Word) (a b : List Mark) → Spells a (x ∷ xs) b → length b < length a
spells_strictly x xs a b p = let h = spells_shorter xs p.1 b p.4 in rw p.2 (omega arith)

pub shorter : (a b c : List Mark) (m : Mark) (names n : Names) (f g : List Symbol) (ws : List Word) (F : Type 0) → a ≡ m ∷ b → Read names f n g ws F b c → length c < length a
shorter a b c m names n f g ws F e r = let h = spells_shorter ws b c r.spelled in rw e (omega arith)

-- the words of nodes, maps and scripts
pub node_word_of : (w : Keyword) (n : Node) → symbol.node_of w ≡ Some n → node_word n ≡ w
node_word_of word.List n h = let e : node.List ≡ n = cc in ap node_word (sym e)
node_word_of word.Tree n h = let e : node.Tree ≡ n = cc in ap node_word (sym e)
node_word_of w n h = cc

pub map_word_of : (w : Keyword) (k : MapKind) → symbol.map_kind_of w ≡ Some k → map_word k ≡ w
map_word_of word.Slot k h = let e : map_kind.Slot ≡ k = cc in ap map_word (sym e)
map_word_of word.List k h = let e : map_kind.List ≡ k = cc in ap map_word (sym e)
map_word_of word.Tree k h = let e : map_kind.Tree ≡ k = cc in ap map_word (sym e)
map_word_of w k h = cc

pub script_word_of : (w : Keyword) (k : ScriptKind) → symbol.script_kind_of w ≡ Some k → script_word k ≡ w
script_word_of word.Plain k h = let e : script_kind.Plain ≡ k = cc in ap script_word (sym e)
script_word_of word.Sleepable k h = let e : script_kind.Sleepable ≡ k = cc in ap script_word (sym e)
script_word_of word.Handler k h = let e : script_kind.Handler ≡ k = cc in ap script_word (sym e)
script_word_of w k h = cc

pub node_known : (n : Node) → symbol.node_of (node_word n) ≡ Some n
node_known node.List = refl
node_known node.Tree = refl

pub map_known : (k : MapKind) → symbol.map_kind_of (map_word k) ≡ Some k
map_known map_kind.Slot = refl
map_known map_kind.List = refl
map_known map_kind.Tree = refl

pub script_known : (k : ScriptKind) → symbol.script_kind_of (script_word k) ≡ Some k
script_known script_kind.Plain = refl
script_known script_kind.Sleepable = refl
script_known script_kind.Handler = refl

no_node : (names : Names) (o : Option Node) → is_some o ≡ false → symbol.node_step names o ≡ Pass
no_node names None h = refl
no_node names (Some n) h = cc

no_map : (names : Names) (o : Option MapKind) → is_some o ≡ false → symbol.maps_step names o ≡ Pass
no_map names None h = refl
no_map names (Some n) h = cc

pub node_passed : (names : Names) (t : Sort) → begins_node t ≡ false → next names symbol.NodeOfType t ≡ Pass
node_passed names (Reserved w) h = no_node names (symbol.node_of w) h
node_passed names Open h = refl
node_passed names Close h = refl
node_passed names (Number n) h = refl
node_passed names (Name n) h = refl
node_passed names End h = refl
node_passed names (Wrong why) h = refl

pub map_passed : (names : Names) (t : Sort) → begins_map t ≡ false → next names symbol.Maps t ≡ Pass
map_passed names (Reserved w) h = no_map names (symbol.map_kind_of w) h
map_passed names Open h = refl
map_passed names Close h = refl
map_passed names (Number n) h = refl
map_passed names (Name n) h = refl
map_passed names End h = refl
map_passed names (Wrong why) h = refl

-- the same, with what is known from what is given
pub both : {names n n' : Names} {x : Symbol} {g h : List Symbol} {ws vs : List Word} {F G : Type 0} {a b c : List Mark}
    → Read names (x ∷ []) n [] ws F a b → Read n g n' h vs G b c → Read names (x ∷ g) n' h (ws ++ vs) (F × G) a c
both r s = read_then _ _ _ _ _ _ _ _ _ _ _ _ _ _ r s (λ f g. (f, g))

pub as_read : {names n : Names} {f g : List Symbol} {ws vs : List Word} {F G : Type 0} {a b : List Mark} → Read names f n g ws F a b → ws ≡ vs → (F → G) → Read names f n g vs G a b
as_read r e t = read_as _ _ _ _ _ _ _ _ _ _ r e t

pub fails_behind : {names n : Names} {x : Symbol} {ws : List Word} {F : Type 0} {a b : List Mark} (e : LangFault) (g : List Symbol) → Read names (x ∷ []) n [] ws F a b → Fails e n g b → Fails e names (x ∷ g) a
fails_behind e g r h = fails_after e _ _ _ g _ _ _ _ r h

-- further symbols behind
pub more : {names n : Names} {f : List Symbol} {ws : List Word} {F : Type 0} {a b : List Mark} (g : List Symbol) → Read names f n [] ws F a b → Read names (f ++ g) n g ws F a b
more {names = names} {f = f} {a = a} g r = record {
  grammar = λ k. ap (parse a names) (append_assoc f g k) ∙ r.grammar (g ++ k);
  spelled = r.spelled;
  fine = r.fine;
}

-- what was read goes on
pub going : {names n n' : Names} {f g h : List Symbol} {ws vs : List Word} {F G H : Type 0} {a b c : List Mark}
    → Read names f n g ws F a b → Read n g n' h vs G b c → (F → G → H) → Read names f n' h (ws ++ vs) H a c
going r s t = read_on _ _ _ _ _ _ _ _ _ _ _ _ _ _ r s t

pub fails_going : {names n : Names} {f g : List Symbol} {ws : List Word} {F : Type 0} {a b : List Mark} (e : LangFault) → Read names f n g ws F a b → Fails e n g b → Fails e names f a
fails_going e r h = fails_on e _ _ _ _ _ _ _ _ r h

-- further symbols behind those that may come
pub more' : {names n : Names} {f g : List Symbol} {ws : List Word} {F : Type 0} {a b : List Mark} (h : List Symbol) → Read names f n g ws F a b → Read names (f ++ h) n (g ++ h) ws F a b
more' {names = names} {n = n} {f = f} {g = g} {a = a} {b = b} h r = record {
  grammar = λ k. ap (parse a names) (append_assoc f h k) ∙ r.grammar (h ++ k) ∙ ap (parse b n) (sym (append_assoc g h k));
  spelled = r.spelled;
  fine = r.fine;
}

pub going_both : {names n n' : Names} {f g h : List Symbol} {ws vs : List Word} {F G : Type 0} {a b c : List Mark} → Read names f n g ws F a b → Read n g n' h vs G b c → Read names f n' h (ws ++ vs) (F × G) a c
going_both r s = read_on _ _ _ _ _ _ _ _ _ _ _ _ _ _ r s (λ f g. (f, g))
