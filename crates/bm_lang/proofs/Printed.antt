-- Printed words, one after the other.
use Rattle.std.proofs.Common.{◌≡◌, ℕ, ◌+◌, ◌<◌, ◌≤◌, Bool, true, false, ◌||◌, List, [], ◌∷◌, ◌++◌, length, take, get_or, refl, sym, ap, ◌∙◌, append_assoc, Result, Ok, Err, Option, Some, None, arith}
use Rattle.std.specs.Prelude.{OnOk, map, decimal}
use Rattle.std.specs.List.{flat_map}
use Rattle.std.proofs.lemmas.List.{take_more, take_all}
use Rattle.bm_lang.specs.declared.keyword.Keyword.TheVariants as word
use Rattle.bm_lang.specs.declared.scenario.Block.{Block, out-Block, roll-out-Block}
use Rattle.bm_lang.specs.declared.scenario.Statement.{Statement}
use Rattle.bm_lang.specs.declared.scenario.Action.{Action, New, Drop, Acquire, Get, Exchange, If', Repeat, Section, Lock, Unlock, Yield, PushFront, PushBack, PopFront, PopBack, Add, First, Remove}
use Rattle.bm_lang.specs.Tokens.{Open, Close, Reserved}
use Rattle.bm_lang.specs.Keywords.{keyword_text}
use Rattle.bm_lang.specs.Names.{TypeForm, MapForm}
use Rattle.bm_lang.specs.Grammar.{is_open}
use Rattle.bm_lang.specs.Spelling.{Word, any, on, name, number, spell_block, spell_action}
use Rattle.bm_lang.specs.Built.{spell_statement, spell_option}
use Rattle.bm_lang.specs.Printing.{printed, gap, begins_line, token_text}
use Rattle.bm_lang.proofs.Trees.{block_is}
use Rattle.bm_lang.proofs.Pushes.{flat_map-push}

pub on_ok_then : {T E P Q : Type 0} (r : Result T E) → OnOk r P → (P → Q) → OnOk r Q
on_ok_then (Ok t) p f = f p
on_ok_then (Err e) p f = p

-- whether nothing stands here, or a word that begins a line
abbrev pub begins : List Word → Bool
begins [] = true
begins (w ∷ ws) = begins_line w

or_true : (b : Bool) → b || true ≡ true
or_true true = refl
or_true false = refl

gap_before : (v : Word) (ws : List Word) → begins ws ≡ true → gap v ws ≡ 10
gap_before v [] h = refl
gap_before v (w ∷ ws) h = rw (h, or_true (is_open v.sort)) refl

-- lines one after the other
pub printed-lines : (xs ws : List Word) → begins ws ≡ true → printed (xs ++ ws) ≡ printed xs ++ printed ws
printed-lines [] ws h = refl
printed-lines (x ∷ []) ws h = ap (λ (g : ℕ). token_text x.sort ++ g ∷ printed ws) (gap_before x ws h) ∙ sym (append_assoc (token_text x.sort) (10 ∷ []) (printed ws))
printed-lines (x ∷ y ∷ xs) ws h = ap (λ (t : List ℕ). token_text x.sort ++ gap x (y ∷ xs) ∷ t) (printed-lines (y ∷ xs) ws h) ∙ sym (append_assoc (token_text x.sort) (gap x (y ∷ xs) ∷ printed (y ∷ xs)) (printed ws))

pub open_line : (ws : List Word) → printed (any Open ∷ ws) ≡ 123 ∷ 10 ∷ printed ws
open_line [] = refl
open_line (w ∷ ws) = refl

pub begins-flat : {X : Type 0} (f : X → List Word) (xs : List X) (ws : List Word) → ((x : X) → (v : Word) × (vs : List Word) × (f x ≡ v ∷ vs) × (begins_line v ≡ true)) → begins ws ≡ true → begins (flat_map f xs ++ ws) ≡ true
begins-flat f [] ws h e = e
begins-flat f (x ∷ xs) ws h e = let k = h x in rw k.2 k.3

action_begins : (types : List TypeForm) (maps : List MapForm) (l : ℕ) (x : Action) → begins (spell_action types maps l x) ≡ true
action_begins types maps l (New y t vs) = refl
action_begins types maps l (Drop y) = refl
action_begins types maps l (Acquire y z) = refl
action_begins types maps l (Get y f) = refl
action_begins types maps l (Exchange y s z) = refl
action_begins types maps l (If' y body otherwise) = refl
action_begins types maps l (Repeat n body) = refl
action_begins types maps l (Section body) = refl
action_begins types maps l (Lock g) = refl
action_begins types maps l Unlock = refl
action_begins types maps l Yield = refl
action_begins types maps l (PushFront q y) = refl
action_begins types maps l (PushBack q y) = refl
action_begins types maps l (PopFront y q) = refl
action_begins types maps l (PopBack y q) = refl
action_begins types maps l (Add t y) = refl
action_begins types maps l (First y t) = refl
action_begins types maps l (Remove y t z) = refl

-- one more line of a list
pub one_line : {X : Type 0} (f : X → List Word) (out0 out1 out2 : List ℕ) (xs : List X) (i : ℕ) (x : X) → i < length xs → x ≡ get_or xs i x → begins (f x) ≡ true
    → out1 ≡ out0 ++ printed (flat_map f (take i xs)) → out2 ≡ out1 ++ printed (f x) → out2 ≡ out0 ++ printed (flat_map f (take (i + 1) xs))
one_line f out0 out1 out2 xs i x lt e b p q =
    let more : flat_map f (take (i + 1) xs) ≡ flat_map f (take i xs) ++ f x = ap (flat_map f) (take_more xs i x lt ∙ ap (λ y. take i xs ++ y ∷ []) (sym e)) ∙ flat_map-push f (take i xs) x in
    q ∙ ap (λ (o : List ℕ). o ++ printed (f x)) p ∙ append_assoc out0 (printed (flat_map f (take i xs))) (printed (f x))
    ∙ ap (λ (o : List ℕ). out0 ++ o) (sym (ap printed more ∙ printed-lines (flat_map f (take i xs)) (f x) b))

pub all_lines : {X : Type 0} (f : X → List Word) (out0 out1 : List ℕ) (xs : List X) (i : ℕ) → length xs ≤ i → out1 ≡ out0 ++ printed (flat_map f (take i xs)) → out1 ≡ out0 ++ printed (flat_map f xs)
all_lines f out0 out1 xs i le p = p ∙ ap (λ ys. out0 ++ printed (flat_map f ys)) (take_all i xs le)

pub one_statement : (types : List TypeForm) (maps : List MapForm) (out0 out1 out2 : List ℕ) (ss : List Statement) (i : ℕ) (s : Statement) → i < length ss → s ≡ get_or ss i s
    → out1 ≡ out0 ++ printed (flat_map (spell_statement types maps) (take i ss)) → out2 ≡ out1 ++ printed (spell_action types maps s.line s.action) → out2 ≡ out0 ++ printed (flat_map (spell_statement types maps) (take (i + 1) ss))
one_statement types maps out0 out1 out2 ss i s lt e p q = one_line (spell_statement types maps) out0 out1 out2 ss i s lt e (action_begins types maps s.line s.action) p q

-- a block's words
pub block_words : (types : List TypeForm) (maps : List MapForm) (b : Block) → spell_block types maps b ≡ any Open ∷ (flat_map (spell_statement types maps) (out-Block b).statements.items ++ on (out-Block b).end_line Close ∷ [])
block_words types maps b = let o = out-Block b in ap (spell_block types maps) (sym (roll-out-Block b)) ∙ block_is types maps o.statements o.end_line

pub block_printed : (types : List TypeForm) (maps : List MapForm) (b : Block) → printed (spell_block types maps b) ≡ 123 ∷ 10 ∷ (printed (flat_map (spell_statement types maps) (out-Block b).statements.items) ++ 125 ∷ 10 ∷ [])
block_printed types maps b =
    let o = out-Block b in let ws = flat_map (spell_statement types maps) o.statements.items in
    ap printed (block_words types maps b) ∙ open_line (ws ++ on o.end_line Close ∷ []) ∙ ap (λ (t : List ℕ). 123 ∷ 10 ∷ t) (printed-lines ws (on o.end_line Close ∷ []) refl)

pub block_end : (types : List TypeForm) (maps : List MapForm) (b : Block) (out0 out1 out2 : List ℕ) (ss : List Statement) (i : ℕ) → ss ≡ (out-Block b).statements.items → length ss ≤ i → out1 ≡ out0 ++ 123 ∷ 10 ∷ []
    → out2 ≡ out1 ++ printed (flat_map (spell_statement types maps) (take i ss)) → out2 ++ 125 ∷ 10 ∷ [] ≡ out0 ++ printed (spell_block types maps b)
block_end types maps b out0 out1 out2 ss i v le p q =
    let body = printed (flat_map (spell_statement types maps) (out-Block b).statements.items) in
    let all : take i ss ≡ (out-Block b).statements.items = take_all i ss le ∙ v in
    let two : out2 ≡ (out0 ++ 123 ∷ 10 ∷ []) ++ body = q ∙ ap (λ (o : List ℕ). o ++ printed (flat_map (spell_statement types maps) (take i ss))) p ∙ ap (λ (ts : List Statement). (out0 ++ 123 ∷ 10 ∷ []) ++ printed (flat_map (spell_statement types maps) ts)) all in
    let regrouped : ((out0 ++ 123 ∷ 10 ∷ []) ++ body) ++ 125 ∷ 10 ∷ [] ≡ out0 ++ 123 ∷ 10 ∷ (body ++ 125 ∷ 10 ∷ []) = simp append_assoc in
    ap (λ (o : List ℕ). o ++ 125 ∷ 10 ∷ []) two ∙ regrouped ∙ ap (λ (o : List ℕ). out0 ++ o) (sym (block_printed types maps b))

-- a word before a block
pub before_block : (types : List TypeForm) (maps : List MapForm) (b : Block) (v : Word) (ws : List Word) → is_open v.sort ≡ false → printed (v ∷ (spell_block types maps b ++ ws)) ≡ token_text v.sort ++ 32 ∷ printed (spell_block types maps b ++ ws)
before_block types maps b v ws h = rw (block_words types maps b, h) refl

option_begins : (types : List TypeForm) (maps : List MapForm) (o : Option Block) → begins (spell_option types maps o) ≡ true
option_begins types maps None = refl
option_begins types maps (Some b) = refl

pub block_then : (types : List TypeForm) (maps : List MapForm) (b : Block) (o : Option Block) → printed (spell_block types maps b ++ spell_option types maps o) ≡ printed (spell_block types maps b) ++ printed (spell_option types maps o)
block_then types maps b o = printed-lines (spell_block types maps b) (spell_option types maps o) (option_begins types maps o)

-- the parts of a `new`
pub creation_printed : (o0 o1 o2 o3 o4 x t : List ℕ) (g l : ℕ) (ns : List ℕ) → o1 ≡ o0 ++ (keyword_text word.New ++ 32 ∷ []) → o2 ≡ o1 ++ (x ++ 32 ∷ []) → o3 ≡ o2 ++ (t ++ g ∷ []) → o4 ≡ o3 ++ printed (map number ns)
    → gap (name t) (map number ns) ≡ g → o4 ≡ o0 ++ printed (on l (Reserved word.New) ∷ name x ∷ name t ∷ map number ns)
creation_printed o0 o1 o2 o3 o4 x t g l ns e1 e2 e3 e4 h = rw (e4, e3, e2, e1, h) (simp append_assoc)

pub no_values_gap : (n : List ℕ) (ns : List ℕ) → length ns ≡ 0 → gap (name n) (map number ns) ≡ 10
no_values_gap n [] h = refl
no_values_gap n (x ∷ ns) h = absurd (omega arith)

pub some_values_gap : (n : List ℕ) (ns : List ℕ) → 0 < length ns → gap (name n) (map number ns) ≡ 32
some_values_gap n [] h = absurd (omega arith)
some_values_gap n (x ∷ ns) h = refl

pub word_before_block : (types : List TypeForm) (maps : List MapForm) (b : Block) (v : Word) → is_open v.sort ≡ false → printed (v ∷ spell_block types maps b) ≡ token_text v.sort ++ 32 ∷ printed (spell_block types maps b)
word_before_block types maps b v h = rw (block_words types maps b, h) refl

pub if_printed : (types : List TypeForm) (maps : List MapForm) (l : ℕ) (x : List ℕ) (body : Block) (o : Option Block) (o0 o1 o2 o3 o4 : List ℕ) → o1 ≡ o0 ++ (keyword_text word.If ++ 32 ∷ []) → o2 ≡ o1 ++ (x ++ 32 ∷ [])
    → o3 ≡ o2 ++ printed (spell_block types maps body) → o4 ≡ o3 ++ printed (spell_option types maps o) → o4 ≡ o0 ++ printed (on l (Reserved word.If) ∷ name x ∷ (spell_block types maps body ++ spell_option types maps o))
if_printed types maps l x body o o0 o1 o2 o3 o4 e1 e2 e3 e4 =
    let k : printed (name x ∷ (spell_block types maps body ++ spell_option types maps o)) ≡ x ++ 32 ∷ (printed (spell_block types maps body) ++ printed (spell_option types maps o))
    = before_block types maps body (name x) (spell_option types maps o) refl ∙ ap (λ (t : List ℕ). x ++ 32 ∷ t) (block_then types maps body o) in
    let m : printed (on l (Reserved word.If) ∷ name x ∷ (spell_block types maps body ++ spell_option types maps o)) ≡ keyword_text word.If ++ 32 ∷ (x ++ 32 ∷ (printed (spell_block types maps body) ++ printed (spell_option types maps o)))
    = ap (λ (t : List ℕ). keyword_text word.If ++ 32 ∷ t) k in
    regrouped o0 o1 o2 o3 o4 x (printed (spell_block types maps body)) (printed (spell_option types maps o)) e1 e2 e3 e4 ∙ ap (λ (t : List ℕ). o0 ++ t) (sym m)
  where
    regrouped : (o0 o1 o2 o3 o4 x b e : List ℕ) → o1 ≡ o0 ++ (keyword_text word.If ++ 32 ∷ []) → o2 ≡ o1 ++ (x ++ 32 ∷ []) → o3 ≡ o2 ++ b → o4 ≡ o3 ++ e → o4 ≡ o0 ++ (keyword_text word.If ++ 32 ∷ (x ++ 32 ∷ (b ++ e)))
    regrouped o0 o1 o2 o3 o4 x b e e1 e2 e3 e4 = rw (e4, e3, e2, e1) (simp append_assoc)

pub repeat_printed : (types : List TypeForm) (maps : List MapForm) (l n : ℕ) (body : Block) (o0 o1 o2 o3 : List ℕ) → o1 ≡ o0 ++ (keyword_text word.Repeat ++ 32 ∷ []) → o2 ≡ o1 ++ (decimal n ++ 32 ∷ []) → o3 ≡ o2 ++ printed (spell_block types maps body)
    → o3 ≡ o0 ++ printed (on l (Reserved word.Repeat) ∷ number n ∷ spell_block types maps body)
repeat_printed types maps l n body o0 o1 o2 o3 e1 e2 e3 =
    let m : printed (on l (Reserved word.Repeat) ∷ number n ∷ spell_block types maps body) ≡ keyword_text word.Repeat ++ 32 ∷ (decimal n ++ 32 ∷ printed (spell_block types maps body))
    = ap (λ (t : List ℕ). keyword_text word.Repeat ++ 32 ∷ t) (word_before_block types maps body (number n) refl) in
    regrouped o0 o1 o2 o3 (decimal n) (printed (spell_block types maps body)) e1 e2 e3 ∙ ap (λ (t : List ℕ). o0 ++ t) (sym m)
  where
    regrouped : (o0 o1 o2 o3 x b : List ℕ) → o1 ≡ o0 ++ (keyword_text word.Repeat ++ 32 ∷ []) → o2 ≡ o1 ++ (x ++ 32 ∷ []) → o3 ≡ o2 ++ b → o3 ≡ o0 ++ (keyword_text word.Repeat ++ 32 ∷ (x ++ 32 ∷ b))
    regrouped o0 o1 o2 o3 x b e1 e2 e3 = rw (e3, e2, e1) (simp append_assoc)

-- a word and a block behind it
pub word_and_block : (types : List TypeForm) (maps : List MapForm) (v : Word) (body : Block) (o0 o1 o2 : List ℕ) → is_open v.sort ≡ false → o1 ≡ o0 ++ (token_text v.sort ++ 32 ∷ []) → o2 ≡ o1 ++ printed (spell_block types maps body)
    → o2 ≡ o0 ++ printed (v ∷ spell_block types maps body)
word_and_block types maps v body o0 o1 o2 h e1 e2 =
    regrouped o0 o1 o2 (token_text v.sort) (printed (spell_block types maps body)) e1 e2 ∙ ap (λ (t : List ℕ). o0 ++ t) (sym (word_before_block types maps body v h))
  where
    regrouped : (o0 o1 o2 x b : List ℕ) → o1 ≡ o0 ++ (x ++ 32 ∷ []) → o2 ≡ o1 ++ b → o2 ≡ o0 ++ (x ++ 32 ∷ b)
    regrouped o0 o1 o2 x b e1 e2 = rw (e2, e1) (simp append_assoc)
