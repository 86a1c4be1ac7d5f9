-- What is printed of a scenario reads back as it.
use Rattle.std.proofs.Common.{◌≡◌, ℕ, Bool, true, false, ◌&&◌, List, [], ◌∷◌, ◌++◌, refl, sym, ap, subst, Option, Some, None}
use Rattle.std.specs.Prelude.{map}
use Rattle.std.specs.List.{flat_map}
use Rattle.bm_lang.specs.declared.scenario.Action.{Action, New, Drop, Acquire, Get, Exchange, If', Repeat, Section, Lock, Unlock, Yield, PushFront, PushBack, PopFront, PopBack, Add, First, Remove, Held-Action-If-2, None', Some'}
use Rattle.bm_lang.specs.declared.scenario.Block.{Block, Block', Row_of-Statement, end_of-Statement, more_of-Statement}
use Rattle.bm_lang.specs.declared.scenario.Parts.{Parts}
use Rattle.bm_lang.specs.declared.scenario.TypeDeclaration.{TypeDeclaration}
use Rattle.bm_lang.specs.Names.{TypeForm, MapForm}
use Rattle.bm_lang.specs.Tokens.{Sort, Close, End, Mark, tokens, start, IsLegal}
use Rattle.bm_lang.specs.Texts.{AreLegal, sorts}
use Rattle.bm_lang.specs.Spelling.{Word, any, on, name, number, name_or_null, spell_action, spell_else, spell_block, spell_row, counted_words, node_words, pad_words, spell_type, spell_map, spell_script, spell_run, spell_at, spell_turns, type_form, map_form, script_form, spell_scenario}
use Rattle.bm_lang.specs.Reads.{Says}
use Rattle.bm_lang.specs.Scenarios.{ReadsButLines, IsFine}
use Rattle.bm_lang.specs.Printing.{printed}
use Rattle.bm_lang.proofs.Legal.{legal_tokens}
use Rattle.bm_lang.proofs.Spaced.{prints, ArePrinted, legal_printed, word_sorts, printed_tokens}

-- whether each word has a text
abbrev clean : List Word → Bool
clean [] = true
clean (w ∷ ws) = prints w.sort && clean ws

two : (a b : Bool) → a ≡ true → b ≡ true → a && b ≡ true
two a b h k = rw (h, k) refl

first_and : (a b : Bool) → a && b ≡ true → (a ≡ true) × (b ≡ true)
first_and true b h = (refl, h)
first_and false b h = cc

clean-append : (xs ys : List Word) → clean xs ≡ true → clean ys ≡ true → clean (xs ++ ys) ≡ true
clean-append [] ys h k = k
clean-append (x ∷ xs) ys h k = let p = first_and (prints x.sort) (clean xs) h in two (prints x.sort) (clean (xs ++ ys)) p.0 (clean-append xs ys p.1 k)

clean-numbers : (ns : List ℕ) → clean (map number ns) ≡ true
clean-numbers [] = refl
clean-numbers (n ∷ ns) = clean-numbers ns

clean-names : (ns : List (List ℕ)) → clean (map name ns) ≡ true
clean-names [] = refl
clean-names (n ∷ ns) = clean-names ns

clean-lines : {X : Type 0} (f : X → List Word) (xs : List X) → ((x : X) → clean (f x) ≡ true) → clean (flat_map f xs) ≡ true
clean-lines f [] h = refl
clean-lines f (x ∷ xs) h = clean-append (f x) (flat_map f xs) (h x) (clean-lines f xs h)

null_clean : (x : Option (List ℕ)) → clean (name_or_null x ∷ []) ≡ true
null_clean None = refl
null_clean (Some n) = refl

mutual
  action_clean : (types : List TypeForm) (maps : List MapForm) (l : ℕ) (x : Action) → clean (spell_action types maps l x) ≡ true
  action_clean types maps l (New y t vs) = clean-numbers vs
  action_clean types maps l (Drop y) = refl
  action_clean types maps l (Acquire y z) = refl
  action_clean types maps l (Get y f) = refl
  action_clean types maps l (Exchange y s z) = null_clean z
  action_clean types maps l (If' y body otherwise) = clean-append (spell_block types maps body) (spell_else types maps otherwise) (block_clean types maps body) (else_clean types maps otherwise)
  action_clean types maps l (Repeat n body) = block_clean types maps body
  action_clean types maps l (Section body) = block_clean types maps body
  action_clean types maps l (Lock g) = refl
  action_clean types maps l Unlock = refl
  action_clean types maps l Yield = refl
  action_clean types maps l (PushFront q y) = refl
  action_clean types maps l (PushBack q y) = refl
  action_clean types maps l (PopFront y q) = refl
  action_clean types maps l (PopBack y q) = refl
  action_clean types maps l (Add t y) = refl
  action_clean types maps l (First y t) = refl
  action_clean types maps l (Remove y t z) = refl

  else_clean : (types : List TypeForm) (maps : List MapForm) (e : Held-Action-If-2) → clean (spell_else types maps e) ≡ true
  else_clean types maps None' = refl
  else_clean types maps (Some' body) = block_clean types maps body

  block_clean : (types : List TypeForm) (maps : List MapForm) (b : Block) → clean (spell_block types maps b) ≡ true
  block_clean types maps (Block' shape row end) = clean-append (spell_row types maps row) (on end Close ∷ []) (row_clean types maps _ row) refl

  row_clean : (types : List TypeForm) (maps : List MapForm) (n : _) (row : Row_of-Statement n) → clean (spell_row types maps row) ≡ true
  row_clean types maps _ end_of-Statement = refl
  row_clean types maps _ (more_of-Statement line action row) = clean-append (spell_action types maps line action) (spell_row types maps row) (action_clean types maps line action) (row_clean types maps _ row)

counted_clean : (b : Bool) → clean (counted_words b) ≡ true
counted_clean true = refl
counted_clean false = refl

node_clean : (d : _) → clean (node_words d) ≡ true
node_clean None = refl
node_clean (Some n) = refl

pad_clean : (p : Option ℕ) → clean (pad_words p ++ any Close ∷ []) ≡ true
pad_clean None = refl
pad_clean (Some n) = refl

type_clean : (t : TypeDeclaration) → clean (spell_type t) ≡ true
type_clean t = clean-append (counted_words t.counted) _ (counted_clean t.counted) (clean-append (node_words t.node) _ (node_clean t.node) (clean-append (map name t.fields) _ (clean-names t.fields) (pad_clean t.pad)))

turns_clean : (o : Option (List ℕ)) → clean (spell_turns o ++ any Close ∷ []) ≡ true
turns_clean None = refl
turns_clean (Some ns) = clean-append (map number ns ++ any Close ∷ []) (any Close ∷ []) (clean-append (map number ns) (any Close ∷ []) (clean-numbers ns) refl) refl

scenario_clean : (s : Parts) → clean (spell_scenario s) ≡ true
scenario_clean s =
    let ts = map type_form s.types in let ms = map map_form s.maps in let ss = map script_form s.scripts in
    clean-append (flat_map spell_type s.types) _ (clean-lines spell_type s.types type_clean)
    (clean-append (flat_map (spell_map ts) s.maps) _ (clean-lines (spell_map ts) s.maps (λ m. refl))
    (clean-append (flat_map (spell_script ts ms) s.scripts) _ (clean-lines (spell_script ts ms) s.scripts (λ x. block_clean ts ms x.body))
    (clean-append (flat_map (spell_run ss) s.runs) _ (clean-lines (spell_run ss) s.runs (λ r. refl))
    (clean-append (flat_map (spell_at ss) s.ats) _ (clean-lines (spell_at ss) s.ats (λ a. refl)) (turns_clean s.turns)))))

legal_front : (a more : List Mark) (m : Mark) → a ≡ m ∷ more → AreLegal a → IsLegal m.sort × AreLegal more
legal_front a more m e h = let P : List Mark → Type 0 = λ ms. AreLegal ms in subst P e h

-- the words that legal tokens say have texts that are their tokens
words_printed : (ws rest : List Word) (a c : List Mark) → AreLegal a → clean ws ≡ true → Says a (ws ++ rest) c → ArePrinted ws
words_printed [] rest a c l h p = tt
words_printed (w ∷ ws) rest a c l h p =
    let k = legal_front a p.1 (record { sort = w.sort; place = p.0 }) p.2 l in
    let q = first_and (prints w.sort) (clean ws) h in
    (legal_printed w.sort q.0 k.0, words_printed ws rest p.1 c k.1 q.1 p.3)

says_of : (ws : List Word) (ms : List Mark) → sorts ms ≡ word_sorts ws → Says ms ws []
says_of [] [] h = refl
says_of [] (m ∷ ms) h = cc
says_of (w ∷ ws) [] h = cc
says_of (w ∷ ws) (m ∷ ms) h =
    let e : m.sort ≡ w.sort = cc in
    let r : sorts ms ≡ word_sorts ws = cc in
    (m.place, ms, ap (λ (t : Sort). let x : Mark = record { sort = t; place = m.place } in x ∷ ms) e, says_of ws ms r)

pub reads_back : (s : Parts) → IsFine s → ReadsButLines (printed (spell_scenario s)) s
reads_back s f =
    let ws = spell_scenario s in
    let p = words_printed ws (any End ∷ []) (tokens start f.0) [] (legal_tokens f.0 start) (scenario_clean s) f.1.said in
    record { said = says_of (ws ++ any End ∷ []) (tokens start (printed ws)) (printed_tokens ws start p); conditions = f.1.conditions }

pub reads_back_as : (s : Parts) (bytes : List ℕ) → IsFine s → bytes ≡ printed (spell_scenario s) → ReadsButLines bytes s
reads_back_as s bytes f e = let P : List ℕ → Type 0 = λ b. ReadsButLines b s in subst P (sym e) (reads_back s f)
