-- The printed parts of a scenario.
use Rattle.std.proofs.Common.{◌≡◌, ℕ, ◌+◌, ◌<◌, Bool, true, false, List, [], ◌∷◌, ◌++◌, length, take, get_or, refl, sym, ap, ◌∙◌, append_assoc, Option, Some, None}
use Rattle.std.specs.Prelude.{map, decimal}
use Rattle.std.specs.List.{flat_map}
use Rattle.std.proofs.lemmas.List.{take_more}
use Rattle.bm_lang.specs.declared.keyword.Keyword.{Keyword}
use Rattle.bm_lang.specs.declared.keyword.Keyword.TheVariants as word
use Rattle.bm_lang.specs.declared.scenario.Block.{Block}
use Rattle.bm_lang.specs.declared.scenario.Node.{Node}
use Rattle.bm_lang.specs.declared.scenario.Node.TheVariants as node
use Rattle.bm_lang.specs.declared.scenario.ScriptKind.{ScriptKind}
use Rattle.bm_lang.specs.declared.scenario.ScriptKind.TheVariants as script
use Rattle.bm_lang.specs.declared.scenario.Parts.{Parts}
use Rattle.bm_lang.specs.Keywords.{keyword_text}
use Rattle.bm_lang.specs.Names.{TypeForm, MapForm}
use Rattle.bm_lang.specs.Tokens.{Open, Close, Reserved}
use Rattle.bm_lang.specs.Spelling.{Word, any, on, name, number, reserved, counted_words, node_words, pad_words, spell_block, spell_header, on_or_off, script_word, spell_turns, type_form, map_form, script_form, type_words, map_words, map_word, script_words, run_words, at_words, spell_type, spell_map, spell_script, spell_run, spell_at, spell_scenario}
use Rattle.bm_lang.specs.Printing.{printed, gap, row_text, type_front, fields_text}
use Rattle.bm_lang.proofs.Pushes.{flat_map-push}
use Rattle.bm_lang.proofs.Printed.{begins, begins-flat, printed-lines, word_before_block}

-- one more line of a list of plain items
pub one_line_at : {X : Type 0} (f : X → List Word) (out0 out1 out2 : List ℕ) (xs : List X) (i : ℕ) (d : X) → i < length xs → begins (f (get_or xs i d)) ≡ true
    → out1 ≡ out0 ++ printed (flat_map f (take i xs)) → out2 ≡ out1 ++ printed (f (get_or xs i d)) → out2 ≡ out0 ++ printed (flat_map f (take (i + 1) xs))
one_line_at f out0 out1 out2 xs i d lt b p q =
    let x = get_or xs i d in
    let more : flat_map f (take (i + 1) xs) ≡ flat_map f (take i xs) ++ f x = ap (flat_map f) (take_more xs i d lt) ∙ flat_map-push f (take i xs) x in
    q ∙ ap (λ (o : List ℕ). o ++ printed (f x)) p ∙ append_assoc out0 (printed (flat_map f (take i xs))) (printed (f x))
    ∙ ap (λ (o : List ℕ). out0 ++ o) (sym (ap printed more ∙ printed-lines (flat_map f (take i xs)) (f x) b))

gap_open : (ws : List Word) → gap (any Open) ws ≡ 10
gap_open [] = refl
gap_open (w ∷ ws) = refl

front_printed : (l : ℕ) (n : List ℕ) (c : Bool) (d : Option Node) (ws : List Word) → printed (on l (Reserved word.Type) ∷ name n ∷ (counted_words c ++ (node_words d ++ any Open ∷ ws))) ≡ type_front n c d ++ printed ws
front_printed l n true None ws = simp (gap_open, append_assoc)
front_printed l n true (Some node.List) ws = simp (gap_open, append_assoc)
front_printed l n true (Some node.Tree) ws = simp (gap_open, append_assoc)
front_printed l n false None ws = simp (gap_open, append_assoc)
front_printed l n false (Some node.List) ws = simp (gap_open, append_assoc)
front_printed l n false (Some node.Tree) ws = simp (gap_open, append_assoc)

row_printed : (fs : List (List ℕ)) (ws : List Word) (b : ℕ) → ((n : List ℕ) → gap (name n) ws ≡ b) → printed (map name fs ++ ws) ≡ row_text fs b ++ printed ws
row_printed [] ws b h = refl
row_printed (f ∷ []) ws b h = rw (h f) (sym (append_assoc f (b ∷ []) (printed ws)))
row_printed (f ∷ g ∷ fs) ws b h = ap (λ (t : List ℕ). f ++ 32 ∷ t) (row_printed (g ∷ fs) ws b h) ∙ sym (append_assoc f (32 ∷ row_text (g ∷ fs) b) (printed ws))

fields_printed : (fs : List (List ℕ)) (p : Option ℕ) → printed (map name fs ++ (pad_words p ++ any Close ∷ [])) ≡ fields_text fs p ++ 125 ∷ 10 ∷ []
fields_printed fs None = row_printed fs (any Close ∷ []) 10 (λ n. refl)
fields_printed fs (Some k) = row_printed fs (reserved word.Pad ∷ number k ∷ any Close ∷ []) 32 (λ n. refl) ∙ simp append_assoc

-- a whole type
pub type_printed : (l : ℕ) (n : List ℕ) (c : Bool) (d : Option Node) (fs : List (List ℕ)) (p : Option ℕ) (o0 o1 o2 o3 : List ℕ) → o1 ≡ o0 ++ type_front n c d → o2 ≡ o1 ++ fields_text fs p → o3 ≡ o2 ++ 125 ∷ 10 ∷ []
    → o3 ≡ o0 ++ printed (on l (Reserved word.Type) ∷ name n ∷ (counted_words c ++ (node_words d ++ any Open ∷ (map name fs ++ (pad_words p ++ any Close ∷ [])))))
type_printed l n c d fs p o0 o1 o2 o3 e1 e2 e3 =
    regrouped o0 o1 o2 o3 (type_front n c d) (fields_text fs p) e1 e2 e3
    ∙ ap (λ (t : List ℕ). o0 ++ t) (sym (front_printed l n c d (map name fs ++ (pad_words p ++ any Close ∷ [])) ∙ ap (λ (t : List ℕ). type_front n c d ++ t) (fields_printed fs p)))
  where
    regrouped : (o0 o1 o2 o3 x y : List ℕ) → o1 ≡ o0 ++ x → o2 ≡ o1 ++ y → o3 ≡ o2 ++ 125 ∷ 10 ∷ [] → o3 ≡ o0 ++ (x ++ (y ++ 125 ∷ 10 ∷ []))
    regrouped o0 o1 o2 o3 x y e1 e2 e3 = rw (e3, e2, e1) (simp append_assoc)

pub script_printed : (types : List TypeForm) (maps : List MapForm) (l : ℕ) (n : List ℕ) (k : Keyword) (b : Block) (o0 o1 o2 o3 o4 : List ℕ) → o1 ≡ o0 ++ (keyword_text word.Script ++ 32 ∷ []) → o2 ≡ o1 ++ (n ++ 32 ∷ []) → o3 ≡ o2 ++ (keyword_text k ++ 32 ∷ [])
    → o4 ≡ o3 ++ printed (spell_block types maps b) → begins (reserved k ∷ []) ≡ false → o4 ≡ o0 ++ printed (on l (Reserved word.Script) ∷ name n ∷ reserved k ∷ spell_block types maps b)
script_printed types maps l n k b o0 o1 o2 o3 o4 e1 e2 e3 e4 h =
    let m : printed (on l (Reserved word.Script) ∷ name n ∷ reserved k ∷ spell_block types maps b) ≡ keyword_text word.Script ++ 32 ∷ (n ++ 32 ∷ (keyword_text k ++ 32 ∷ printed (spell_block types maps b)))
    = rw h (ap (λ (t : List ℕ). keyword_text word.Script ++ 32 ∷ (n ++ 32 ∷ t)) (word_before_block types maps b (reserved k) refl)) in
    regrouped o0 o1 o2 o3 o4 n (keyword_text k) (printed (spell_block types maps b)) e1 e2 e3 e4 ∙ ap (λ (t : List ℕ). o0 ++ t) (sym m)
  where
    regrouped : (o0 o1 o2 o3 o4 x y b : List ℕ) → o1 ≡ o0 ++ (keyword_text word.Script ++ 32 ∷ []) → o2 ≡ o1 ++ (x ++ 32 ∷ []) → o3 ≡ o2 ++ (y ++ 32 ∷ []) → o4 ≡ o3 ++ b → o4 ≡ o0 ++ (keyword_text word.Script ++ 32 ∷ (x ++ 32 ∷ (y ++ 32 ∷ b)))
    regrouped o0 o1 o2 o3 o4 x y b e1 e2 e3 e4 = rw (e4, e3, e2, e1) (simp append_assoc)

pub turns_printed : (ns : List ℕ) (o0 o1 o2 o3 : List ℕ) → o1 ≡ o0 ++ (keyword_text word.Turns ++ 32 ∷ 123 ∷ 10 ∷ []) → o2 ≡ o1 ++ printed (map number ns) → o3 ≡ o2 ++ 125 ∷ 10 ∷ []
    → o3 ≡ o0 ++ printed (reserved word.Turns ∷ any Open ∷ (map number ns ++ any Close ∷ []))
turns_printed ns o0 o1 o2 o3 e1 e2 e3 =
    let m : printed (reserved word.Turns ∷ any Open ∷ (map number ns ++ any Close ∷ [])) ≡ keyword_text word.Turns ++ 32 ∷ 123 ∷ 10 ∷ (printed (map number ns) ++ 125 ∷ 10 ∷ [])
    = rw gap_open (ap (λ (t : List ℕ). keyword_text word.Turns ++ 32 ∷ 123 ∷ 10 ∷ t) (printed-lines (map number ns) (any Close ∷ []) refl)) in
    regrouped o0 o1 o2 o3 (printed (map number ns)) e1 e2 e3 ∙ ap (λ (t : List ℕ). o0 ++ t) (sym m)
  where
    regrouped : (o0 o1 o2 o3 x : List ℕ) → o1 ≡ o0 ++ (keyword_text word.Turns ++ 32 ∷ 123 ∷ 10 ∷ []) → o2 ≡ o1 ++ x → o3 ≡ o2 ++ 125 ∷ 10 ∷ [] → o3 ≡ o0 ++ (keyword_text word.Turns ++ 32 ∷ 123 ∷ 10 ∷ (x ++ 125 ∷ 10 ∷ []))
    regrouped o0 o1 o2 o3 x e1 e2 e3 = rw (e3, e2, e1) (simp append_assoc)

pub header_printed : (n g : ℕ) (d : Bool) (o0 o1 o2 o3 o4 o5 o6 o7 : List ℕ) → o1 ≡ o0 ++ (keyword_text word.Scenario ++ 32 ∷ 123 ∷ 10 ∷ []) → o2 ≡ o1 ++ (keyword_text word.Processors ++ 32 ∷ []) → o3 ≡ o2 ++ (decimal n ++ 10 ∷ []) → o4 ≡ o3 ++ (keyword_text word.Pages ++ 32 ∷ [])
    → o5 ≡ o4 ++ (decimal g ++ 10 ∷ []) → o6 ≡ o5 ++ (keyword_text word.Deferred ++ 32 ∷ []) → o7 ≡ o6 ++ (keyword_text (on_or_off d) ++ 10 ∷ []) → o7 ≡ o0 ++ printed (spell_header n g d)
header_printed n g true o0 o1 o2 o3 o4 o5 o6 o7 e1 e2 e3 e4 e5 e6 e7 = rw (e7, e6, e5, e4, e3, e2, e1) (simp append_assoc)
header_printed n g false o0 o1 o2 o3 o4 o5 o6 o7 e1 e2 e3 e4 e5 e6 e7 = rw (e7, e6, e5, e4, e3, e2, e1) (simp append_assoc)

-- the parts one after the other
pub whole_printed : (h a b c d e f : List Word) (o1 o2 o3 o4 o5 o6 o7 o8 : List ℕ) → begins (a ++ (b ++ (c ++ (d ++ (e ++ (f ++ any Close ∷ [])))))) ≡ true → begins (b ++ (c ++ (d ++ (e ++ (f ++ any Close ∷ []))))) ≡ true → begins (c ++ (d ++ (e ++ (f ++ any Close ∷ [])))) ≡ true
    → begins (d ++ (e ++ (f ++ any Close ∷ []))) ≡ true → begins (e ++ (f ++ any Close ∷ [])) ≡ true → begins (f ++ any Close ∷ []) ≡ true
    → o1 ≡ [] ++ printed h → o2 ≡ o1 ++ printed a → o3 ≡ o2 ++ printed b → o4 ≡ o3 ++ printed c → o5 ≡ o4 ++ printed d → o6 ≡ o5 ++ printed e → o7 ≡ o6 ++ printed f → o8 ≡ o7 ++ 125 ∷ 10 ∷ []
    → o8 ≡ printed (h ++ (a ++ (b ++ (c ++ (d ++ (e ++ (f ++ any Close ∷ [])))))))
whole_printed h a b c d e f o1 o2 o3 o4 o5 o6 o7 o8 pa pb pc pd pe pf e1 e2 e3 e4 e5 e6 e7 e8 =
    regrouped (printed h) (printed a) (printed b) (printed c) (printed d) (printed e) (printed f) (125 ∷ 10 ∷ []) o1 o2 o3 o4 o5 o6 o7 o8 e1 e2 e3 e4 e5 e6 e7 e8
    ∙ sym (printed-lines h _ pa ∙ ap (λ (t : List ℕ). printed h ++ t) (printed-lines a _ pb ∙ ap (λ (t : List ℕ). printed a ++ t) (printed-lines b _ pc ∙ ap (λ (t : List ℕ). printed b ++ t) (printed-lines c _ pd ∙ ap (λ (t : List ℕ). printed c ++ t)
    (printed-lines d _ pe ∙ ap (λ (t : List ℕ). printed d ++ t) (printed-lines e _ pf ∙ ap (λ (t : List ℕ). printed e ++ t) (printed-lines f (any Close ∷ []) refl)))))))
  where
    regrouped : (h a b c d e f z o1 o2 o3 o4 o5 o6 o7 o8 : List ℕ) → o1 ≡ [] ++ h → o2 ≡ o1 ++ a → o3 ≡ o2 ++ b → o4 ≡ o3 ++ c → o5 ≡ o4 ++ d → o6 ≡ o5 ++ e → o7 ≡ o6 ++ f → o8 ≡ o7 ++ z → o8 ≡ h ++ (a ++ (b ++ (c ++ (d ++ (e ++ (f ++ z))))))
    regrouped h a b c d e f z o1 o2 o3 o4 o5 o6 o7 o8 e1 e2 e3 e4 e5 e6 e7 e8 = rw (e8, e7, e6, e5, e4, e3, e2, e1) (simp append_assoc)

pub script_no_line : (k : ScriptKind) → begins (reserved (script_word k) ∷ []) ≡ false
script_no_line script.Plain = refl
script_no_line script.Sleepable = refl
script_no_line script.Handler = refl

pub turns_begin : (o : Option (List ℕ)) → begins (spell_turns o ++ any Close ∷ []) ≡ true
turns_begin None = refl
turns_begin (Some ns) = refl

-- a whole scenario
pub scenario_printed : (s : Parts) (o1 o2 o3 o4 o5 o6 o7 o8 : List ℕ) → o1 ≡ [] ++ printed (spell_header s.processors s.pages s.deferred) → o2 ≡ o1 ++ printed (flat_map spell_type s.types) → o3 ≡ o2 ++ printed (flat_map (spell_map (map type_form s.types)) s.maps)
    → o4 ≡ o3 ++ printed (flat_map (spell_script (map type_form s.types) (map map_form s.maps)) s.scripts) → o5 ≡ o4 ++ printed (flat_map (spell_run (map script_form s.scripts)) s.runs) → o6 ≡ o5 ++ printed (flat_map (spell_at (map script_form s.scripts)) s.ats)
    → o7 ≡ o6 ++ printed (spell_turns s.turns) → o8 ≡ o7 ++ 125 ∷ 10 ∷ [] → o8 ≡ printed (spell_scenario s)
scenario_printed s o1 o2 o3 o4 o5 o6 o7 o8 e1 e2 e3 e4 e5 e6 e7 e8 =
    let ts = map type_form s.types in let ms = map map_form s.maps in let ss = map script_form s.scripts in
    let pf = turns_begin s.turns in
    let pe = begins-flat (spell_at ss) s.ats (spell_turns s.turns ++ any Close ∷ []) (λ x. (on x.line (Reserved word.At), at_words ss x, refl, refl)) pf in
    let pd = begins-flat (spell_run ss) s.runs (flat_map (spell_at ss) s.ats ++ (spell_turns s.turns ++ any Close ∷ [])) (λ x. (on x.line (Reserved word.Run), run_words ss x, refl, refl)) pe in
    let pc = begins-flat (spell_script ts ms) s.scripts (flat_map (spell_run ss) s.runs ++ (flat_map (spell_at ss) s.ats ++ (spell_turns s.turns ++ any Close ∷ []))) (λ x. (on x.line (Reserved word.Script), script_words ts ms x, refl, refl)) pd in
    let pb = begins-flat (spell_map ts) s.maps (flat_map (spell_script ts ms) s.scripts ++ (flat_map (spell_run ss) s.runs ++ (flat_map (spell_at ss) s.ats ++ (spell_turns s.turns ++ any Close ∷ [])))) (λ x. (on x.line (Reserved (map_word x.kind)), map_words ts x, refl, refl)) pc in
    let pa = begins-flat spell_type s.types (flat_map (spell_map ts) s.maps ++ (flat_map (spell_script ts ms) s.scripts ++ (flat_map (spell_run ss) s.runs ++ (flat_map (spell_at ss) s.ats ++ (spell_turns s.turns ++ any Close ∷ []))))) (λ x. (on x.line (Reserved word.Type), type_words x, refl, refl)) pb in
    whole_printed (spell_header s.processors s.pages s.deferred) (flat_map spell_type s.types) (flat_map (spell_map ts) s.maps) (flat_map (spell_script ts ms) s.scripts) (flat_map (spell_run ss) s.runs) (flat_map (spell_at ss) s.ats) (spell_turns s.turns)
    o1 o2 o3 o4 o5 o6 o7 o8 pa pb pc pd pe pf e1 e2 e3 e4 e5 e6 e7 e8
