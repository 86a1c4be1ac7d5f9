-- The sorts of a scenario's words, with further sorts behind them: lines apart, they are what a text says.
use Rattle.std.proofs.Common.{◌≡◌, ℕ, Bool, true, false, List, [], ◌∷◌, ◌++◌, refl, sym, ap, ◌∙◌, append_assoc, Option, Some, None}
use Rattle.std.specs.Prelude.{map}
use Rattle.std.specs.List.{flat_map}
use Rattle.bm_lang.specs.declared.keyword.Keyword.TheVariants as word
use Rattle.bm_lang.specs.declared.scenario.Action.{Action, New, Drop, Acquire, Get, Exchange, If', Repeat, Section, Lock, Unlock, Yield, PushFront, PushBack, PopFront, PopBack, Add, First, Remove, Held-Action-If-2, None', Some'}
use Rattle.bm_lang.specs.declared.scenario.Block.{Block, Block', Row_of-Statement, end_of-Statement, more_of-Statement}
use Rattle.bm_lang.specs.declared.scenario.Node.{Node}
use Rattle.bm_lang.specs.declared.scenario.Parts.{Parts}
use Rattle.bm_lang.specs.declared.scenario.TypeDeclaration.{TypeDeclaration}
use Rattle.bm_lang.specs.declared.scenario.MapDeclaration.{MapDeclaration}
use Rattle.bm_lang.specs.declared.scenario.Script.{Script}
use Rattle.bm_lang.specs.declared.scenario.RunLine.{RunLine}
use Rattle.bm_lang.specs.declared.scenario.AtLine.{AtLine}
use Rattle.bm_lang.specs.Tokens.{Sort, Open, Close, Number, Reserved, Name, End, Mark, tokens, start}
use Rattle.bm_lang.specs.Texts.{sorts}
use Rattle.bm_lang.specs.Names.{TypeForm, MapForm, ScriptForm}
use Rattle.bm_lang.specs.Spelling.{Word, any, on, name, number, name_or_null, type_form, map_form, script_form, type_name, map_name, script_name, counted_words, node_word, node_words, pad_words, map_word, script_word, on_or_off, spell_header, spell_action, spell_else, spell_block, spell_row, spell_type, spell_map, spell_script, spell_run, spell_at, spell_turns, spell_scenario}
use Rattle.bm_lang.specs.Reads.{Says}
use Rattle.bm_lang.specs.Scenarios.{ReadsButLines}
use Rattle.bm_lang.proofs.Pushes.{end-of-seven}
use Rattle.bm_lang.proofs.Spaced.{word_sorts}

-- ---- statements

abbrev pub say_numbers : List ℕ → List Sort → List Sort
say_numbers [] more = more
say_numbers (n ∷ ns) more = Number n ∷ say_numbers ns more

abbrev mutual
  pub say_action : List TypeForm → List MapForm → Action → List Sort → List Sort
  say_action types maps (New x t values) more = Reserved word.New ∷ Name x ∷ Name (type_name types t.0) ∷ say_numbers values more
  say_action types maps (Drop x) more = Reserved word.Drop ∷ Name x ∷ more
  say_action types maps (Acquire y x) more = Reserved word.Acquire ∷ Name y ∷ Name x ∷ more
  say_action types maps (Get x f) more = Reserved word.Get ∷ Name x ∷ Name f ∷ more
  say_action types maps (Exchange y s x) more = Reserved word.Xchg ∷ Name y ∷ Name (map_name maps s.0) ∷ (name_or_null x).sort ∷ more
  say_action types maps (If' x body otherwise) more = Reserved word.If ∷ Name x ∷ say_block types maps body (say_else types maps otherwise more)
  say_action types maps (Repeat n body) more = Reserved word.Repeat ∷ Number n ∷ say_block types maps body more
  say_action types maps (Section body) more = Reserved word.Section ∷ say_block types maps body more
  say_action types maps (Lock g) more = Reserved word.Lock ∷ Name (map_name maps g.0) ∷ more
  say_action types maps Unlock more = Reserved word.Unlock ∷ more
  say_action types maps Yield more = Reserved word.Yield ∷ more
  say_action types maps (PushFront q x) more = Reserved word.PushFront ∷ Name (map_name maps q.0) ∷ Name x ∷ more
  say_action types maps (PushBack q x) more = Reserved word.PushBack ∷ Name (map_name maps q.0) ∷ Name x ∷ more
  say_action types maps (PopFront x q) more = Reserved word.PopFront ∷ Name x ∷ Name (map_name maps q.0) ∷ more
  say_action types maps (PopBack x q) more = Reserved word.PopBack ∷ Name x ∷ Name (map_name maps q.0) ∷ more
  say_action types maps (Add t x) more = Reserved word.Add ∷ Name (map_name maps t.0) ∷ Name x ∷ more
  say_action types maps (First x t) more = Reserved word.First ∷ Name x ∷ Name (map_name maps t.0) ∷ more
  say_action types maps (Remove y t x) more = Reserved word.Remove ∷ Name y ∷ Name (map_name maps t.0) ∷ Name x ∷ more

  pub say_else : List TypeForm → List MapForm → Held-Action-If-2 → List Sort → List Sort
  say_else types maps None' more = more
  say_else types maps (Some' body) more = Reserved word.Else ∷ say_block types maps body more

  pub say_block : List TypeForm → List MapForm → Block → List Sort → List Sort
  say_block types maps (Block' shape row end_line) more = Open ∷ say_row types maps row (Close ∷ more)

  pub say_row : List TypeForm → List MapForm → {m : _} → Row_of-Statement m → List Sort → List Sort
  say_row types maps end_of-Statement more = more
  say_row types maps (more_of-Statement line action rest) more = say_action types maps action (say_row types maps rest more)

numbers_said : (ns : List ℕ) (ws : List Word) → word_sorts (map number ns ++ ws) ≡ say_numbers ns (word_sorts ws)
numbers_said [] ws = refl
numbers_said (n ∷ ns) ws = ap (λ ss. Number n ∷ ss) (numbers_said ns ws)

mutual
  action_said : (types : List TypeForm) (maps : List MapForm) (l : ℕ) (a : Action) (ws : List Word) → word_sorts (spell_action types maps l a ++ ws) ≡ say_action types maps a (word_sorts ws)
  action_said types maps l (New x t values) ws = ap (λ ss. Reserved word.New ∷ Name x ∷ Name (type_name types t.0) ∷ ss) (numbers_said values ws)
  action_said types maps l (If' x body otherwise) ws =
      ap (λ ss. Reserved word.If ∷ Name x ∷ ss) (ap word_sorts (append_assoc (spell_block types maps body) (spell_else types maps otherwise) ws) ∙ block_said types maps body (spell_else types maps otherwise ++ ws) ∙ ap (say_block types maps body) (else_said types maps otherwise ws))
  action_said types maps l (Repeat n body) ws = ap (λ ss. Reserved word.Repeat ∷ Number n ∷ ss) (block_said types maps body ws)
  action_said types maps l (Section body) ws = ap (λ ss. Reserved word.Section ∷ ss) (block_said types maps body ws)
  action_said types maps l a ws = refl

  else_said : (types : List TypeForm) (maps : List MapForm) (e : Held-Action-If-2) (ws : List Word) → word_sorts (spell_else types maps e ++ ws) ≡ say_else types maps e (word_sorts ws)
  else_said types maps None' ws = refl
  else_said types maps (Some' body) ws = ap (λ ss. Reserved word.Else ∷ ss) (block_said types maps body ws)

  block_said : (types : List TypeForm) (maps : List MapForm) (b : Block) (ws : List Word) → word_sorts (spell_block types maps b ++ ws) ≡ say_block types maps b (word_sorts ws)
  block_said types maps (Block' shape row end) ws =
      ap (λ ss. Open ∷ ss) (ap word_sorts (append_assoc (spell_row types maps row) (on end Close ∷ []) ws) ∙ row_said types maps _ row (on end Close ∷ ws))

  row_said : (types : List TypeForm) (maps : List MapForm) (n : _) (row : Row_of-Statement n) (ws : List Word) → word_sorts (spell_row types maps row ++ ws) ≡ say_row types maps row (word_sorts ws)
  row_said types maps _ end_of-Statement ws = refl
  row_said types maps _ (more_of-Statement line action rest) ws =
      ap word_sorts (append_assoc (spell_action types maps line action) (spell_row types maps rest) ws) ∙ action_said types maps line action (spell_row types maps rest ++ ws) ∙ ap (say_action types maps action) (row_said types maps _ rest ws)

-- ---- declarations and lines

-- one line after the other
abbrev pub say_lines : {A : Type 0} → (A → List Sort → List Sort) → List A → List Sort → List Sort
say_lines f [] more = more
say_lines f (x ∷ xs) more = f x (say_lines f xs more)

lines_said : {A : Type 0} (f : A → List Word) (g : A → List Sort → List Sort) → ((x : A) (ws : List Word) → word_sorts (f x ++ ws) ≡ g x (word_sorts ws))
    → (xs : List A) (ws : List Word) → word_sorts (flat_map f xs ++ ws) ≡ say_lines g xs (word_sorts ws)
lines_said f g h [] ws = refl
lines_said f g h (x ∷ xs) ws = ap word_sorts (append_assoc (f x) (flat_map f xs) ws) ∙ h x (flat_map f xs ++ ws) ∙ ap (g x) (lines_said f g h xs ws)

abbrev pub say_counted : Bool → List Sort → List Sort
say_counted true more = Reserved word.Counted ∷ more
say_counted false more = more

abbrev pub say_node : Option Node → List Sort → List Sort
say_node None more = more
say_node (Some n) more = Reserved (node_word n) ∷ more

abbrev pub say_names : List (List ℕ) → List Sort → List Sort
say_names [] more = more
say_names (n ∷ ns) more = Name n ∷ say_names ns more

abbrev pub say_pad : Option ℕ → List Sort → List Sort
say_pad None more = more
say_pad (Some n) more = Reserved word.Pad ∷ Number n ∷ more

abbrev pub say_type : TypeDeclaration → List Sort → List Sort
say_type t more = Reserved word.Type ∷ Name t.name ∷ say_counted t.counted (say_node t.node (Open ∷ say_names t.fields (say_pad t.pad (Close ∷ more))))

abbrev pub say_map : List TypeForm → MapDeclaration → List Sort → List Sort
say_map types m more = Reserved (map_word m.kind) ∷ Name m.name ∷ Name (type_name types m.type_id.0) ∷ more

abbrev pub say_script : List TypeForm → List MapForm → Script → List Sort → List Sort
say_script types maps s more = Reserved word.Script ∷ Name s.name ∷ Reserved (script_word s.kind) ∷ say_block types maps s.body more

abbrev pub say_run : List ScriptForm → RunLine → List Sort → List Sort
say_run scripts r more = Reserved word.Run ∷ Number r.processor ∷ Name (script_name scripts r.script.0) ∷ more

abbrev pub say_at : List ScriptForm → AtLine → List Sort → List Sort
say_at scripts a more = Reserved word.At ∷ Number a.processor ∷ Number a.step ∷ Number a.level ∷ Name (script_name scripts a.script.0) ∷ more

abbrev pub say_turns : Option (List ℕ) → List Sort → List Sort
say_turns None more = more
say_turns (Some turns) more = Reserved word.Turns ∷ Open ∷ say_numbers turns (Close ∷ more)

counted_said : (b : Bool) (vs ws : List Word) → word_sorts ((counted_words b ++ vs) ++ ws) ≡ say_counted b (word_sorts (vs ++ ws))
counted_said true vs ws = refl
counted_said false vs ws = refl

node_said : (o : Option Node) (vs ws : List Word) → word_sorts ((node_words o ++ vs) ++ ws) ≡ say_node o (word_sorts (vs ++ ws))
node_said None vs ws = refl
node_said (Some n) vs ws = refl

names_said : (ns : List (List ℕ)) (vs ws : List Word) → word_sorts ((map name ns ++ vs) ++ ws) ≡ say_names ns (word_sorts (vs ++ ws))
names_said [] vs ws = refl
names_said (n ∷ ns) vs ws = ap (λ ss. Name n ∷ ss) (names_said ns vs ws)

pad_said : (o : Option ℕ) (ws : List Word) → word_sorts ((pad_words o ++ any Close ∷ []) ++ ws) ≡ say_pad o (Close ∷ word_sorts ws)
pad_said None ws = refl
pad_said (Some n) ws = refl

type_said : (t : TypeDeclaration) (ws : List Word) → word_sorts (spell_type t ++ ws) ≡ say_type t (word_sorts ws)
type_said t ws =
    let v3 = pad_words t.pad ++ any Close ∷ [] in
    let v2 = map name t.fields ++ v3 in
    let v1 = node_words t.node ++ any Open ∷ v2 in
    ap (λ ss. Reserved word.Type ∷ Name t.name ∷ ss)
    (counted_said t.counted v1 ws ∙ ap (say_counted t.counted)
    (node_said t.node (any Open ∷ v2) ws ∙ ap (λ ss. say_node t.node (Open ∷ ss))
    (names_said t.fields v3 ws ∙ ap (say_names t.fields) (pad_said t.pad ws))))

script_said : (types : List TypeForm) (maps : List MapForm) (s : Script) (ws : List Word) → word_sorts (spell_script types maps s ++ ws) ≡ say_script types maps s (word_sorts ws)
script_said types maps s ws = ap (λ ss. Reserved word.Script ∷ Name s.name ∷ Reserved (script_word s.kind) ∷ ss) (block_said types maps s.body ws)

turns_said : (o : Option (List ℕ)) → word_sorts (spell_turns o ++ any Close ∷ any End ∷ []) ≡ say_turns o (Close ∷ End ∷ [])
turns_said None = refl
turns_said (Some ns) = ap (λ ss. Reserved word.Turns ∷ Open ∷ ss) (ap word_sorts (append_assoc (map number ns) (any Close ∷ []) (any Close ∷ any End ∷ [])) ∙ numbers_said ns (any Close ∷ any Close ∷ any End ∷ []))

-- ---- a scenario, from each of its parts on, under what is declared

abbrev pub from_turns : Parts → List Sort
from_turns s = say_turns s.turns (Close ∷ End ∷ [])

abbrev pub from_ats : List ScriptForm → Parts → List Sort
from_ats scripts s = say_lines (say_at scripts) s.ats (from_turns s)

abbrev pub from_runs : List ScriptForm → Parts → List Sort
from_runs scripts s = say_lines (say_run scripts) s.runs (from_ats scripts s)

abbrev pub from_scripts : List TypeForm → List MapForm → List ScriptForm → Parts → List Sort
from_scripts types maps scripts s = say_lines (say_script types maps) s.scripts (from_runs scripts s)

abbrev pub from_maps : List TypeForm → List MapForm → List ScriptForm → Parts → List Sort
from_maps types maps scripts s = say_lines (say_map types) s.maps (from_scripts types maps scripts s)

abbrev pub from_types : List TypeForm → List MapForm → List ScriptForm → Parts → List Sort
from_types types maps scripts s = say_lines say_type s.types (from_maps types maps scripts s)

abbrev pub say_scenario : Parts → List Sort
say_scenario s =
    Reserved word.Scenario ∷ Open ∷ Reserved word.Processors ∷ Number s.processors ∷ Reserved word.Pages ∷ Number s.pages ∷ Reserved word.Deferred ∷ Reserved (on_or_off s.deferred) ∷
    from_types (map type_form s.types) (map map_form s.maps) (map script_form s.scripts) s

scenario_said : (s : Parts) → word_sorts (spell_scenario s ++ any End ∷ []) ≡ say_scenario s
scenario_said s =
    let ts = map type_form s.types in let ms = map map_form s.maps in let ss = map script_form s.scripts in
    let r6 = spell_turns s.turns ++ any Close ∷ any End ∷ [] in
    let r5 = flat_map (spell_at ss) s.ats ++ r6 in
    let r4 = flat_map (spell_run ss) s.runs ++ r5 in
    let r3 = flat_map (spell_script ts ms) s.scripts ++ r4 in
    let r2 = flat_map (spell_map ts) s.maps ++ r3 in
    let r1 = flat_map spell_type s.types ++ r2 in
    let front : List Sort → List Sort = λ more. Reserved word.Scenario ∷ Open ∷ Reserved word.Processors ∷ Number s.processors ∷ Reserved word.Pages ∷ Number s.pages ∷ Reserved word.Deferred ∷ Reserved (on_or_off s.deferred) ∷ more in
    ap word_sorts (sym (end-of-seven (spell_header s.processors s.pages s.deferred) (flat_map spell_type s.types) (flat_map (spell_map ts) s.maps) (flat_map (spell_script ts ms) s.scripts) (flat_map (spell_run ss) s.runs) (flat_map (spell_at ss) s.ats) (spell_turns s.turns) (any Close) (any End)))
    ∙ ap front
    (lines_said spell_type say_type type_said s.types r2 ∙ ap (say_lines say_type s.types)
    (lines_said (spell_map ts) (say_map ts) (λ m ws. refl) s.maps r3 ∙ ap (say_lines (say_map ts) s.maps)
    (lines_said (spell_script ts ms) (say_script ts ms) (script_said ts ms) s.scripts r4 ∙ ap (say_lines (say_script ts ms) s.scripts)
    (lines_said (spell_run ss) (say_run ss) (λ r ws. refl) s.runs r5 ∙ ap (say_lines (say_run ss) s.runs)
    (lines_said (spell_at ss) (say_at ss) (λ a ws. refl) s.ats r6 ∙ ap (say_lines (say_at ss) s.ats) (turns_said s.turns))))))

-- ---- what is read of a text

said_sorts : (ws : List Word) (a : List Mark) → Says a ws [] → sorts a ≡ word_sorts ws
said_sorts [] a h = ap sorts h
said_sorts (w ∷ ws) a h = ap sorts h.2 ∙ ap (λ ss. w.sort ∷ ss) (said_sorts ws h.1 h.3)

-- lines apart, two scenarios that are read of one text say the same
pub both_say : (bytes : List ℕ) (s g : Parts) → ReadsButLines bytes s → ReadsButLines bytes g → say_scenario s ≡ say_scenario g
both_say bytes s g h k =
    sym (scenario_said s) ∙ sym (said_sorts (spell_scenario s ++ any End ∷ []) (tokens start bytes) h.said)
    ∙ said_sorts (spell_scenario g ++ any End ∷ []) (tokens start bytes) k.said ∙ scenario_said g
