-- A scenario as the words of its text, by recursion on its parts.
use Rattle.std.specs.Prelude.{ℕ, Bool, true, false, List, [], ◌∷◌, ◌++◌, Option, Some, None, map, slice_get, unwrap_or, option_map}
use Rattle.std.specs.List.{flat_map}
use Rattle.bm_lang.specs.declared.keyword.Keyword.{Keyword}
use Rattle.bm_lang.specs.declared.keyword.Keyword.TheVariants as word
use Rattle.bm_lang.specs.declared.scenario.Action.{Action, New, Drop, Acquire, Get, Exchange, If', Repeat, Section, Lock, Unlock, Yield, PushFront, PushBack, PopFront, PopBack, Add, First, Remove, Held-Action-If-2, None', Some'}
use Rattle.bm_lang.specs.declared.scenario.Block.{Block, Block', Row_of-Statement, end_of-Statement, more_of-Statement}
use Rattle.bm_lang.specs.declared.scenario.Parts.{Parts}
use Rattle.bm_lang.specs.declared.scenario.TypeDeclaration.{TypeDeclaration}
use Rattle.bm_lang.specs.declared.scenario.MapDeclaration.{MapDeclaration}
use Rattle.bm_lang.specs.declared.scenario.Script.{Script}
use Rattle.bm_lang.specs.declared.scenario.RunLine.{RunLine}
use Rattle.bm_lang.specs.declared.scenario.AtLine.{AtLine}
use Rattle.bm_lang.specs.declared.scenario.Node.{Node}
use Rattle.bm_lang.specs.declared.scenario.Node.TheVariants as node
use Rattle.bm_lang.specs.declared.scenario.MapKind.{MapKind}
use Rattle.bm_lang.specs.declared.scenario.MapKind.TheVariants as kind
use Rattle.bm_lang.specs.declared.scenario.ScriptKind.{ScriptKind}
use Rattle.bm_lang.specs.declared.scenario.ScriptKind.TheVariants as script
use Rattle.bm_lang.specs.Tokens.{Sort, Open, Close, Number, Reserved, Name}
use Rattle.bm_lang.specs.Names.{TypeForm, MapForm, ScriptForm, Names, no_draft}

-- what a declaration makes known
abbrev pub type_form : TypeDeclaration → TypeForm
type_form t =
    record {
      name = t.name;
      counted = t.counted;
      node = t.node;
      fields = t.fields;
      pad = unwrap_or t.pad 0;
    }

abbrev pub map_form : MapDeclaration → MapForm
map_form m = record { name = m.name; kind = m.kind }

abbrev pub script_form : Script → ScriptForm
script_form s = record { name = s.name; kind = s.kind }

abbrev pub declared : Parts → Names
declared s =
    record {
      processors = s.processors;
      types = map type_form s.types;
      maps = map map_form s.maps;
      scripts = map script_form s.scripts;
      draft = no_draft;
    }

-- the names under which declared things are spelled
abbrev pub type_name : List TypeForm → ℕ → List ℕ
type_name types i = unwrap_or (option_map (λ x. x.name) (slice_get types i)) []

abbrev pub map_name : List MapForm → ℕ → List ℕ
map_name maps i = unwrap_or (option_map (λ x. x.name) (slice_get maps i)) []

abbrev pub script_name : List ScriptForm → ℕ → List ℕ
script_name scripts i = unwrap_or (option_map (λ x. x.name) (slice_get scripts i)) []

-- a token, and its line where the scenario keeps it
pub record Word : Type 0 where
  pub sort : Sort
  pub line : Option ℕ

abbrev pub any : Sort → Word
any t = record { sort = t; line = None }

abbrev pub on : ℕ → Sort → Word
on l t = record { sort = t; line = Some l }

abbrev pub name : List ℕ → Word
name n = any (Name n)

abbrev pub number : ℕ → Word
number n = any (Number n)

abbrev pub reserved : Keyword → Word
reserved w = any (Reserved w)

abbrev pub name_or_null : Option (List ℕ) → Word
name_or_null (Some n) = name n
name_or_null None = reserved word.Null

abbrev mutual
  -- a statement whose first word stands on line l
  pub spell_action : List TypeForm → List MapForm → ℕ → Action → List Word
  spell_action types maps l (New x t values) =
      on l (Reserved word.New) ∷ name x ∷ name (type_name types t.0) ∷ map number values
  spell_action types maps l (Drop x) = on l (Reserved word.Drop) ∷ name x ∷ []
  spell_action types maps l (Acquire y x) = on l (Reserved word.Acquire) ∷ name y ∷ name x ∷ []
  spell_action types maps l (Get x f) = on l (Reserved word.Get) ∷ name x ∷ name f ∷ []
  spell_action types maps l (Exchange y s x) =
      on l (Reserved word.Xchg) ∷ name y ∷ name (map_name maps s.0) ∷ name_or_null x ∷ []
  spell_action types maps l (If' x body otherwise) =
      on l (Reserved word.If) ∷ name x
      ∷ (spell_block types maps body ++ spell_else types maps otherwise)
  spell_action types maps l (Repeat n body) =
      on l (Reserved word.Repeat) ∷ number n ∷ spell_block types maps body
  spell_action types maps l (Section body) =
      on l (Reserved word.Section) ∷ spell_block types maps body
  spell_action types maps l (Lock g) = on l (Reserved word.Lock) ∷ name (map_name maps g.0) ∷ []
  spell_action types maps l Unlock = on l (Reserved word.Unlock) ∷ []
  spell_action types maps l Yield = on l (Reserved word.Yield) ∷ []
  spell_action types maps l (PushFront q x) =
      on l (Reserved word.PushFront) ∷ name (map_name maps q.0) ∷ name x ∷ []
  spell_action types maps l (PushBack q x) =
      on l (Reserved word.PushBack) ∷ name (map_name maps q.0) ∷ name x ∷ []
  spell_action types maps l (PopFront x q) =
      on l (Reserved word.PopFront) ∷ name x ∷ name (map_name maps q.0) ∷ []
  spell_action types maps l (PopBack x q) =
      on l (Reserved word.PopBack) ∷ name x ∷ name (map_name maps q.0) ∷ []
  spell_action types maps l (Add t x) =
      on l (Reserved word.Add) ∷ name (map_name maps t.0) ∷ name x ∷ []
  spell_action types maps l (First x t) =
      on l (Reserved word.First) ∷ name x ∷ name (map_name maps t.0) ∷ []
  spell_action types maps l (Remove y t x) =
      on l (Reserved word.Remove) ∷ name y ∷ name (map_name maps t.0) ∷ name x ∷ []

  pub spell_else : List TypeForm → List MapForm → Held-Action-If-2 → List Word
  spell_else types maps None' = []
  spell_else types maps (Some' body) = reserved word.Else ∷ spell_block types maps body

  pub spell_block : List TypeForm → List MapForm → Block → List Word
  spell_block types maps (Block' shape row end_line) =
      any Open ∷ (spell_row types maps row ++ on end_line Close ∷ [])

  pub spell_row : List TypeForm → List MapForm → {m : _} → Row_of-Statement m → List Word
  spell_row types maps end_of-Statement = []
  spell_row types maps (more_of-Statement line action rest) =
      spell_action types maps line action ++ spell_row types maps rest

abbrev pub node_word : Node → Keyword
node_word node.List = word.List
node_word node.Tree = word.Tree

abbrev pub node_words : Option Node → List Word
node_words None = []
node_words (Some n) = reserved (node_word n) ∷ []

abbrev pub counted_words : Bool → List Word
counted_words true = reserved word.Counted ∷ []
counted_words false = []

abbrev pub pad_words : Option ℕ → List Word
pad_words None = []
pad_words (Some n) = reserved word.Pad ∷ number n ∷ []

-- a type behind its first word
abbrev pub type_words : TypeDeclaration → List Word
type_words t =
    name t.name
    ∷ (counted_words t.counted
    ++ (node_words t.node ++ any Open
    ∷ (map name t.fields ++ (pad_words t.pad ++ any Close ∷ []))))

abbrev pub spell_type : TypeDeclaration → List Word
spell_type t = on t.line (Reserved word.Type) ∷ type_words t

abbrev pub map_word : MapKind → Keyword
map_word kind.Slot = word.Slot
map_word kind.List = word.List
map_word kind.Tree = word.Tree

-- a map behind its first word
abbrev pub map_words : List TypeForm → MapDeclaration → List Word
map_words types m = name m.name ∷ name (type_name types m.type_id.0) ∷ []

abbrev pub spell_map : List TypeForm → MapDeclaration → List Word
spell_map types m = on m.line (Reserved (map_word m.kind)) ∷ map_words types m

abbrev pub script_word : ScriptKind → Keyword
script_word script.Plain = word.Plain
script_word script.Sleepable = word.Sleepable
script_word script.Handler = word.Handler

-- a script behind its first word
abbrev pub script_words : List TypeForm → List MapForm → Script → List Word
script_words types maps s =
    name s.name ∷ reserved (script_word s.kind) ∷ spell_block types maps s.body

abbrev pub spell_script : List TypeForm → List MapForm → Script → List Word
spell_script types maps s = on s.line (Reserved word.Script) ∷ script_words types maps s

-- a `run` line behind its first word
abbrev pub run_words : List ScriptForm → RunLine → List Word
run_words scripts r = number r.processor ∷ name (script_name scripts r.script.0) ∷ []

abbrev pub spell_run : List ScriptForm → RunLine → List Word
spell_run scripts r = on r.line (Reserved word.Run) ∷ run_words scripts r

-- an `at` line behind its first word
abbrev pub at_words : List ScriptForm → AtLine → List Word
at_words scripts a =
    number a.processor ∷ number a.step ∷ number a.level ∷ name (script_name scripts a.script.0) ∷ []

abbrev pub spell_at : List ScriptForm → AtLine → List Word
spell_at scripts a = on a.line (Reserved word.At) ∷ at_words scripts a

abbrev pub spell_turns : Option (List ℕ) → List Word
spell_turns None = []
spell_turns (Some turns) = reserved word.Turns ∷ any Open ∷ (map number turns ++ any Close ∷ [])

abbrev pub on_or_off : Bool → Keyword
on_or_off true = word.On
on_or_off false = word.Off

abbrev pub spell_header : ℕ → ℕ → Bool → List Word
spell_header processors pages deferred =
    reserved word.Scenario ∷ any Open ∷ reserved word.Processors ∷ number processors
    ∷ reserved word.Pages ∷ number pages ∷ reserved word.Deferred
    ∷ reserved (on_or_off deferred) ∷ []

-- the words of a scenario under what it declares, up to its last brace
abbrev pub spell_under : Names → Parts → List Word
spell_under d s =
    spell_header s.processors s.pages s.deferred ++ (flat_map spell_type s.types
    ++ (flat_map (spell_map d.types) s.maps ++ (flat_map (spell_script d.types d.maps) s.scripts
    ++ (flat_map (spell_run d.scripts) s.runs
    ++ (flat_map (spell_at d.scripts) s.ats ++ (spell_turns s.turns ++ any Close ∷ []))))))

abbrev pub spell_scenario : Parts → List Word
spell_scenario s = spell_under (declared s) s
