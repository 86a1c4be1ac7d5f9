-- The grammar of scenarios, token by token: what may come at a place, and the fault of what may not. It is this
-- project's own, and docs/scenarios.md tells it in words. `next` is the table: one clause a symbol, with the symbols
-- that follow it and the kinds of fault.
use Rattle.std.specs.Prelude.{ℕ, zero, suc, ◌-◌, ◌%◌, Bool, true, false, ◌==◌, ◌||◌, ◌&&◌, not, List, [], ◌∷◌, ◌++◌, length, nat_lt, nat_le, if◌then◌else◌, Option, Some, None, is_some}
use Rattle.std.specs.List.{list_any}
use Rattle.bm_lang.specs.declared.keyword.Keyword.{Keyword}
use Rattle.bm_lang.specs.declared.keyword.Keyword.TheVariants as word
use Rattle.bm_lang.specs.declared.token.TokenFault.TheVariants as stray
use Rattle.bm_lang.specs.declared.fault.BadKind.{BadKind}
use Rattle.bm_lang.specs.declared.fault.BadKind.TheVariants as kind
use Rattle.bm_lang.specs.declared.scenario.Node.{Node}
use Rattle.bm_lang.specs.declared.scenario.Node.TheVariants as node
use Rattle.bm_lang.specs.declared.scenario.MapKind.{MapKind}
use Rattle.bm_lang.specs.declared.scenario.MapKind.TheVariants as map
use Rattle.bm_lang.specs.declared.names.MapNeed.{MapNeed}
use Rattle.bm_lang.specs.declared.names.MapNeed.TheVariants as need
use Rattle.bm_lang.specs.declared.scenario.ScriptKind.{ScriptKind}
use Rattle.bm_lang.specs.declared.scenario.ScriptKind.TheVariants as script
use Rattle.bm_lang.specs.Tokens.{Sort, Open, Close, Number, Reserved, Name, End, Wrong}
use Rattle.bm_lang.specs.Keywords.{keyword_eq}
use Rattle.bm_lang.specs.Names.{TypeForm, MapForm, ScriptForm, Names, no_draft, type_named, map_named, script_named, has_name, has_size, has_key, holds, fits, runs_as}

-- What may come. In `Braced` and what follows it, d more blocks may be opened one inside the other.
pub data Symbol : Type 0 where
  Word : (w : Keyword) → Symbol
  OpenBrace : Symbol
  CloseBrace : Symbol
  EndOfText : Symbol
  AnyName : Symbol
  AnyNumber : Symbol
  OnOrOff : Symbol
  ProcessorCount : Symbol
  Types : Symbol
  TypeName : Symbol
  Counted : Symbol
  NodeOfType : Symbol
  Fields : Symbol
  PadOfType : Symbol
  PadBytes : Symbol
  TypeEnd : Symbol
  Maps : Symbol
  MapName : (k : MapKind) → Symbol
  MapType : (k : MapKind) → Symbol
  Scripts : Symbol
  ScriptName : Symbol
  KindOfScript : (name : List ℕ) → Symbol
  Runs : Symbol
  Processor : Symbol
  Ats : Symbol
  Level : Symbol
  ScriptOf : (handler : Bool) → Symbol
  Turns : Symbol
  TurnNumbers : Symbol
  Braced : (d : ℕ) → Symbol
  Statements : (d : ℕ) → Symbol
  Else : (d : ℕ) → Symbol
  NewType : Symbol
  Values : (n : ℕ) → Symbol
  MapOf : (n : MapNeed) → Symbol
  NameOrNull : Symbol

-- A token at a symbol can't stand there, or the symbol is left out and the token is for the next one, or the token
-- stands, and these symbols come in the symbol's place.
pub data Step : Type 0 where
  Refuse : (why : BadKind) → Step
  Pass : Step
  Shift : (names : Names) (symbols : List Symbol) → Step

-- the kind of a token that can't stand at its place, whatever might
abbrev pub refusal : Sort → BadKind
refusal (Wrong stray.Byte) = kind.Byte
refusal (Wrong stray.Number) = kind.Number
refusal (Wrong stray.Name) = kind.Name
refusal End = kind.End
refusal Open = kind.Unexpected
refusal Close = kind.Unexpected
refusal (Number n) = kind.Unexpected
refusal (Reserved w) = kind.Unexpected
refusal (Name n) = kind.Unexpected

-- the tests of a token
abbrev pub is_word : Keyword → Sort → Bool
is_word w (Reserved v) = keyword_eq v w
is_word w Open = false
is_word w Close = false
is_word w (Number n) = false
is_word w (Name n) = false
is_word w End = false
is_word w (Wrong why) = false

abbrev pub is_open : Sort → Bool
is_open Open = true
is_open Close = false
is_open (Number n) = false
is_open (Reserved w) = false
is_open (Name n) = false
is_open End = false
is_open (Wrong why) = false

abbrev pub is_close : Sort → Bool
is_close Close = true
is_close Open = false
is_close (Number n) = false
is_close (Reserved w) = false
is_close (Name n) = false
is_close End = false
is_close (Wrong why) = false

abbrev pub is_end : Sort → Bool
is_end End = true
is_end Open = false
is_end Close = false
is_end (Number n) = false
is_end (Reserved w) = false
is_end (Name n) = false
is_end (Wrong why) = false

abbrev pub is_name : Sort → Bool
is_name (Name n) = true
is_name Open = false
is_name Close = false
is_name (Number n) = false
is_name (Reserved w) = false
is_name End = false
is_name (Wrong why) = false

abbrev pub is_number : Sort → Bool
is_number (Number n) = true
is_number Open = false
is_number Close = false
is_number (Name n) = false
is_number (Reserved w) = false
is_number End = false
is_number (Wrong why) = false

-- a token that is needed
abbrev pub needed : Bool → Sort → Step → Step
needed b t s = if b then s else Refuse (refusal t)

abbrev pub need_name : Sort → (List ℕ → Step) → Step
need_name (Name n) f = f n
need_name Open f = Refuse (refusal Open)
need_name Close f = Refuse (refusal Close)
need_name (Number n) f = Refuse (refusal (Number n))
need_name (Reserved w) f = Refuse (refusal (Reserved w))
need_name End f = Refuse (refusal End)
need_name (Wrong why) f = Refuse (refusal (Wrong why))

abbrev pub need_number : Sort → (ℕ → Step) → Step
need_number (Number n) f = f n
need_number Open f = Refuse (refusal Open)
need_number Close f = Refuse (refusal Close)
need_number (Name n) f = Refuse (refusal (Name n))
need_number (Reserved w) f = Refuse (refusal (Reserved w))
need_number End f = Refuse (refusal End)
need_number (Wrong why) f = Refuse (refusal (Wrong why))

abbrev pub need_word : Sort → (Keyword → Step) → Step
need_word (Reserved w) f = f w
need_word Open f = Refuse (refusal Open)
need_word Close f = Refuse (refusal Close)
need_word (Number n) f = Refuse (refusal (Number n))
need_word (Name n) f = Refuse (refusal (Name n))
need_word End f = Refuse (refusal End)
need_word (Wrong why) f = Refuse (refusal (Wrong why))

-- a token that may come
abbrev pub may : Bool → Step → Step
may b s = if b then s else Pass

abbrev pub may_name : Sort → (List ℕ → Step) → Step
may_name (Name n) f = f n
may_name Open f = Pass
may_name Close f = Pass
may_name (Number n) f = Pass
may_name (Reserved w) f = Pass
may_name End f = Pass
may_name (Wrong why) f = Pass

abbrev pub may_number : Sort → (ℕ → Step) → Step
may_number (Number n) f = f n
may_number Open f = Pass
may_number Close f = Pass
may_number (Name n) f = Pass
may_number (Reserved w) f = Pass
may_number End f = Pass
may_number (Wrong why) f = Pass

abbrev pub may_word : Sort → (Keyword → Step) → Step
may_word (Reserved w) f = f w
may_word Open f = Pass
may_word Close f = Pass
may_word (Number n) f = Pass
may_word (Name n) f = Pass
may_word End f = Pass
may_word (Wrong why) f = Pass

-- a condition on a token, and the kind of its fault
abbrev pub only_if : Bool → BadKind → Step → Step
only_if b why s = if b then s else Refuse why

-- the statements that aren't built yet
abbrev pub later_words : List Keyword
later_words = word.Peek ∷ word.Weak ∷ []

abbrev pub is_later : Keyword → Bool
is_later w = list_any (λ v. keyword_eq v w) later_words

-- what follows a statement's word
abbrev pub statement_body : ℕ → Keyword → Option (List Symbol)
statement_body d word.New = Some (AnyName ∷ NewType ∷ [])
statement_body d word.Drop = Some (AnyName ∷ [])
statement_body d word.Acquire = Some (AnyName ∷ AnyName ∷ [])
statement_body d word.Get = Some (AnyName ∷ AnyName ∷ [])
statement_body d word.Xchg = Some (AnyName ∷ MapOf need.Slot ∷ NameOrNull ∷ [])
statement_body d word.If = Some (AnyName ∷ Braced d ∷ Else d ∷ [])
statement_body d word.Repeat = Some (AnyNumber ∷ Braced d ∷ [])
statement_body d word.Section = Some (Braced d ∷ [])
statement_body d word.Lock = Some (MapOf need.Graph ∷ [])
statement_body d word.Unlock = Some []
statement_body d word.Yield = Some []
statement_body d word.PushFront = Some (MapOf need.List ∷ AnyName ∷ [])
statement_body d word.PushBack = Some (MapOf need.List ∷ AnyName ∷ [])
statement_body d word.PopFront = Some (AnyName ∷ MapOf need.List ∷ [])
statement_body d word.PopBack = Some (AnyName ∷ MapOf need.List ∷ [])
statement_body d word.Add = Some (MapOf need.Tree ∷ AnyName ∷ [])
statement_body d word.First = Some (AnyName ∷ MapOf need.Tree ∷ [])
statement_body d word.Remove = Some (AnyName ∷ MapOf need.Tree ∷ AnyName ∷ [])
statement_body d w = None

abbrev pub statement_step : Names → ℕ → Keyword → Option (List Symbol) → Step
statement_step names d w (Some body) = Shift names (body ++ Statements d ∷ [])
statement_step names d w None = if is_later w then Refuse kind.NotYet else Pass

-- what a name means, where one of a kind is needed
abbrev pub new_step : Names → Option TypeForm → Step
new_step names (Some t) = Shift names (Values (length t.fields) ∷ [])
new_step names None = Refuse kind.Unknown

abbrev pub map_type_step : Names → MapKind → Option TypeForm → Step
map_type_step names k (Some t) = only_if (holds k t.node) kind.Wrong (Shift names [])
map_type_step names k None = Refuse kind.Unknown

abbrev pub map_step : Names → (MapKind → Bool) → Option MapForm → Step
map_step names fit (Some m) = only_if (fit m.kind) kind.Unknown (Shift names [])
map_step names fit None = Refuse kind.Unknown

abbrev pub script_step : Names → Bool → Option ScriptForm → Step
script_step names handler (Some s) = only_if (runs_as handler s.kind) kind.Wrong (Shift names [])
script_step names handler None = Refuse kind.Unknown

-- what a declaration makes known
abbrev pub with_node : Names → Node → Names
with_node names n = record names { draft = record names.draft { node = Some n } }

abbrev pub with_field : Names → List ℕ → Names
with_field names n =
    record names { draft = record names.draft { fields = names.draft.fields ++ n ∷ [] } }

abbrev pub with_type : Names → Names
with_type names = record names { types = names.types ++ names.draft ∷ []; draft = no_draft }

abbrev pub with_map : Names → List ℕ → MapKind → Names
with_map names n k = record names { maps = names.maps ++ record { name = n; kind = k } ∷ [] }

abbrev pub with_script : Names → List ℕ → ScriptKind → Names
with_script names n k =
    record names { scripts = names.scripts ++ record { name = n; kind = k } ∷ [] }

-- what some words stand for
abbrev pub node_of : Keyword → Option Node
node_of word.List = Some node.List
node_of word.Tree = Some node.Tree
node_of w = None

abbrev pub map_kind_of : Keyword → Option MapKind
map_kind_of word.Slot = Some map.Slot
map_kind_of word.List = Some map.List
map_kind_of word.Tree = Some map.Tree
map_kind_of w = None

abbrev pub script_kind_of : Keyword → Option ScriptKind
script_kind_of word.Plain = Some script.Plain
script_kind_of word.Sleepable = Some script.Sleepable
script_kind_of word.Handler = Some script.Handler
script_kind_of w = None

abbrev pub node_step : Names → Option Node → Step
node_step names (Some n) = Shift (with_node names n) []
node_step names None = Pass

abbrev pub maps_step : Names → Option MapKind → Step
maps_step names (Some k) = Shift names (MapName k ∷ Maps ∷ [])
maps_step names None = Pass

abbrev pub script_kind_step : Names → List ℕ → Option ScriptKind → Step
script_kind_step names n (Some k) = Shift (with_script names n k) (Braced 16 ∷ [])
script_kind_step names n None = Refuse kind.Unexpected

abbrev pub name_or_null_step : Names → Sort → Step
name_or_null_step names t = needed (is_name t || is_word word.Null t) t (Shift names [])

-- the table
abbrev pub next : Names → Symbol → Sort → Step
next names (Word w) t = needed (is_word w t) t (Shift names [])
next names OpenBrace t = needed (is_open t) t (Shift names [])
next names CloseBrace t = needed (is_close t) t (Shift names [])
next names EndOfText t = needed (is_end t) t (Shift names [])
next names AnyName t = need_name t (λ n. Shift names [])
next names AnyNumber t = need_number t (λ n. Shift names [])
next names OnOrOff t = needed (is_word word.On t || is_word word.Off t) t (Shift names [])
next names ProcessorCount t =
    need_number t
    (λ n. only_if (nat_lt 0 n) kind.Range (Shift (record names { processors = n }) []))
next names Types t =
    may (is_word word.Type t)
    (Shift names
    (TypeName ∷ Counted ∷ NodeOfType ∷ OpenBrace ∷ Fields ∷ PadOfType ∷ TypeEnd ∷ Types
    ∷ []))
next names TypeName t =
    need_name t
    (λ n. only_if (not (is_some (type_named names.types n))) kind.Duplicate
    (Shift (record names { draft = record no_draft { name = n } }) []))
next names Counted t =
    may (is_word word.Counted t)
    (Shift (record names { draft = record names.draft { counted = true } }) [])
next names NodeOfType t = may_word t (λ w. node_step names (node_of w))
next names Fields t =
    may_name t
    (λ n. only_if (not (has_name names.draft.fields n)) kind.Duplicate
    (Shift (with_field names n) (Fields ∷ [])))
next names PadOfType t = may (is_word word.Pad t) (Shift names (PadBytes ∷ []))
next names PadBytes t =
    need_number t
    (λ n. only_if (n % 8 == 0) kind.Range
    (Shift (record names { draft = record names.draft { pad = n } }) []))
next names TypeEnd t =
    needed (is_close t) t
    (only_if (has_key names.draft) kind.Wrong
    (only_if (has_size names.draft) kind.TypeSize (Shift (with_type names) [])))
next names Maps t = may_word t (λ w. maps_step names (map_kind_of w))
next names (MapName k) t =
    need_name t
    (λ n. only_if (not (is_some (map_named names.maps n))) kind.Duplicate
    (Shift (with_map names n k) (MapType k ∷ [])))
next names (MapType k) t = need_name t (λ n. map_type_step names k (type_named names.types n))
next names Scripts t = may (is_word word.Script t) (Shift names (ScriptName ∷ Scripts ∷ []))
next names ScriptName t =
    need_name t
    (λ n. only_if (not (is_some (script_named names.scripts n))) kind.Duplicate
    (Shift names (KindOfScript n ∷ [])))
next names (KindOfScript n) t = need_word t (λ w. script_kind_step names n (script_kind_of w))
next names Runs t = may (is_word word.Run t) (Shift names (Processor ∷ ScriptOf false ∷ Runs ∷ []))
next names Processor t =
    need_number t (λ n. only_if (nat_lt n names.processors) kind.Range (Shift names []))
next names (ScriptOf handler) t =
    need_name t (λ n. script_step names handler (script_named names.scripts n))
next names Ats t =
    may (is_word word.At t) (Shift names (Processor ∷ AnyNumber ∷ Level ∷ ScriptOf true ∷ Ats ∷ []))
next names Level t =
    need_number t (λ n. only_if (nat_le 1 n && nat_le n 3) kind.Range (Shift names []))
next names Turns t =
    may (is_word word.Turns t) (Shift names (OpenBrace ∷ TurnNumbers ∷ CloseBrace ∷ []))
next names TurnNumbers t =
    may_number t
    (λ n. only_if (nat_lt n names.processors) kind.Range (Shift names (TurnNumbers ∷ [])))
next names (Braced d) t =
    needed (is_open t) t
    (only_if (nat_lt 0 d) kind.Depth (Shift names (Statements (d - 1) ∷ CloseBrace ∷ [])))
next names (Statements d) t = may_word t (λ w. statement_step names d w (statement_body d w))
next names (Else d) t = may (is_word word.Else t) (Shift names (Braced d ∷ []))
next names NewType t = need_name t (λ n. new_step names (type_named names.types n))
next names (Values zero) t = Pass
next names (Values (suc n)) t = need_number t (λ _. Shift names (Values n ∷ []))
next names (MapOf n) t = need_name t (λ x. map_step names (fits n) (map_named names.maps x))
next names NameOrNull t = name_or_null_step names t

abbrev pub declarations : List Symbol
declarations = Types ∷ Maps ∷ Scripts ∷ Runs ∷ Ats ∷ Turns ∷ CloseBrace ∷ EndOfText ∷ []

-- a whole text
abbrev pub scenario : List Symbol
scenario =
    Word word.Scenario ∷ OpenBrace ∷ Word word.Processors ∷ ProcessorCount ∷ Word word.Pages
    ∷ AnyNumber ∷ Word word.Deferred ∷ OnOrOff ∷ declarations
