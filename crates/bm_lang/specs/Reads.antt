-- What a reader's parts do to the tokens that are left.
use Rattle.std.specs.Prelude.{◌≡◌, ℕ, Bool, false, List, [], ◌∷◌, ◌++◌, Option, Some, None, Result, Ok, Err, IfSome, is_some}
use Rattle.bm_lang.specs.declared.place.Place.{Place}
use Rattle.bm_lang.specs.declared.fault.LangFault.{LangFault}
use Rattle.bm_lang.specs.declared.fault.LangFault.TheVariants.{Bad, NoMemory}
use Rattle.bm_lang.specs.declared.scenario.MapKind.{MapKind}
use Rattle.bm_lang.specs.declared.scenario.Node.{Node}
use Rattle.bm_lang.specs.declared.scenario.ScriptKind.{ScriptKind}
use Rattle.bm_lang.specs.Tokens.{Sort, Open, Close, Number, Reserved, Name, End, Wrong, Mark}
use Rattle.bm_lang.specs.Names.{Names}
use Rattle.bm_lang.specs.Grammar.{Symbol, Statements, CloseBrace, KindOfScript, Braced, with_script, refusal, map_kind_of, node_of}
use Rattle.bm_lang.specs.Machine.{parse, bad}
use Rattle.bm_lang.specs.Spelling.{Word, node_word, map_word, script_word, reserved}

abbrev pub mark : Sort → Place → Mark
mark t p = record { sort = t; place = p }

-- The tokens `old` begin with these words, and `new` stands behind them.
abbrev pub Spells : List Mark → List Word → List Mark → Type 0
Spells old [] new = old ≡ new
Spells old (w ∷ ws) new =
    (p : Place) × (more : List Mark) × (old ≡ record { sort = w.sort; place = p } ∷ more)
    × IfSome w.line (λ l. l ≡ p.line) × Spells more ws new

-- The same, but for the lines.
abbrev pub Says : List Mark → List Word → List Mark → Type 0
Says old [] new = old ≡ new
Says old (w ∷ ws) new =
    (p : Place) × (more : List Mark) × (old ≡ record { sort = w.sort; place = p } ∷ more)
    × Says more ws new

-- The machine takes the tokens `old` at the symbols f, whatever may come behind them, goes on at the symbols g with
-- the tokens `new`, and these tokens were the words of something fine.
pub record Read (names : Names) (f : List Symbol) (after : Names) (g : List Symbol)
    (words : List Word) (Fine : Type 0) (old new : List Mark) : Type 0 where
  pub grammar : (k : List Symbol) → parse old names (f ++ k) ≡ parse new after (g ++ k)
  pub spelled : Spells old words new
  pub fine : Fine

-- A fault is the one at which the machine stops.
abbrev pub Fails : LangFault → Names → List Symbol → List Mark → Type 0
Fails NoMemory names f old = Unit {0}
Fails (Bad b) names f old = (k : List Symbol) → parse old names (f ++ k) ≡ Some b

-- What was read, or the fault.
abbrev pub Reading :
    {X : Type 0} → Result X LangFault → Names → List Symbol → (X → Names) → (X → List Word)
    → (X → Type 0) → List Mark → List Mark → Type 0
Reading (Ok x) names f after words fine old new =
    Read names f (after x) [] (words x) (fine x) old new
Reading (Err e) names f after words fine old new = Fails e names f old

-- A statement was read, or the fault, and further ones may come.
abbrev pub Stating :
    {X : Type 0} → Result X LangFault → Names → ℕ → (X → List Word) → (X → Type 0) → List Mark
    → List Mark → Type 0
Stating (Ok x) names d words fine old new =
    Read names (Statements d ∷ []) names (Statements d ∷ []) (words x) (fine x) old new
Stating (Err e) names d words fine old new = Fails e names (Statements d ∷ CloseBrace ∷ []) old

-- The next token is of one sort, and was taken, or isn't.
abbrev pub Gets :
    {X : Type 0} → Result X LangFault → (X → Mark) → (Sort → Bool) → List Mark → List Mark → Type 0
Gets (Ok x) mark test old new = old ≡ mark x ∷ new
Gets (Err NoMemory) mark test old new = Unit {0}
Gets (Err (Bad f)) mark test old new =
    (m : Mark) × (more : List Mark) × (old ≡ m ∷ more) × (test m.sort ≡ false)
    × (f ≡ bad m.place (refusal m.sort))

-- A token that may come was taken, or another one comes.
pub record Absent (test : Sort → Bool) (old new : List Mark) : Type 0 where
  pub front : Mark
  pub more : List Mark
  pub stays : new ≡ old
  pub front_is : old ≡ front ∷ more
  pub other : test front.sort ≡ false

abbrev pub May :
    {X : Type 0} → Option X → (X → Mark) → (Sort → Bool) → List Mark → List Mark → Type 0
May (Some x) mark test old new = old ≡ mark x ∷ new
May None mark test old new = Absent test old new

-- A map's word that may come was taken, or another token comes.
abbrev pub begins_map : Sort → Bool
begins_map (Reserved w) = is_some (map_kind_of w)
begins_map Open = false
begins_map Close = false
begins_map (Number n) = false
begins_map (Name n) = false
begins_map End = false
begins_map (Wrong why) = false

-- The same of a node's word.
abbrev pub begins_node : Sort → Bool
begins_node (Reserved w) = is_some (node_of w)
begins_node Open = false
begins_node Close = false
begins_node (Number n) = false
begins_node (Name n) = false
begins_node End = false
begins_node (Wrong why) = false

abbrev pub MayHaveNode : Option (Node × Place) → List Mark → List Mark → Type 0
MayHaveNode r old new = May r (λ x. mark (Reserved (node_word x.0)) x.1) begins_node old new

abbrev pub MayBegin : Option (MapKind × Place) → List Mark → List Mark → Type 0
MayBegin r old new = May r (λ x. mark (Reserved (map_word x.0)) x.1) begins_map old new

-- A script's kind was read, and its block comes, or the fault.
abbrev pub Kinding : Result ScriptKind LangFault → Names → List ℕ → List Mark → List Mark → Type 0
Kinding (Ok k) names n old new =
    Read names (KindOfScript n ∷ []) (with_script names n k) (Braced 16 ∷ [])
    (reserved (script_word k) ∷ []) (Unit {0}) old new
Kinding (Err e) names n old new = Fails e names (KindOfScript n ∷ []) old
