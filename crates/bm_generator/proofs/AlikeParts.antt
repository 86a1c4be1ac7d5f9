-- Scenarios that say the same as a generated one, lines apart: they exceed no limit, and each of their scripts is accepted.
use Rattle.std.proofs.Common.{◌≡◌, ℕ, zero, suc, ◌+◌, ◌-◌, ◌≤◌, ◌==◌, Bool, true, false, not, List, [], ◌∷◌, ◌++◌, length, refl, sym, ap, ap₂, ◌∙◌, subst, Option, Some, None, arith}
use Rattle.std.specs.Prelude.{All, map, slice_get, unwrap_or, nat_lt, if◌then◌else◌}
use Rattle.std.specs.Option.{option_map, option_map_or}
use Rattle.std.specs.List.{list_any}
use Rattle.std.specs.Str.{bytes_eq}
use mathlib.Core.Path.{fun_ext}
use Rattle.bm_lang.specs.declared.keyword.Keyword.TheVariants as word
use Rattle.bm_lang.specs.declared.scenario.Node.{Node}
use Rattle.bm_lang.specs.declared.scenario.Node.TheVariants as node
use Rattle.bm_lang.specs.declared.scenario.Parts.{Parts}
use Rattle.bm_lang.specs.declared.scenario.TypeDeclaration.{TypeDeclaration}
use Rattle.bm_lang.specs.declared.scenario.MapDeclaration.{MapDeclaration}
use Rattle.bm_lang.specs.declared.scenario.MapKind.{MapKind}
use Rattle.bm_lang.specs.declared.scenario.MapKind.TheVariants as map_kind
use Rattle.bm_lang.specs.declared.scenario.Script.{Script}
use Rattle.bm_lang.specs.declared.scenario.RunLine.{RunLine}
use Rattle.bm_lang.specs.declared.scenario.AtLine.{AtLine}
use Rattle.bm_lang.specs.declared.scenario.TypeId.{TypeId}
use Rattle.bm_lang.specs.Tokens.{Sort, Open, Close, Reserved, End}
use Rattle.bm_lang.specs.Names.{TypeForm, MapForm, ScriptForm, holds, runs_as}
use Rattle.bm_lang.specs.Known.{form}
use Rattle.bm_lang.specs.Grammar.{is_word, is_name, node_of, map_kind_of, script_kind_of}
use Rattle.bm_lang.specs.Reads.{begins_map}
use Rattle.bm_lang.specs.Spelling.{type_form, map_form, script_form, type_name, map_name, script_name, node_word, map_word, script_word}
use Rattle.bm_lang.specs.Limits.{first_limit, script_cost, cost_on, statements_of, some_below}
use Rattle.bm_lang.specs.Fine.{FineBlock, FineMaps, FineScripts, FineRun, FineAt, HasConditions}
use Rattle.bm_lang.proofs.Steps.{node_known, map_known, script_known}
use Rattle.bm_check.specs.declared.name_state.HeldLock.TheVariants.{Nothing}
use Rattle.bm_check.specs.declared.rule.Rule.TheVariants as rule
use Rattle.bm_check.specs.Names.{no_names, owns_some}
use Rattle.bm_check.specs.Statements.{setting_of, need}
use Rattle.bm_check.specs.Blocks.{Place, at, Outcome, Broken, Reaches, unless_broken, end_line, judged_block}
use Rattle.bm_check.specs.Scripts.{judged_script, broken_rule, Accepted, AllAccepted}
use Rattle.bm_generator.specs.Generated.{generated, scripts}
use Rattle.bm_generator.proofs.TextLemmas.{known_types, known_maps}
use Rattle.bm_generator.proofs.Conditions.{has_conditions}
use Rattle.bm_generator.proofs.LimitLemmas.{within_limits}
use Rattle.bm_generator.proofs.Acceptance.{all_accepted}
use Rattle.bm_generator.proofs.Pairs.{Each, Pairs, pairs-map, pairs-length, pairs-at, pairs-any, pairs-sum, pairs-found}
use Rattle.bm_generator.proofs.WordSorts.{say_lines, say_counted, say_node, say_names, say_pad, say_type, say_map, say_script, say_run, say_at, say_turns, from_turns, from_ats, from_runs, from_scripts, from_maps, from_types, say_scenario}
use Rattle.bm_generator.proofs.AlikeBlocks.{IsIn, is_in, Around, same_block, same_numbers, reached, then_alike, unless_alike}

-- whether the first of some sorts doesn't pass a test
abbrev isnt : (Sort → Bool) → List Sort → Bool
isnt test [] = true
isnt test (s ∷ ss) = not (test s)

-- ---- lines of one kind

-- Lines that begin with a word of one kind, before something else: where each line says what it is, so do all.
same_lines : {A : Type 0} (f : A → List Sort → List Sort) (test : Sort → Bool) (P : A → Type 0) (R : A → A → Type 0) → ((x : A) (more : List Sort) → isnt test (f x more) ≡ false)
    → ((x y : A) (xs ys : List Sort) → P x → P y → f x xs ≡ f y ys → R x y × (xs ≡ ys))
    → (rs bs : List A) (xs ys : List Sort) → Each P rs → Each P bs → isnt test xs ≡ true → isnt test ys ≡ true → say_lines f rs xs ≡ say_lines f bs ys → Pairs R rs bs × (xs ≡ ys)
same_lines f test P R begins one [] [] xs ys p q i j h = (tt, h)
same_lines f test P R begins one [] (b ∷ bs) xs ys p q i j h = let e : isnt test xs ≡ isnt test (f b (say_lines f bs ys)) = ap (isnt test) h in let k = begins b (say_lines f bs ys) in cc
same_lines f test P R begins one (a ∷ rs) [] xs ys p q i j h = let e : isnt test (f a (say_lines f rs xs)) ≡ isnt test ys = ap (isnt test) h in let k = begins a (say_lines f rs xs) in cc
same_lines f test P R begins one (a ∷ rs) (b ∷ bs) xs ys p q i j h =
    let r = one a b (say_lines f rs xs) (say_lines f bs ys) p.0 q.0 h in
    let s = same_lines f test P R begins one rs bs xs ys p.1 q.1 i j r.1 in
    ((r.0, s.0), s.1)

-- lines pass a test where each line does, and what stands behind them
lines_isnt : {A : Type 0} (f : A → List Sort → List Sort) (test : Sort → Bool) (xs : List A) (more : List Sort) → ((x : A) (more : List Sort) → isnt test (f x more) ≡ true) → isnt test more ≡ true → isnt test (say_lines f xs more) ≡ true
lines_isnt f test [] more h e = e
lines_isnt f test (x ∷ xs) more h e = h x (say_lines f xs more)

any_each : {A : Type 0} (xs : List A) → Each (λ (x : A). Unit {0}) xs
any_each [] = tt
any_each (x ∷ xs) = (tt, any_each xs)

-- ---- types

same_counted : (b c : Bool) (xs ys : List Sort) → isnt (is_word word.Counted) xs ≡ true → isnt (is_word word.Counted) ys ≡ true → say_counted b xs ≡ say_counted c ys → (b ≡ c) × (xs ≡ ys)
same_counted true true xs ys i j h = (refl, cc)
same_counted false false xs ys i j h = (refl, h)
same_counted true false xs ys i j h = let e : false ≡ isnt (is_word word.Counted) ys = ap (isnt (is_word word.Counted)) h in cc
same_counted false true xs ys i j h = let e : isnt (is_word word.Counted) xs ≡ false = ap (isnt (is_word word.Counted)) h in cc

no_count : (o : Option Node) (more : List Sort) → isnt (is_word word.Counted) (say_node o (Open ∷ more)) ≡ true
no_count None more = refl
no_count (Some node.List) more = refl
no_count (Some node.Tree) more = refl

same_node : (o u : Option Node) (xs ys : List Sort) → say_node o (Open ∷ xs) ≡ say_node u (Open ∷ ys) → (o ≡ u) × (xs ≡ ys)
same_node None None xs ys h = (refl, cc)
same_node None (Some m) xs ys h = cc
same_node (Some n) None xs ys h = cc
same_node (Some n) (Some m) xs ys h = let e : node_word n ≡ node_word m = cc in (sym (node_known n) ∙ ap node_of e ∙ node_known m, cc)

same_names : (ns ms : List (List ℕ)) (xs ys : List Sort) → isnt is_name xs ≡ true → isnt is_name ys ≡ true → say_names ns xs ≡ say_names ms ys → (ns ≡ ms) × (xs ≡ ys)
same_names [] [] xs ys i j h = (refl, h)
same_names [] (m ∷ ms) xs ys i j h = let e : isnt is_name xs ≡ false = ap (isnt is_name) h in cc
same_names (n ∷ ns) [] xs ys i j h = let e : false ≡ isnt is_name ys = ap (isnt is_name) h in cc
same_names (n ∷ ns) (m ∷ ms) xs ys i j h =
    let e : n ≡ m = cc in
    let more : say_names ns xs ≡ say_names ms ys = cc in
    let r = same_names ns ms xs ys i j more in
    (ap₂ (λ (v : List ℕ) vs. v ∷ vs) e r.0, r.1)

no_name : (o : Option ℕ) (more : List Sort) → isnt is_name (say_pad o (Close ∷ more)) ≡ true
no_name None more = refl
no_name (Some n) more = refl

same_pad : (o u : Option ℕ) (xs ys : List Sort) → say_pad o (Close ∷ xs) ≡ say_pad u (Close ∷ ys) → (o ≡ u) × (xs ≡ ys)
same_pad None None xs ys h = (refl, cc)
same_pad None (Some m) xs ys h = cc
same_pad (Some n) None xs ys h = cc
same_pad (Some n) (Some m) xs ys h = (cc, cc)

abbrev pub SameType : TypeDeclaration → TypeDeclaration → Type 0
SameType t u = type_form t ≡ type_form u

same_form : (n m : List ℕ) (b c : Bool) (o u : Option Node) (fs gs : List (List ℕ)) (p q : ℕ) → n ≡ m → b ≡ c → o ≡ u → fs ≡ gs → p ≡ q → form n b o fs p ≡ form m c u gs q
same_form n m b c o u fs gs p q e1 e2 e3 e4 e5 = rw (e1, e2, e3, e4, e5) refl

one_type : (t u : TypeDeclaration) (xs ys : List Sort) → Unit {0} → Unit {0} → say_type t xs ≡ say_type u ys → SameType t u × (xs ≡ ys)
one_type t u xs ys p q h =
    let x4 = say_pad t.pad (Close ∷ xs) in let y4 = say_pad u.pad (Close ∷ ys) in
    let x3 = say_names t.fields x4 in let y3 = say_names u.fields y4 in
    let x2 = say_node t.node (Open ∷ x3) in let y2 = say_node u.node (Open ∷ y3) in
    let n : t.name ≡ u.name = cc in
    let k : say_counted t.counted x2 ≡ say_counted u.counted y2 = cc in
    let c = same_counted t.counted u.counted x2 y2 (no_count t.node x3) (no_count u.node y3) k in
    let d = same_node t.node u.node x3 y3 c.1 in
    let f = same_names t.fields u.fields x4 y4 (no_name t.pad xs) (no_name u.pad ys) d.1 in
    let e = same_pad t.pad u.pad xs ys f.1 in
    (same_form t.name u.name t.counted u.counted t.node u.node t.fields u.fields (unwrap_or t.pad 0) (unwrap_or u.pad 0) n c.0 d.0 f.0 (ap (λ (o : Option ℕ). unwrap_or o 0) e.0), e.1)

-- ---- maps

-- ids that are spelled by one name are one
abbrev pub OneId : {A : Type 0} → (List A → ℕ → List ℕ) → List A → Type 0
OneId name xs = (i j : ℕ) → IsIn xs i → IsIn xs j → name xs i ≡ name xs j → i ≡ j

pub record SameMap (m k : MapDeclaration) : Type 0 where
  pub forms : map_form m ≡ map_form k
  pub type_ids : m.type_id ≡ k.type_id

map_begins : (types : List TypeForm) (m : MapDeclaration) (more : List Sort) → isnt begins_map (say_map types m more) ≡ false
map_begins types m more = by_kind m.kind
  where
    by_kind : (k : MapKind) → not (begins_map (Reserved (map_word k))) ≡ false
    by_kind map_kind.Slot = refl
    by_kind map_kind.List = refl
    by_kind map_kind.Tree = refl

one_map : (types : List TypeForm) → OneId type_name types → (m k : MapDeclaration) (xs ys : List Sort) → IsIn types m.type_id.0 → IsIn types k.type_id.0 → say_map types m xs ≡ say_map types k ys → SameMap m k × (xs ≡ ys)
one_map types ids m k xs ys p q h =
    let w : map_word m.kind ≡ map_word k.kind = cc in
    let s : Some m.kind ≡ Some k.kind = sym (map_known m.kind) ∙ ap map_kind_of w ∙ map_known k.kind in
    let kind : m.kind ≡ k.kind = cc in
    let n : m.name ≡ k.name = cc in
    let i = ids m.type_id.0 k.type_id.0 p q (cc) in (
      record {
        forms = ap₂ (λ (n : List ℕ) (k : MapKind). let f : MapForm = record { name = n; kind = k } in f) n kind;
        type_ids = ap (λ (i : ℕ). let t : TypeId = record { 0 = i } in t) i;
      },
      cc,
    )

maps_in : (types : List TypeForm) (before : List MapForm) (ms : List MapDeclaration) → FineMaps types before ms → Each (λ (m : MapDeclaration). IsIn types m.type_id.0) ms
maps_in types before [] f = tt
maps_in types before (m ∷ ms) f = (is_in (λ (e : TypeForm). holds m.kind e.node ≡ true) (slice_get types m.type_id.0) f.1, maps_in types (before ++ map_form m ∷ []) ms f.2)

-- ---- scripts

pub record SameScript (s g : Parts) (x y : Script) : Type 0 where
  pub forms : script_form x ≡ script_form y
  pub cost : script_cost (Some x) ≡ script_cost (Some y)
  pub judged : (p : Place) → reached (judged_block (setting_of s x.kind) p x.body) ≡ reached (judged_block (setting_of g y.kind) p y.body)

-- two scenarios that declare the same types and maps, lines apart
record SameDeclared (types : List TypeForm) (maps : List MapForm) (s g : Parts) : Type 0 where
  types_same : Pairs SameType s.types g.types
  maps_same : Pairs SameMap s.maps g.maps
  type_ids : OneId type_name types
  map_ids : OneId map_name maps

abbrev around : (types : List TypeForm) (maps : List MapForm) (s g : Parts) → SameDeclared types maps s g → (x y : Script) → x.kind ≡ y.kind → Around
around types maps s g d x y k = record {
  types = types;
  maps = maps;
  here = setting_of s x.kind;
  there = setting_of g y.kind;
  counted = fun_ext (λ t. pairs-at SameType (λ o. option_map_or (λ e. e.counted) o false) (λ u v e. ap (λ (f : TypeForm). f.counted) e) s.types g.types t.0 d.types_same);
  fields = λ f. fun_ext (λ t. pairs-at SameType (λ o. option_map_or (λ e. list_any (bytes_eq f) e.fields) o false) (λ u v e. ap (λ (h : TypeForm). list_any (bytes_eq f) h.fields) e) s.types g.types t.0 d.types_same);
  held = λ m. pairs-at SameMap (λ o. option_map (λ e. e.type_id) o) (λ u v e. ap (λ t. Some t) e.type_ids) s.maps g.maps m.0 d.maps_same;
  kind = k;
  type_ids = d.type_ids;
  map_ids = d.map_ids;
}

one_script : (types : List TypeForm) (maps : List MapForm) (s g : Parts) → SameDeclared types maps s g → (x y : Script) (xs ys : List Sort) → FineBlock types maps 16 x.body → FineBlock types maps 16 y.body
    → say_script types maps x xs ≡ say_script types maps y ys → SameScript s g x y × (xs ≡ ys)
one_script types maps s g d x y xs ys p q h =
    let w : script_word x.kind ≡ script_word y.kind = cc in
    let e : Some x.kind ≡ Some y.kind = sym (script_known x.kind) ∙ ap script_kind_of w ∙ script_known y.kind in
    let kind : x.kind ≡ y.kind = cc in
    let n : x.name ≡ y.name = cc in
    let b = same_block x.body y.body (around types maps s g d x y kind) 16 xs ys p q (cc) in (
      record {
        forms = ap₂ (λ (n : List ℕ) k. let f : ScriptForm = record { name = n; kind = k } in f) n kind;
        cost = ap (λ (i : ℕ). 10 + i) b.0.cost;
        judged = b.0.judged;
      },
      b.1,
    )

scripts_fine : (types : List TypeForm) (maps : List MapForm) (before : List ScriptForm) (ss : List Script) → FineScripts types maps before ss → Each (λ (s : Script). FineBlock types maps 16 s.body) ss
scripts_fine types maps before [] f = tt
scripts_fine types maps before (s ∷ ss) f = (f.1, scripts_fine types maps (before ++ script_form s ∷ []) ss f.2)

-- ---- the lines that run scripts, and the turns

abbrev pub SameRun : RunLine → RunLine → Type 0
SameRun r u = (r.processor ≡ u.processor) × (r.script.0 ≡ u.script.0)

abbrev pub SameAt : AtLine → AtLine → Type 0
SameAt a u = (a.processor ≡ u.processor) × (a.script.0 ≡ u.script.0)

one_run : (scripts : List ScriptForm) → OneId script_name scripts → (r u : RunLine) (xs ys : List Sort) → IsIn scripts r.script.0 → IsIn scripts u.script.0 → say_run scripts r xs ≡ say_run scripts u ys → SameRun r u × (xs ≡ ys)
one_run scripts ids r u xs ys p q h = ((cc, ids r.script.0 u.script.0 p q (cc)), cc)

one_at : (scripts : List ScriptForm) → OneId script_name scripts → (a u : AtLine) (xs ys : List Sort) → IsIn scripts a.script.0 → IsIn scripts u.script.0 → say_at scripts a xs ≡ say_at scripts u ys → SameAt a u × (xs ≡ ys)
one_at scripts ids a u xs ys p q h = ((cc, ids a.script.0 u.script.0 p q (cc)), cc)

runs_in : (n : ℕ) (scripts : List ScriptForm) (rs : List RunLine) → All (FineRun n scripts) rs → Each (λ (r : RunLine). IsIn scripts r.script.0) rs
runs_in n scripts [] f = tt
runs_in n scripts (r ∷ rs) f =
    let one : FineRun n scripts r = f 0 r (omega arith) in
    (is_in (λ (s : ScriptForm). runs_as false s.kind ≡ true) (slice_get scripts r.script.0) one.script, runs_in n scripts rs (λ k d lt. f (suc k) d (omega arith)))

ats_in : (n : ℕ) (scripts : List ScriptForm) (rs : List AtLine) → All (FineAt n scripts) rs → Each (λ (a : AtLine). IsIn scripts a.script.0) rs
ats_in n scripts [] f = tt
ats_in n scripts (a ∷ rs) f =
    let one : FineAt n scripts a = f 0 a (omega arith) in
    (is_in (λ (s : ScriptForm). runs_as true s.kind ≡ true) (slice_get scripts a.script.0) one.script, ats_in n scripts rs (λ k d lt. f (suc k) d (omega arith)))

same_turns : (o u : Option (List ℕ)) → say_turns o (Close ∷ End ∷ []) ≡ say_turns u (Close ∷ End ∷ []) → o ≡ u
same_turns None None h = refl
same_turns None (Some u) h = cc
same_turns (Some o) None h = cc
same_turns (Some o) (Some u) h = ap (λ ns. Some ns) (same_numbers o u (Close ∷ Close ∷ End ∷ []) (Close ∷ Close ∷ End ∷ []) refl refl (cc)).0

-- ---- what doesn't begin the parts behind

-- a test that the last parts' words don't pass
record PassesTurns (test : Sort → Bool) : Type 0 where
  turns : not (test (Reserved word.Turns)) ≡ true
  close : not (test Close) ≡ true

turns_isnt : (test : Sort → Bool) (s : Parts) → PassesTurns test → isnt test (from_turns s) ≡ true
turns_isnt test s h = by_turns s.turns
  where
    by_turns : (o : Option (List ℕ)) → isnt test (say_turns o (Close ∷ End ∷ [])) ≡ true
    by_turns None = h.close
    by_turns (Some ns) = h.turns

ats_isnt : (test : Sort → Bool) (ss : List ScriptForm) (s : Parts) → PassesTurns test → not (test (Reserved word.At)) ≡ true → isnt test (from_ats ss s) ≡ true
ats_isnt test ss s h a = lines_isnt (say_at ss) test s.ats (from_turns s) (λ x more. a) (turns_isnt test s h)

runs_isnt : (test : Sort → Bool) (ss : List ScriptForm) (s : Parts) → PassesTurns test → not (test (Reserved word.At)) ≡ true → not (test (Reserved word.Run)) ≡ true → isnt test (from_runs ss s) ≡ true
runs_isnt test ss s h a r = lines_isnt (say_run ss) test s.runs (from_ats ss s) (λ x more. r) (ats_isnt test ss s h a)

scripts_isnt : (test : Sort → Bool) (ts : List TypeForm) (ms : List MapForm) (ss : List ScriptForm) (s : Parts) → PassesTurns test → not (test (Reserved word.At)) ≡ true → not (test (Reserved word.Run)) ≡ true → not (test (Reserved word.Script)) ≡ true
    → isnt test (from_scripts ts ms ss s) ≡ true
scripts_isnt test ts ms ss s h a r p = lines_isnt (say_script ts ms) test s.scripts (from_runs ss s) (λ x more. p) (runs_isnt test ss s h a r)

maps_isnt : (ts : List TypeForm) (ms : List MapForm) (ss : List ScriptForm) (s : Parts) → isnt (is_word word.Type) (from_maps ts ms ss s) ≡ true
maps_isnt ts ms ss s =
    lines_isnt (say_map ts) (is_word word.Type) s.maps (from_scripts ts ms ss s) (λ m more. by_kind m.kind) (scripts_isnt (is_word word.Type) ts ms ss s (record { turns = refl; close = refl }) refl refl refl)
  where
    by_kind : (k : MapKind) → not (is_word word.Type (Reserved (map_word k))) ≡ true
    by_kind map_kind.Slot = refl
    by_kind map_kind.List = refl
    by_kind map_kind.Tree = refl

-- ---- two scenarios that say the same

pub record SameParts (s g : Parts) : Type 0 where
  pub processors : s.processors ≡ g.processors
  pub pages : s.pages ≡ g.pages
  pub types : Pairs SameType s.types g.types
  pub maps : Pairs SameMap s.maps g.maps
  pub scripts : Pairs (SameScript s g) s.scripts g.scripts
  pub runs : Pairs SameRun s.runs g.runs
  pub ats : Pairs SameAt s.ats g.ats
  pub turns : s.turns ≡ g.turns

-- the second's names are told apart by their bytes alone
pub record OwnNames (g : Parts) : Type 0 where
  pub types : OneId type_name (map type_form g.types)
  pub maps : OneId map_name (map map_form g.maps)
  pub scripts : OneId script_name (map script_form g.scripts)

pub same_parts : (s g : Parts) → HasConditions s → HasConditions g → OwnNames g → say_scenario s ≡ say_scenario g → SameParts s g
same_parts s g cs cg ids h =
    let ts = map type_form s.types in let ms = map map_form s.maps in let ss = map script_form s.scripts in
    let tg = map type_form g.types in let mg = map map_form g.maps in let sg = map script_form g.scripts in
    let whole : from_types ts ms ss s ≡ from_types tg mg sg g = cc in
    let t = same_lines say_type (is_word word.Type) (λ x. Unit {0}) SameType (λ x more. refl) one_type s.types g.types (from_maps ts ms ss s) (from_maps tg mg sg g) (any_each s.types) (any_each g.types) (maps_isnt ts ms ss s) (maps_isnt tg mg sg g) whole in
    let et : ts ≡ tg = pairs-map SameType type_form (λ x y e. e) s.types g.types t.0 in
    let m = same_lines (say_map tg) begins_map (λ x. IsIn tg x.type_id.0) SameMap (map_begins tg) (one_map tg ids.types) s.maps g.maps (from_scripts tg ms ss s) (from_scripts tg mg sg g)
    (subst (λ (fs : List TypeForm). Each (λ (x : MapDeclaration). IsIn fs x.type_id.0) s.maps) et (maps_in ts [] s.maps cs.maps)) (maps_in tg [] g.maps cg.maps)
    (scripts_isnt begins_map tg ms ss s (record { turns = refl; close = refl }) refl refl refl) (scripts_isnt begins_map tg mg sg g (record { turns = refl; close = refl }) refl refl refl)
    (sym (ap (λ (fs : List TypeForm). from_maps fs ms ss s) et) ∙ t.1) in
    let em : ms ≡ mg = pairs-map SameMap map_form (λ x y e. e.forms) s.maps g.maps m.0 in
    let d : SameDeclared tg mg s g = record { types_same = t.0; maps_same = m.0; type_ids = ids.types; map_ids = ids.maps } in
    let blocks : Each (λ (x : Script). FineBlock tg mg 16 x.body) s.scripts
    = subst (λ (fs : List TypeForm). Each (λ (x : Script). FineBlock fs mg 16 x.body) s.scripts) et (subst (λ (fs : List MapForm). Each (λ (x : Script). FineBlock ts fs 16 x.body) s.scripts) em (scripts_fine ts ms [] s.scripts cs.scripts)) in
    let p = same_lines (say_script tg mg) (is_word word.Script) (λ x. FineBlock tg mg 16 x.body) (SameScript s g) (λ x more. refl) (one_script tg mg s g d) s.scripts g.scripts (from_runs ss s) (from_runs sg g)
    blocks (scripts_fine tg mg [] g.scripts cg.scripts)
    (runs_isnt (is_word word.Script) ss s (record { turns = refl; close = refl }) refl refl) (runs_isnt (is_word word.Script) sg g (record { turns = refl; close = refl }) refl refl)
    (sym (ap (λ (fs : List MapForm). from_scripts tg fs ss s) em) ∙ m.1) in
    let es : ss ≡ sg = pairs-map (SameScript s g) script_form (λ x y e. e.forms) s.scripts g.scripts p.0 in
    let r = same_lines (say_run sg) (is_word word.Run) (λ x. IsIn sg x.script.0) SameRun (λ x more. refl) (one_run sg ids.scripts) s.runs g.runs (from_ats sg s) (from_ats sg g)
    (subst (λ (fs : List ScriptForm). Each (λ (x : RunLine). IsIn fs x.script.0) s.runs) es (runs_in s.processors ss s.runs cs.runs)) (runs_in g.processors sg g.runs cg.runs)
    (ats_isnt (is_word word.Run) sg s (record { turns = refl; close = refl }) refl) (ats_isnt (is_word word.Run) sg g (record { turns = refl; close = refl }) refl)
    (sym (ap (λ (fs : List ScriptForm). from_runs fs s) es) ∙ p.1) in
    let a = same_lines (say_at sg) (is_word word.At) (λ x. IsIn sg x.script.0) SameAt (λ x more. refl) (one_at sg ids.scripts) s.ats g.ats (from_turns s) (from_turns g)
    (subst (λ (fs : List ScriptForm). Each (λ (x : AtLine). IsIn fs x.script.0) s.ats) es (ats_in s.processors ss s.ats cs.ats)) (ats_in g.processors sg g.ats cg.ats)
    (turns_isnt (is_word word.At) s (record { turns = refl; close = refl })) (turns_isnt (is_word word.At) g (record { turns = refl; close = refl })) r.1 in
    record { processors = cc; pages = cc; types = t.0; maps = m.0; scripts = p.0; runs = r.0; ats = a.0; turns = same_turns s.turns g.turns a.1 }

-- ---- limits and acceptance

same_statements : (s g : Parts) → SameParts s g → (p : ℕ) → statements_of s p ≡ statements_of g p
same_statements s g h p =
    let cost : (i j : ℕ) → i ≡ j → script_cost (slice_get s.scripts i) ≡ script_cost (slice_get g.scripts j)
    = λ i j e. pairs-at (SameScript s g) script_cost (λ x y k. k.cost) s.scripts g.scripts i h.scripts ∙ ap (λ k. script_cost (slice_get g.scripts k)) e in
    ap₂ (λ (a b : ℕ). a + b)
    (pairs-sum SameRun (λ r. cost_on p r.processor (script_cost (slice_get s.scripts r.script.0))) (λ r. cost_on p r.processor (script_cost (slice_get g.scripts r.script.0)))
    (λ x y e. ap₂ (λ (a b : ℕ). cost_on p a b) e.0 (cost x.script.0 y.script.0 e.1)) s.runs g.runs h.runs)
    (pairs-sum SameAt (λ r. cost_on p r.processor (script_cost (slice_get s.scripts r.script.0))) (λ r. cost_on p r.processor (script_cost (slice_get g.scripts r.script.0)))
    (λ x y e. ap₂ (λ (a b : ℕ). cost_on p a b) e.0 (cost x.script.0 y.script.0 e.1)) s.ats g.ats h.ats)

pub same_limit : (s g : Parts) → SameParts s g → first_limit s ≡ first_limit g
same_limit s g h =
    let fields : list_any (λ t. nat_lt 8 (length t.fields)) s.types ≡ list_any (λ t. nat_lt 8 (length t.fields)) g.types
    = pairs-any SameType (λ t. nat_lt 8 (length t.fields)) (λ x y e. ap (λ (f : TypeForm). nat_lt 8 (length f.fields)) e) s.types g.types h.types in
    let many : (λ (p : ℕ). nat_lt 20000 (statements_of s p)) ≡ (λ (p : ℕ). nat_lt 20000 (statements_of g p)) = fun_ext (λ p. ap (nat_lt 20000) (same_statements s g h p)) in
    let test : some_below s.processors (λ p. nat_lt 20000 (statements_of s p)) ≡ some_below g.processors (λ p. nat_lt 20000 (statements_of g p)) = ap₂ some_below h.processors many in
    rw (test, fields, h.processors, h.pages, pairs-length SameType s.types g.types h.types, pairs-length SameMap s.maps g.maps h.maps, pairs-length (SameScript s g) s.scripts g.scripts h.scripts, pairs-length SameAt s.ats g.ats h.ats, h.turns) refl

accepted_as : (o u : Outcome) → reached o ≡ reached u → broken_rule u ≡ None → broken_rule o ≡ None
accepted_as (Reaches p) u h k = refl
accepted_as (Broken line r) (Broken i b) h k = cc
accepted_as (Broken line r) (Reaches p) h k = cc

same_script : (s g : Parts) (x y : Script) → SameScript s g x y → Accepted g y → Accepted s x
same_script s g x y h k =
    let rest : Script → Place → Outcome = λ z p. unless_broken (end_line z.body) (need (not (owns_some p.names)) rule.NothingOwned) (Reaches p) in
    accepted_as (judged_script s x) (judged_script g y)
    (then_alike (judged_block (setting_of s x.kind) (at no_names Nothing) x.body) (judged_block (setting_of g y.kind) (at no_names Nothing) y.body) (rest x) (rest y) (h.judged (at no_names Nothing))
    (λ p. unless_alike (end_line x.body) (end_line y.body) (need (not (owns_some p.names)) rule.NothingOwned) (Reaches p) (Reaches p) refl)) k

pub same_accepted : (s g : Parts) → SameParts s g → AllAccepted g → AllAccepted s
same_accepted s g h k i x e =
    let f = pairs-found (SameScript s g) s.scripts g.scripts i x h.scripts e in
    same_script s g x f.0 f.2 (k i f.0 f.1)

-- ---- a generated scenario's own names

abbrev type_place : List ℕ → ℕ
type_place [] = 0
type_place (b ∷ bs) = if b == 106 then 0 else (if b == 110 then 1 else 2)

abbrev map_place : List ℕ → ℕ
map_place [] = 0
map_place (b ∷ bs) = if b == 115 then 0 else (if b == 113 then 1 else 2)

abbrev script_place : List ℕ → ℕ
script_place (b ∷ c ∷ bs) = c - 48
script_place _ = 4

type_at : (i : ℕ) → IsIn known_types i → type_place (type_name known_types i) ≡ i
type_at zero h = refl
type_at (suc zero) h = refl
type_at (suc (suc zero)) h = refl
type_at (suc (suc (suc i))) h = cc

map_at : (i : ℕ) → IsIn known_maps i → map_place (map_name known_maps i) ≡ i
map_at zero h = refl
map_at (suc zero) h = refl
map_at (suc (suc zero)) h = refl
map_at (suc (suc (suc i))) h = cc

script_at : (n s i : ℕ) → IsIn (map script_form (scripts 4 0 n s 17)) i → script_place (script_name (map script_form (scripts 4 0 n s 17)) i) ≡ i
script_at n s zero h = refl
script_at n s (suc zero) h = refl
script_at n s (suc (suc zero)) h = refl
script_at n s (suc (suc (suc zero))) h = refl
script_at n s (suc (suc (suc (suc zero)))) h = refl
script_at n s (suc (suc (suc (suc (suc i))))) h = cc

one_id : {A : Type 0} (name : List A → ℕ → List ℕ) (xs : List A) (place : List ℕ → ℕ) → ((i : ℕ) → IsIn xs i → place (name xs i) ≡ i) → OneId name xs
one_id name xs place at i j p q e = sym (at i p) ∙ ap place e ∙ at j q

own_names : (n s : ℕ) → OwnNames (generated n s)
own_names n s = record {
  types = one_id type_name known_types type_place type_at;
  maps = one_id map_name known_maps map_place map_at;
  scripts = one_id script_name (map script_form (scripts 4 0 n s 17)) script_place (script_at n s);
}

-- what says the same as a generated scenario has the same parts
pub generated_parts : (n start : ℕ) → n ≤ 2000 → (s : Parts) → HasConditions s → say_scenario s ≡ say_scenario (generated n start) → SameParts s (generated n start)
generated_parts n start few s c h = same_parts s (generated n start) c (has_conditions n start few) (own_names n start) h

pub like_generated : (n start : ℕ) → n ≤ 2000 → (s : Parts) → HasConditions s → say_scenario s ≡ say_scenario (generated n start) → (first_limit s ≡ None) × AllAccepted s
like_generated n start few s c h =
    let p = generated_parts n start few s c h in
    (same_limit s (generated n start) p ∙ within_limits n start few, same_accepted s (generated n start) p (all_accepted n start few))
