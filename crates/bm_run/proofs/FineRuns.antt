-- What a scenario within the limits has that a run needs: maps with names that differ, few of them, and scripts whose statements can run.
use Rattle.std.proofs.Common.{◌≡◌, ℕ, zero, suc, ◌-◌, ◌≤◌, Bool, true, false, not, ◌&&◌, ◌||◌, ◌==◌, if◌then◌else◌, List, [], ◌∷◌, ◌++◌, map, length, nat_lt, nat_le, Option, Some, None, IsSomeAnd, is_some, eqb, eq-eqb, slice_get, refl, subst, arith}
use Rattle.std.specs.List.{list_all, list_any}
use Rattle.std.specs.Str.{bytes_eq}
use Rattle.std.proofs.lemmas.Bool.Decides.{nat_tests}
use Rattle.bm_lang.specs.declared.bounds.Limit.{Limit}
use Rattle.bm_lang.specs.declared.scenario.Action.{Action, New, Drop, Acquire, Get, Exchange, If', Repeat, Section, Lock, Unlock, Yield, PushFront, PushBack, PopFront, PopBack, Add, First, Remove, Held-Action-If-2, None', Some'}
use Rattle.bm_lang.specs.declared.scenario.Block.{Block, Block', Row_of-Statement, end_of-Statement, more_of-Statement}
use Rattle.bm_lang.specs.declared.scenario.MapDeclaration.{MapDeclaration}
use Rattle.bm_lang.specs.declared.scenario.MapKind.{MapKind}
use Rattle.bm_lang.specs.declared.scenario.MapKind.TheVariants as kind
use Rattle.bm_lang.specs.declared.scenario.Parts.{Parts}
use Rattle.bm_lang.specs.declared.scenario.Script.{Script}
use Rattle.bm_lang.specs.declared.scenario.TypeDeclaration.{TypeDeclaration}
use Rattle.bm_lang.specs.declared.names.MapNeed.TheVariants as need
use Rattle.bm_lang.specs.Fine.{FineAction, FineElse, FineBlock, FineMaps, FineRow, FineScripts, FineType, FineTypes, HasConditions, IsMap}
use Rattle.bm_lang.specs.Limits.{first_limit}
use Rattle.bm_lang.specs.Names.{MapForm, ScriptForm, TypeForm, fits, holds, is_tree_node, map_named}
use Rattle.bm_lang.specs.Spelling.{map_form, script_form, type_form}
use Rattle.bm_law_scenario.specs.Declared.{Declared, declared_in}
use Rattle.bm_world.specs.Contents.{are_apart}
use Rattle.bm_exec.specs.Runnable.{can_run_action, can_run_block, can_run_else, can_run_row, has_fields, has_key, has_some_field, is_graph, is_graph_kind, is_slot, is_slot_kind}

both : (a b : Bool) → a ≡ true → b ≡ true → (a && b) ≡ true
both a b g h = rw (g, h) refl

-- ---- names of maps

-- a name that none of these maps has isn't this one
abbrev Taken : List MapForm → List ℕ → Type 0
Taken before name = (n : List ℕ) → is_some (map_named before n) ≡ false → bytes_eq name n ≡ false

some_first : (test : Bool) (found later : Option MapForm) → is_some (if test then found else later) ≡ false → is_some found ≡ true → (test ≡ false) × (is_some later ≡ false)
some_first true found later isnt is = cc
some_first false found later isnt is = (refl, isnt)

not_before : (before more : List MapForm) (n : List ℕ) → is_some (map_named (before ++ more) n) ≡ false → is_some (map_named before n) ≡ false
not_before [] more n isnt = refl
not_before (f ∷ fs) more n isnt =
    let later = some_first (bytes_eq f.name n) (Some f) (map_named (fs ++ more) n) isnt refl in
    rw later.0 (not_before fs more n later.1)

not_last : (before : List MapForm) (last : MapForm) → Taken (before ++ last ∷ []) last.name
not_last [] last n isnt = (some_first (bytes_eq last.name n) (Some last) None isnt refl).0
not_last (f ∷ fs) last n isnt = not_last fs last n (some_first (bytes_eq f.name n) (Some f) (map_named (fs ++ last ∷ []) n) isnt refl).1

others_apart : (types : List TypeForm) (before : List MapForm) (maps : List MapDeclaration) (name : List ℕ) → FineMaps types before maps → Taken before name → list_all (λ n. not (bytes_eq name n)) (map (λ (m : MapDeclaration). m.name) maps) ≡ true
others_apart types before [] name fine taken = refl
others_apart types before (m ∷ ms) name fine taken =
    rw (taken m.name fine.0) (others_apart types (before ++ map_form m ∷ []) ms name fine.2 (λ n isnt. taken n (not_before before (map_form m ∷ []) n isnt)))

-- a map's name isn't among those before
apart_from : (types : List TypeForm) (before : List MapForm) (maps : List MapDeclaration) → FineMaps types before maps → are_apart (map (λ (m : MapDeclaration). m.name) maps) ≡ true
apart_from types before [] fine = refl
apart_from types before (m ∷ ms) fine =
    let more = before ++ map_form m ∷ [] in
    both (list_all (λ n. not (bytes_eq m.name n)) (map (λ (x : MapDeclaration). x.name) ms)) (are_apart (map (λ (x : MapDeclaration). x.name) ms))
    (others_apart types more ms m.name fine.2 (not_last before (map_form m)))
    (apart_from types more ms fine.2)

-- no two maps have one name
pub maps_apart : (s : Parts) → HasConditions s → are_apart (map (λ (m : MapDeclaration). m.name) s.maps) ≡ true
maps_apart s fine = apart_from (map type_form s.types) [] s.maps fine.maps

-- ---- limits

-- some type has more than eight fields
abbrev has_many : List TypeDeclaration → Bool
has_many types = list_any (λ (t : TypeDeclaration). nat_lt 8 (length t.fields)) types

few_fields : (a b c d e : Bool) (l m n k i : Limit) (later : Option Limit) → (if a then Some l else (if b then Some m else (if c then Some n else (if d then Some k else (if e then Some i else later))))) ≡ None → (d ≡ false) × (e ≡ false)
few_fields true b c d e l m n k i later h = cc
few_fields false true c d e l m n k i later h = cc
few_fields false false true d e l m n k i later h = cc
few_fields false false false true e l m n k i later h = cc
few_fields false false false false true l m n k i later h = cc
few_fields false false false false false l m n k i later h = (refl, refl)

at_most : (limit n : ℕ) → nat_lt limit n ≡ false → n ≤ limit
at_most limit n h = grind (arith, nat_tests)

within : (s : Parts) → first_limit s ≡ None → (has_many s.types ≡ false) × (nat_lt 64 (length s.maps) ≡ false)
within s limits = few_fields (nat_lt 8 s.processors) (nat_lt 256 s.pages) (nat_lt 32 (length s.types)) (has_many s.types) (nat_lt 64 (length s.maps)) _ _ _ _ _ _ limits

-- there are at most 64
pub maps_few : (s : Parts) → first_limit s ≡ None → length s.maps ≤ 64
maps_few s limits = at_most 64 (length s.maps) (within s limits).1

-- ---- what statements name

few : (a b : ℕ) (more : Bool) → (nat_lt 8 b || more) ≡ false → a ≡ b → nat_le a 8 ≡ true
few a b more h e = grind (arith, nat_tests)

first_few : (a : Bool) (b : Bool) → (a || b) ≡ false → b ≡ false
first_few true b h = cc
first_few false b h = h

new_runs : (types : List TypeDeclaration) (i : ℕ) (values : List ℕ) → has_many types ≡ false → IsSomeAnd (slice_get (map type_form types) i) (λ e. length values ≡ length e.fields) → (has_fields (slice_get types i) (length values) && nat_le (length values) 8) ≡ true
new_runs [] i values h fine = absurd fine
new_runs (t ∷ ts) zero values h fine = both (eqb (length values) (length t.fields)) (nat_le (length values) 8) (eq-eqb (length values) (length t.fields) fine) (few (length values) (length t.fields) (has_many ts) h fine)
new_runs (t ∷ ts) (suc i) values h fine = new_runs ts i values (first_few (nat_lt 8 (length t.fields)) (has_many ts) h) fine

fits_slot : (k : MapKind) → fits need.Slot k ≡ true → is_slot_kind k ≡ true
fits_slot kind.Slot fine = refl
fits_slot kind.List fine = cc
fits_slot kind.Tree fine = cc

fits_list : (k : MapKind) → fits need.List k ≡ true → is_graph_kind false k ≡ true
fits_list kind.Slot fine = cc
fits_list kind.List fine = refl
fits_list kind.Tree fine = cc

fits_tree : (k : MapKind) → fits need.Tree k ≡ true → is_graph_kind true k ≡ true
fits_tree kind.Slot fine = cc
fits_tree kind.List fine = cc
fits_tree kind.Tree fine = refl

fits_graph : (k : MapKind) → fits need.Graph k ≡ true → (is_graph_kind false k || is_graph_kind true k) ≡ true
fits_graph kind.Slot fine = cc
fits_graph kind.List fine = refl
fits_graph kind.Tree fine = refl

slot_runs : (maps : List MapDeclaration) (i : ℕ) → IsMap (map map_form maps) need.Slot i → is_slot (slice_get maps i) ≡ true
slot_runs [] i fine = absurd fine
slot_runs (m ∷ ms) zero fine = fits_slot m.kind fine
slot_runs (m ∷ ms) (suc i) fine = slot_runs ms i fine

list_runs : (maps : List MapDeclaration) (i : ℕ) → IsMap (map map_form maps) need.List i → is_graph false (slice_get maps i) ≡ true
list_runs [] i fine = absurd fine
list_runs (m ∷ ms) zero fine = fits_list m.kind fine
list_runs (m ∷ ms) (suc i) fine = list_runs ms i fine

tree_runs : (maps : List MapDeclaration) (i : ℕ) → IsMap (map map_form maps) need.Tree i → is_graph true (slice_get maps i) ≡ true
tree_runs [] i fine = absurd fine
tree_runs (m ∷ ms) zero fine = fits_tree m.kind fine
tree_runs (m ∷ ms) (suc i) fine = tree_runs ms i fine

graph_runs : (maps : List MapDeclaration) (i : ℕ) → IsMap (map map_form maps) need.Graph i → (is_graph false (slice_get maps i) || is_graph true (slice_get maps i)) ≡ true
graph_runs [] i fine = absurd fine
graph_runs (m ∷ ms) zero fine = fits_graph m.kind fine
graph_runs (m ∷ ms) (suc i) fine = graph_runs ms i fine

-- ---- keys of trees

-- a type whose objects a tree holds has a first field
key_of : (t : TypeDeclaration) → FineType t → is_tree_node t.node ≡ true → nat_lt 0 (length t.fields) ≡ true
key_of t fine is = some (length t.fields) (subst (λ b. not (b && (length t.fields == 0)) ≡ true) is fine.key)
  where
    some : (n : ℕ) → not (true && (n == 0)) ≡ true → nat_lt 0 n ≡ true
    some zero h = cc
    some (suc n) h = grind (arith, nat_tests)

type_keyed : (before : List TypeForm) (types : List TypeDeclaration) (i : ℕ) → FineTypes before types → IsSomeAnd (slice_get (map type_form types) i) (λ (e : TypeForm). is_tree_node e.node ≡ true) → has_some_field (slice_get types i) ≡ true
type_keyed before [] i fine is = absurd is
type_keyed before (t ∷ ts) zero fine is = key_of t fine.1 is
type_keyed before (t ∷ ts) (suc i) fine is = type_keyed (before ++ type_form t ∷ []) ts i fine.2 is

some_tree : (k : MapKind) (o : Option TypeForm) → fits need.Tree k ≡ true → IsSomeAnd o (λ (e : TypeForm). holds k e.node ≡ true) → IsSomeAnd o (λ (e : TypeForm). is_tree_node e.node ≡ true)
some_tree kind.Slot o fine h = cc
some_tree kind.List o fine h = cc
some_tree kind.Tree o fine h = h

tree_keyed : (types : List TypeDeclaration) (before : List MapForm) (maps : List MapDeclaration) (i : ℕ) → FineTypes [] types → FineMaps (map type_form types) before maps → IsMap (map map_form maps) need.Tree i → has_key types (slice_get maps i) ≡ true
tree_keyed types before [] i typed fine is = absurd is
tree_keyed types before (m ∷ ms) zero typed fine is = type_keyed [] types m.type_id.0 typed (some_tree m.kind (slice_get (map type_form types) m.type_id.0) is fine.1)
tree_keyed types before (m ∷ ms) (suc i) typed fine is = tree_keyed types (before ++ map_form m ∷ []) ms i typed fine.2 is

-- ---- statements

module _ (known : Declared) (few_each : has_many known.types ≡ false) (typed : FineTypes [] known.types) (mapped : FineMaps (map type_form known.types) [] known.maps) where
  mutual
    action_runs : (d : ℕ) (a : Action) → FineAction (map type_form known.types) (map map_form known.maps) d a → can_run_action known a ≡ true
    action_runs d (New x t values) fine = new_runs known.types t.0 values few_each fine
    action_runs d (Drop x) fine = refl
    action_runs d (Acquire y x) fine = refl
    action_runs d (Get x field) fine = refl
    action_runs d (Exchange y slot put) fine = slot_runs known.maps slot.0 fine
    action_runs d (If' x body otherwise) fine = both (can_run_block known body) (can_run_else known otherwise) (block_runs d body fine.0) (else_runs d otherwise fine.1)
    action_runs d (Repeat n body) fine = block_runs d body fine
    action_runs d (Section body) fine = block_runs d body fine
    action_runs d (Lock graph) fine = graph_runs known.maps graph.0 fine
    action_runs d Unlock fine = refl
    action_runs d Yield fine = refl
    action_runs d (PushFront list x) fine = list_runs known.maps list.0 fine
    action_runs d (PushBack list x) fine = list_runs known.maps list.0 fine
    action_runs d (PopFront x list) fine = list_runs known.maps list.0 fine
    action_runs d (PopBack x list) fine = list_runs known.maps list.0 fine
    action_runs d (Add tree x) fine = both (is_graph true (slice_get known.maps tree.0)) (has_key known.types (slice_get known.maps tree.0)) (tree_runs known.maps tree.0 fine) (tree_keyed known.types [] known.maps tree.0 typed mapped fine)
    action_runs d (First x tree) fine = tree_runs known.maps tree.0 fine
    action_runs d (Remove y tree x) fine = tree_runs known.maps tree.0 fine

    else_runs : (d : ℕ) (o : Held-Action-If-2) → FineElse (map type_form known.types) (map map_form known.maps) d o → can_run_else known o ≡ true
    else_runs d None' fine = refl
    else_runs d (Some' body) fine = block_runs d body fine

    block_runs : (d : ℕ) (body : Block) → FineBlock (map type_form known.types) (map map_form known.maps) d body → can_run_block known body ≡ true
    block_runs d (Block' shape row line) fine = row_runs (d - 1) row fine.1

    row_runs : (d : ℕ) {m : _} (row : Row_of-Statement m) → FineRow (map type_form known.types) (map map_form known.maps) d row → can_run_row known row ≡ true
    row_runs d end_of-Statement fine = refl
    row_runs d (more_of-Statement line action more) fine = both (can_run_action known action) (can_run_row known more) (action_runs d action fine.0) (row_runs d more fine.1)

  scripts_run : (before : List ScriptForm) (scripts : List Script) → FineScripts (map type_form known.types) (map map_form known.maps) before scripts → (i : ℕ) (x : Script) → slice_get scripts i ≡ Some x → can_run_block known x.body ≡ true
  scripts_run before [] fine i x e = cc
  scripts_run before (s ∷ ss) fine zero x e = (let same : s ≡ x = cc in subst (λ (y : Script). can_run_block known y.body ≡ true) same (block_runs 16 s.body fine.1))
  scripts_run before (s ∷ ss) fine (suc i) x e = scripts_run (before ++ script_form s ∷ []) ss fine.2 i x e

-- Each script of a scenario within the limits can run.
pub all_run : (s : Parts) → HasConditions s → first_limit s ≡ None → (i : ℕ) (x : Script) → slice_get s.scripts i ≡ Some x → can_run_block (declared_in s) x.body ≡ true
all_run s fine limits = scripts_run (declared_in s) (within s limits).0 fine.types fine.maps [] s.scripts fine.scripts
