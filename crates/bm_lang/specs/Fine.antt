-- The conditions on a scenario, by recursion on its declarations. They are this project's own.
use Rattle.std.specs.Prelude.{◌≡◌, ℕ, ◌-◌, ◌<◌, ◌≤◌, ◌%◌, true, false, ◌==◌, List, [], ◌∷◌, ◌++◌, length, All, IsSomeAnd, is_some, IfSome, slice_get}
use Rattle.bm_lang.specs.declared.scenario.Action.{Action, New, Drop, Acquire, Get, Exchange, If', Repeat, Section, Lock, Unlock, Yield, PushFront, PushBack, PopFront, PopBack, Add, First, Remove, Held-Action-If-2, None', Some'}
use Rattle.bm_lang.specs.declared.scenario.Block.{Block, Block', Row_of-Statement, end_of-Statement, more_of-Statement}
use Rattle.bm_lang.specs.declared.scenario.Parts.{Parts}
use Rattle.bm_lang.specs.declared.scenario.TypeDeclaration.{TypeDeclaration}
use Rattle.bm_lang.specs.declared.scenario.MapDeclaration.{MapDeclaration}
use Rattle.bm_lang.specs.declared.names.MapNeed.{MapNeed}
use Rattle.bm_lang.specs.declared.names.MapNeed.TheVariants as need
use Rattle.bm_lang.specs.declared.scenario.Script.{Script}
use Rattle.bm_lang.specs.declared.scenario.RunLine.{RunLine}
use Rattle.bm_lang.specs.declared.scenario.AtLine.{AtLine}
use Rattle.bm_lang.specs.Names.{TypeForm, MapForm, ScriptForm, Names, type_named, map_named, script_named, has_name, has_size, has_key, holds, fits, runs_as}
use Rattle.bm_lang.specs.Spelling.{type_form, map_form, script_form, declared}

-- the id is that of a declared map that fits
abbrev pub IsMap : List MapForm → MapNeed → ℕ → Type 0
IsMap maps n i = IsSomeAnd (slice_get maps i) (λ m. fits n m.kind ≡ true)

-- statements under these types and maps, in which d more blocks may be opened one inside the other
abbrev mutual
  pub FineAction : List TypeForm → List MapForm → ℕ → Action → Type 0
  FineAction types maps d (New x t values) =
      IsSomeAnd (slice_get types t.0) (λ e. length values ≡ length e.fields)
  FineAction types maps d (Drop x) = Unit {0}
  FineAction types maps d (Acquire y x) = Unit {0}
  FineAction types maps d (Get x f) = Unit {0}
  FineAction types maps d (Exchange y s x) = IsMap maps need.Slot s.0
  FineAction types maps d (If' x body otherwise) =
      FineBlock types maps d body × FineElse types maps d otherwise
  FineAction types maps d (Repeat n body) = FineBlock types maps d body
  FineAction types maps d (Section body) = FineBlock types maps d body
  FineAction types maps d (Lock g) = IsMap maps need.Graph g.0
  FineAction types maps d Unlock = Unit {0}
  FineAction types maps d Yield = Unit {0}
  FineAction types maps d (PushFront q x) = IsMap maps need.List q.0
  FineAction types maps d (PushBack q x) = IsMap maps need.List q.0
  FineAction types maps d (PopFront x q) = IsMap maps need.List q.0
  FineAction types maps d (PopBack x q) = IsMap maps need.List q.0
  FineAction types maps d (Add t x) = IsMap maps need.Tree t.0
  FineAction types maps d (First x t) = IsMap maps need.Tree t.0
  FineAction types maps d (Remove y t x) = IsMap maps need.Tree t.0

  pub FineElse : List TypeForm → List MapForm → ℕ → Held-Action-If-2 → Type 0
  FineElse types maps d None' = Unit {0}
  FineElse types maps d (Some' body) = FineBlock types maps d body

  pub FineBlock : List TypeForm → List MapForm → ℕ → Block → Type 0
  FineBlock types maps d (Block' shape row end_line) = (0 < d) × FineRow types maps (d - 1) row

  pub FineRow : List TypeForm → List MapForm → ℕ → {m : _} → Row_of-Statement m → Type 0
  FineRow types maps d end_of-Statement = Unit {0}
  FineRow types maps d (more_of-Statement line action rest) =
      FineAction types maps d action × FineRow types maps d rest

-- names, none of them twice, nor one that stands before
abbrev pub Fresh : List (List ℕ) → List (List ℕ) → Type 0
Fresh before [] = Unit {0}
Fresh before (n ∷ ns) = (has_name before n ≡ false) × Fresh (before ++ n ∷ []) ns

-- a type by itself
pub record FineType (t : TypeDeclaration) : Type 0 where
  pub fresh : Fresh [] t.fields
  pub pad : IfSome t.pad (λ n. (n % 8 == 0) ≡ true)
  pub key : has_key (type_form t) ≡ true
  pub size : has_size (type_form t) ≡ true

abbrev pub FineTypes : List TypeForm → List TypeDeclaration → Type 0
FineTypes before [] = Unit {0}
FineTypes before (t ∷ ts) =
    (is_some (type_named before t.name) ≡ false) × FineType t
    × FineTypes (before ++ type_form t ∷ []) ts

abbrev pub FineMaps : List TypeForm → List MapForm → List MapDeclaration → Type 0
FineMaps types before [] = Unit {0}
FineMaps types before (m ∷ ms) =
    (is_some (map_named before m.name) ≡ false)
    × IsSomeAnd (slice_get types m.type_id.0) (λ e. holds m.kind e.node ≡ true)
    × FineMaps types (before ++ map_form m ∷ []) ms

-- a script's own block is the first of sixteen
abbrev pub FineScripts : List TypeForm → List MapForm → List ScriptForm → List Script → Type 0
FineScripts types maps before [] = Unit {0}
FineScripts types maps before (s ∷ ss) =
    (is_some (script_named before s.name) ≡ false) × FineBlock types maps 16 s.body
    × FineScripts types maps (before ++ script_form s ∷ []) ss

pub record FineRun (processors : ℕ) (scripts : List ScriptForm) (r : RunLine) : Type 0 where
  pub processor : r.processor < processors
  pub script : IsSomeAnd (slice_get scripts r.script.0) (λ s. runs_as false s.kind ≡ true)

pub record FineAt (processors : ℕ) (scripts : List ScriptForm) (a : AtLine) : Type 0 where
  pub processor : a.processor < processors
  pub lowest : 1 ≤ a.level
  pub highest : a.level ≤ 3
  pub script : IsSomeAnd (slice_get scripts a.script.0) (λ s. runs_as true s.kind ≡ true)

-- the conditions on a whole scenario under what it declares
pub record FineUnder (d : Names) (s : Parts) : Type 0 where
  pub processors : 0 < s.processors
  pub types : FineTypes [] s.types
  pub maps : FineMaps d.types [] s.maps
  pub scripts : FineScripts d.types d.maps [] s.scripts
  pub runs : All (FineRun s.processors d.scripts) s.runs
  pub ats : All (FineAt s.processors d.scripts) s.ats
  pub turns : IfSome s.turns (All (λ p. p < s.processors))

abbrev pub HasConditions : Parts → Type 0
HasConditions s = FineUnder (declared s) s
