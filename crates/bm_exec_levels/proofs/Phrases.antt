-- What the script of a handler leaves where it stands, with the section around it.
use Rattle.std.specs.Prelude.{IfSome, slice_get}
use Rattle.std.proofs.Common.{◌≡◌, ◌∙◌, ℕ, zero, suc, ◌+◌, List, [], ◌∷◌, ◌++◌, Option, Some, None, refl, ap, subst}
use Rattle.std.specs.Prelude.{◌%◌, Bool, true}
use Rattle.std.specs.List.{list_all}
use Rattle.std.proofs.lemmas.Bool.{and_parts}
use Rattle.bm_journal.specs.declared.entry.Entry.TheVariants as entry
use Rattle.bm_journal.specs.declared.ids.Domain.TheVariants.{Plain}
use Rattle.bm_journal.specs.Recording.{Appends}
use Rattle.bm_lang.specs.declared.scenario.Parts.{Parts}
use Rattle.bm_lang.specs.declared.scenario.Script.{Script}
use Rattle.bm_lang.specs.declared.scenario.ScriptKind.TheVariants as kind
use Rattle.bm_lang.specs.declared.scenario.TypeDeclaration.{TypeDeclaration}
use Rattle.bm_law.specs.State.{State}
use Rattle.bm_law.specs.Lists.{Leaves, Log}
use Rattle.bm_law.specs.Spans.{Records}
use Rattle.bm_law.proofs.Spans.{Records-one}
use Rattle.bm_law_work.specs.Grown.{GrewBy}
use Rattle.bm_law_work.specs.Parts.{Nothing, Part, Stand, Then}
use Rattle.bm_law_work.proofs.Grown.{grew-join, grew-map, grew-stand}
use Rattle.bm_law_scenario.specs.Declared.{Declared, declared_in}
use Rattle.bm_law_scenario.specs.Handlers.{HandlerRun, InSection}
use Rattle.bm_law_scenario.specs.Held.{Names, OwnsNothing, no_names}
use Rattle.bm_law_scenario.specs.Runs.{RunsBlock}
use Rattle.bm_law_lives.specs.SectionWords.{is_outside}
use Rattle.bm_exec.specs.Bindings.{binds_among}
use Rattle.bm_exec.specs.Running.{RanScript}
use Rattle.bm_exec.specs.Seen.{has_name}
use Rattle.bm_exec.specs.declared.names.NameTable.{NameTable}
use Rattle.bm_lang.specs.declared.scenario.MapDeclaration.{MapDeclaration}
use Rattle.bm_exec.specs.Named.{declared_of}
use Rattle.bm_exec.specs.declared.running.Types.{Types}
use Rattle.bm_exec_levels.specs.Ready.{BindsAll}
use Rattle.bm_law_lives.proofs.Words.{inside-odd, outside-even}

-- ---- its script, where it stands

module _ (s : Parts) (named : Declared) (same : named ≡ declared_in s) (x : Script) (i : ℕ) (found : slice_get s.scripts i ≡ Some x) (handles : x.kind ≡ kind.Handler) (l w : ℕ) where
  -- what its block leaves
  abbrev Block : (last : Names) → Part
  Block last = RunsBlock (declared_in s) l true Nothing x.body no_names last

  handled : (last : Names) (lists : State ℕ) (part : Log) → ((name : List ℕ) → OwnsNothing (last name)) → InSection (is_outside w) l w (RunsBlock (declared_in s) l true Nothing x.body) no_names last lists part → HandlerRun s l x.name w lists part
  handled last lists part owns r = record { index = i; script = x; found = found; called = refl; handles = handles; after = last; runs = r; owns_nothing = owns }

  in-types : (last : Names) (lists : State ℕ) (part : Log) → RunsBlock named l true Nothing x.body no_names last lists part → Block last lists part
  in-types last lists part r = subst (λ (e : Declared). RunsBlock e l true Nothing x.body no_names last lists part) same r

  -- It ran inside a section.
  pub runs-inside : (lists : State ℕ) (a b : Option Log) → w % 2 ≡ 1 → RanScript named l true None lists x a b → GrewBy (HandlerRun s l x.name w) lists a b
  runs-inside lists a b odd r =
      grew-map (RunsBlock named l true Nothing x.body no_names r.after) (HandlerRun s l x.name w) lists a b
      (λ part h. handled r.after lists part r.owns_nothing (rw (inside-odd w odd) (in-types r.after lists part h))) r.grew

  -- It ran in a section of its own.
  pub runs-outside : (p : ℕ) (s1 s2 s3 : State ℕ) (v : ℕ) (a b c d : Option Log) → w % 2 ≡ 0 → v ≡ w + 1 → IfSome a (λ es. Leaves p es s1) → IfSome b (λ es. Leaves p es s2) → IfSome c (λ es. Leaves p es s3) →
      Appends a l (entry.In Plain (w + 1)) b → RanScript named l true None s2 x b c → Appends c l (entry.Out Plain (v + 1)) d → GrewBy (HandlerRun s l x.name w) s1 a d
  runs-outside p s1 s2 s3 v a b c d even e in_a in_b in_c f r g =
      let begins : Part = Stand l (entry.In Plain (w + 1) ∷ []) in
      let ends : Part = Stand l (entry.Out Plain (w + 1 + 1) ∷ []) in
      let W : ℕ → Type 0 = λ n. Records l (entry.Out Plain n ∷ []) c d in
      let out : Records l (entry.Out Plain (w + 1 + 1) ∷ []) c d = subst W (ap (λ n. n + 1) e) (Records-one l (entry.Out Plain (v + 1)) c d g) in
      let rest : GrewBy (Then (Block r.after) ends) s2 b d =
      grew-join (RunsBlock named l true Nothing x.body no_names r.after) ends (Then (Block r.after) ends) p s2 s3 b c d (λ one two h k. record { one = one; two = two; part_is = refl; is_first = in-types r.after s2 one h; is_second = k }) in_b in_c r.grew (grew-stand l (entry.Out Plain (w + 1 + 1) ∷ []) s3 c d out) in
      grew-join begins (Then (Block r.after) ends) (HandlerRun s l x.name w) p s1 s2 a b d
      (λ one two h k. handled r.after s1 (one ++ two) r.owns_nothing (rw (outside-even w even) (record { one = one; two = two; part_is = refl; is_first = h; is_second = k }))) in_a in_b (grew-stand l (entry.In Plain (w + 1) ∷ []) s1 a b (Records-one l (entry.In Plain (w + 1)) a b f)) rest

-- ---- its names

-- what a test says of each of some scripts it says of one of them
script-passes : (f : Script → Bool) (xs : List Script) (i : ℕ) (x : Script) → list_all f xs ≡ true → slice_get xs i ≡ Some x → f x ≡ true
script-passes f [] i x h e = cc
script-passes f (y ∷ ys) zero x h e =
    let is : y ≡ x = cc in
    subst (λ z. f z ≡ true) is (and_parts (f y) (list_all f ys) h).0
script-passes f (y ∷ ys) (suc i) x h e = script-passes f ys i x (and_parts (f y) (list_all f ys) h).1 e

-- the names that it binds are in a table with those of all scripts
pub script-bound : (scripts : List Script) (i : ℕ) (x : Script) (t : NameTable) → BindsAll scripts t → slice_get scripts i ≡ Some x → binds_among (has_name t) x.body ≡ true
script-bound scripts i x t h e = script-passes (λ (y : Script). binds_among (has_name t) y.body) scripts i x h e

-- ---- what it may name

-- a program's types and maps are its scenario's
pub program-declared : (t : Types) (s : Parts) → t.declared.now ≡ s.types → t.maps.now ≡ s.maps → declared_of t ≡ declared_in s
program-declared t s a b =
    ap (λ (types : List TypeDeclaration). let d : Declared = record { types = types; maps = t.maps.now; lock = None } in d) a
    ∙ ap (λ (maps : List MapDeclaration). let d : Declared = record { types = s.types; maps = maps; lock = None } in d) b
