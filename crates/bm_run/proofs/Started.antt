-- The processor before its first script.
use Rattle.std.proofs.Common.{◌≡◌, ◌≤◌, ℕ, ◌+◌, ◌*◌, ◌%◌, Bool, false, if◌then◌else◌, List, [], ◌∷◌, length, map, true, refl, sym, ap, subst, ◌∙◌, Option, Some, None, IfSome, slice_get, arith, vec_capacity}
use Rattle.bm_world.specs.Contents.{are_apart}
use Rattle.bm_world.specs.LivingState.{LivingState}
use Rattle.bm_world.specs.ToldLiving.{knows_living}
use Rattle.std.specs.Prelude.{All}
use Rattle.bm_journal.specs.declared.ids.Domain.{Domain}
use Rattle.bm_journal.specs.declared.ids.Domain.TheVariants.{Plain}
use Rattle.bm_lang.specs.declared.scenario.MapDeclaration.{MapDeclaration}
use Rattle.bm_lang.specs.declared.scenario.Parts.{Parts}
use Rattle.bm_lang.specs.declared.scenario.TypeDeclaration.{TypeDeclaration}
use Rattle.bm_lang.specs.Fine.{HasConditions}
use Rattle.bm_law.specs.Lists.{Log}
use Rattle.bm_law_order.specs.Calls.{calls_in, lock_in}
use Rattle.bm_law_scenario.specs.Declared.{declared_in}
use Rattle.bm_exec_levels.specs.Slotted.{AreStocked}
use Rattle.bm_cache.specs.Opening.{Fills, fill_log}
use Rattle.bm_due.specs.Due.{planned_for}
use Rattle.bm_due.specs.Plan.{Plan}
use Rattle.bm_due.specs.declared.planned.Due.{Due}
use Rattle.bm_plan.specs.Position.{StandsAt, names_in}
use Rattle.bm_exec.specs.Runnable.{Classes}
use Rattle.bm_exec_levels.specs.AtProcessor.{IsAt, lock_of, log_of}
use Rattle.bm_exec_levels.specs.Calling.{Reckons, lock_name}
use Rattle.bm_exec_levels.specs.Here.{Running, position_of}
use Rattle.bm_exec_levels.specs.Logged.{Tells}
use Rattle.bm_exec_levels.specs.Ready.{BindsAll, IsHandlerLine, IsProgram, IsReady, known_of, left_cost, left_of, word_of}
use Rattle.bm_exec_levels.specs.declared.processor.Processor.{Processor}
use Rattle.bm_exec_levels.specs.declared.program.Program.{Program}
use Rattle.bm_run.proofs.Begun.{stands-filled, tells-filled, where-told}
use Rattle.bm_run.proofs.Bounds.{Within, asks-few, few-planned, handler-lines}

-- the plan of a processor's handlers, none of which has run
abbrev pub whole_plan : Parts → ℕ → Plan
whole_plan s p = record { left = planned_for p s; ended = false }

-- Processor i, on which nothing has run: what handlers need is there, and nothing was asked for, lived or entered.
pub record IsFresh (s : Parts) (i : ℕ) (m : Processor LivingState) : Type 0 where
  pub planned : m.handlers.planned ≡ whole_plan s i
  pub scripts : m.handlers.scripts ≡ length s.scripts
  pub running : m.running.items ≡ []
  pub room_running : 3 ≤ vec_capacity m.running
  pub bound : All (BindsAll s.scripts) m.tables.items
  pub tables : length m.tables.items ≡ 3
  pub room_tables : 3 ≤ vec_capacity m.tables
  pub inside : m.inside ≡ false
  pub locked : m.locked ≡ None
  pub home : m.caches.processor ≡ i
  pub processor : (known_of knows_living m).grace.processor ≡ i
  pub words : (d : Domain) → word_of knows_living d m ≡ 0
  pub asked : (known_of knows_living m).objects.asked + m.settled ≡ 0
  pub calls : m.calls ≡ 0
  pub stocked : AreStocked (declared_in s) (known_of knows_living m).objects
  pub begun : (u : ℕ) → (known_of knows_living m).objects.begun u ≡ 0
  pub lives : (u : ℕ) → (known_of knows_living m).objects.lives u ≡ None

pub left-is : (s : Parts) (i : ℕ) (m : Processor LivingState) → IsFresh s i m → left_of m ≡ planned_for i s
left-is s i m f = ap (λ (plan : Plan). plan.left) f.planned

-- ordinary code is there
stands : (p i : ℕ) (s : Parts) (plan : Plan) (running : List Due) (log : Option Log) (fs : Fills) → p ≡ i → plan ≡ whole_plan s i → running ≡ [] → IfSome log (λ es. es ≡ fill_log fs) → Running StandsAt 0 p s plan running log
stands p i s plan running log fs e f g told =
    let at : IfSome log (StandsAt (position_of i s (whole_plan s i) [])) = where-told (StandsAt (position_of i s (whole_plan s i) [])) log (fill_log fs) told (stands-filled (names_in s.scripts) (planned_for i s) fs) in
    let here : Running StandsAt 0 i s (whole_plan s i) [] log = record { at = at; level = refl; deep = omega arith } in
    subst (λ q. Running StandsAt 0 q s plan running log) (sym e) (subst (λ x. Running StandsAt 0 i s x running log) (sym f) (subst (λ x. Running StandsAt 0 i s (whole_plan s i) x log) (sym g) here))

outside : (w : ℕ) (b : Bool) → w ≡ 0 → b ≡ false → w % 2 ≡ (if b then 1 else 0)
outside w b e f = rw (e, f) refl

-- handlers can run
ready : (p : Program) (i : ℕ) (m : Processor LivingState) → IsProgram p → HasConditions p.scenario.now → Within p.scenario.now i → IsFresh p.scenario.now i m → IsReady knows_living p m
ready p i m fits fine within f =
    let s = p.scenario.now in
    let left = left-is s i m f in
    let few = few-planned s i within in
    let cost = asks-few s i within in
    let none = f.asked in
    let word = f.words Plain in
    record {
      fits = fits;
      here = f.home ∙ sym f.processor;
      scripts = f.scripts;
      planned = subst (All (IsHandlerLine s)) (sym left) (handler-lines s i fine);
      bound = f.bound;
      tables = (let t = f.tables in let r = ap length f.running in omega (arith, t, r));
      room_running = f.room_running;
      room_tables = f.room_tables;
      asks = (let c = ap (left_cost s) left in omega (arith, none, c, cost));
      words = (let l = ap length left in omega (arith, word, l, few));
      inside = outside (word_of knows_living Plain m) m.inside word f.inside;
      calls = (let z = f.calls in omega (arith, z));
      stocked = f.stocked;
    }

-- fills are no calls, and take no lock
fills-counted : (fs : Fills) → calls_in (fill_log fs) ≡ 0
fills-counted [] = refl
fills-counted (f ∷ fs) = fills-counted fs

fills-unlocked : (fs : Fills) → lock_in (fill_log fs) ≡ None
fills-unlocked [] = refl
fills-unlocked (f ∷ fs) = fills-unlocked fs

pub fresh-at : (p : Program) (i : ℕ) (m : Processor LivingState) (fs : Fills) → IsProgram p → HasConditions p.scenario.now → Within p.scenario.now i → IsFresh p.scenario.now i m → IfSome (log_of m) (λ es. es ≡ fill_log fs) → IsAt knows_living StandsAt 0 p m
fresh-at p i m fs fits fine within f told = record {
  at = stands (known_of knows_living m).grace.processor i p.scenario.now m.handlers.planned m.running.items (log_of m) fs f.processor f.planned f.running told;
  tells = where-told (Tells p.scenario.now (known_of knows_living m)) (log_of m) (fill_log fs) told (tells-filled p.scenario.now (known_of knows_living m) fs f.words);
  counts = where-told (Reckons m.calls (lock_of p m)) (log_of m) (fill_log fs) told (fills-counted fs ∙ sym f.calls, fills-unlocked fs ∙ sym (ap (lock_name p.scenario.now.maps) f.locked));
  ready = ready p i m fits fine within f;
}

-- so few handlers are planned that each may begin the periods that it needs
pub begins-enough : (s : Parts) (i : ℕ) (m : Processor LivingState) (begins : ℕ) → Within s i → IsFresh s i m → begins ≡ 134217728 → 24 * 4194304 + 12 * length (left_of m) ≤ begins
begins-enough s i m begins within f e = let l = ap length (left-is s i m f) in let few = few-planned s i within in omega (arith, l, few, e)

-- ---- a scenario without types, maps and scripts

nothing-there : {A : Type 0} (xs : List A) (i : ℕ) (x : A) → length xs ≡ 0 → slice_get xs i ≡ Some x → ⊥
nothing-there [] i x e h = absurd cc
nothing-there (y ∷ ys) i x e h = absurd (omega (arith, e))

no-types : (types : List TypeDeclaration) (classes : List ℕ) → length types ≡ 0 → classes ≡ [] → Classes types classes
no-types [] classes e f = rw f (record { each = refl })
no-types (t ∷ ts) classes e f = absurd (omega (arith, e))

pub idle_maps : (maps : List MapDeclaration) → length maps ≡ 0 → are_apart (map (λ (m : MapDeclaration). m.name) maps) ≡ true
idle_maps [] e = refl
idle_maps (m ∷ ms) e = absurd (omega (arith, e))

pub idle_program : (p : Program) → p.types.declared.now ≡ p.scenario.now.types → p.types.maps.now ≡ p.scenario.now.maps → p.types.classes.now ≡ [] → length p.scenario.now.types ≡ 0 → length p.scenario.now.scripts ≡ 0 → IsProgram p
idle_program p same maps none types scripts = record {
  types = same;
  maps = maps;
  classes = no-types p.types.declared.now p.types.classes.now (ap length same ∙ types) none;
  accepted = λ i x h. absurd (nothing-there p.scenario.now.scripts i x scripts h);
  fits = λ i x h. absurd (nothing-there p.scenario.now.scripts i x scripts h);
  can = λ i x h. absurd (nothing-there p.scenario.now.scripts i x scripts h);
}
