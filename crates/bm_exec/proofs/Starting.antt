-- A frame at a script's beginning.
use Rattle.std.proofs.Common.{◌≡◌, ◌∙◌, true, false, ◌&&◌, List, [], length, refl, arith, ℕ, None, Option, ap, subst, sym}
use Rattle.bm_lang.specs.declared.scenario.Block.{Block}
use Rattle.bm_lang.specs.declared.scenario.TypeDeclaration.{TypeDeclaration}
use Rattle.bm_lang.specs.Limits.{block_cost}
use Rattle.bm_law_scenario.specs.Declared.{Declared, under}
use Rattle.bm_law_scenario.specs.Held.{Names, no_names}
use Rattle.bm_law.specs.State.{State}
use Rattle.bm_law.specs.Lists.{Log}
use Rattle.bm_law_scenario.specs.Runs.{RunsBlock}
use Rattle.bm_check.specs.declared.name_state.HeldLock.TheVariants.{Nothing as NoLock}
use Rattle.bm_check.specs.Statements.{Setting}
use Rattle.bm_check.specs.Values as safe
use Rattle.bm_exec.specs.Around.{Around, is_inside}
use Rattle.bm_exec.specs.declared.frame.Open.{Open}
use Rattle.bm_exec.specs.declared.names.NameTable.{NameTable}
use Rattle.bm_exec.specs.Guarded.{SeesNothing}
use Rattle.bm_exec.specs.Lists.{block_list, Behind}
use Rattle.bm_exec.specs.Bindings.{binds_among}
use Rattle.bm_exec.specs.Cost.{stack_cost}
use Rattle.bm_exec.specs.Depth.{block_fits}
use Rattle.bm_exec.specs.Runnable.{can_run_block}
use Rattle.bm_exec.specs.Stack.{RunsOpen, RunsStack, Sectioned, lock_of}
use Rattle.bm_exec.specs.Going.{IsAtStart}
use Rattle.bm_exec.specs.Meets.{Test, body_meets, list_meets, may_run, stack_meets}
use Rattle.bm_exec.specs.Seen.{has_name, names_of}
use Rattle.bm_exec.specs.Living.{Lives, Holds}
use Rattle.bm_exec.specs.Steps.{IsSafe, Pushed}
use Rattle.bm_exec.proofs.KnownNames.{same-names}
use Rattle.bm_exec.proofs.Meeting.{block-meets}
use Rattle.bm_exec.proofs.Objects.{nothing-is-none}
use Rattle.bm_exec.proofs.Softened.{nothing-hard}
use Rattle.bm_exec.proofs.Then.{undone-last}
use Rattle.bm_exec.proofs.Performing.{block-once, once-safe, once-cost, both, sections-inner}

pub start-cost : (d : Declared) (b : Block) (now : List Open) → Pushed [] now (block_list b) 0 false b → stack_cost now ≡ block_cost b
start-cost d b now p = rw p.now_is (let c = once-cost d p.top b p.rest_is p.repeats_is in omega (arith, c))

pub start-meets : (p : Test) (b : Block) (now : List Open) → Pushed [] now (block_list b) 0 false b → list_meets (p 1) (block_list b) ≡ true → stack_meets p now ≡ true
start-meets p b now o e =
    let blocks : body_meets (p 1) o.top.body ≡ true = rw o.body_is (rw o.block_is e) in
    rw o.now_is (both (list_meets (p 1) o.top.rest.now) (body_meets (p 1) o.top.body && true) (rw o.rest_is e) (both (body_meets (p 1) o.top.body) true blocks refl))

pub start-safe : (e : Setting) (b : Block) (now : List Open) (names : Names) → names ≡ no_names → Pushed [] now (block_list b) 0 false b → safe.SafeBlock e safe.empty_store b safe.OwnsNothing → IsSafe e names now
start-safe e b now names q p s = rw q (rw p.now_is (once-safe e p.top [] no_names b p.rest_is p.repeats_is p.lock_is s))

pub start-runs : (d : Declared) (l : ℕ) (z : Around) (w : Option (List ℕ)) (b : Block) (now : List Open) → Pushed [] now (block_list b) 0 false b → (names last : Names) (s : State ℕ) (part : Log) → RunsStack d l z w now names last s part → RunsBlock (under None d) l (is_inside z) (Behind w) b names last s part
start-runs d l z w b now p names last s part x = block-once d l z w NoLock p.top b p.rest_is p.repeats_is p.leaves_is p.lock_is names last s part (undone-last (RunsOpen d l z w NoLock p.top) names last s part (rw p.now_is at x))

pub start-sections : (z : Around) (b : Block) (now : List Open) → Pushed [] now (block_list b) 0 false b → Sectioned z z now
start-sections z b now p = rw p.now_is (sections-inner z z p.top [] p.leaves_is refl)

-- what lives then is nobody's of the script
pub start-holds : (declared : List TypeDeclaration) (lives : Lives) (names : Names) → names ≡ no_names → Holds declared lives lives names
start-holds declared lives names e = rw e (record {
  living = λ x t u n f. absurd (nothing-is-none t u n f);
  reached = λ u. record { own = 0; held = λ x. refl; adds = refl };
})

start-lock : (b : Block) (now : List Open) → Pushed [] now (block_list b) 0 false b → lock_of now ≡ NoLock
start-lock b now p = ap lock_of p.now_is ∙ p.lock_is

start-sees : (names : Names) → names ≡ no_names → SeesNothing names
start-sees names e x t graph u n held = nothing-hard t graph u n (ap (λ (m : Names). m x) (sym e) ∙ held)

-- all of it
at-start : (d : Declared) (e : Setting) (b : Block) (names : NameTable) (now : List Open) → names_of names ≡ no_names → Pushed [] now (block_list b) 0 false b → list_meets (may_run d (has_name names) 1) (block_list b) ≡ true → e.types ≡ d.types → e.maps ≡ d.maps → safe.SafeBlock e safe.empty_store b safe.OwnsNothing → IsAtStart d e.kind b names now
at-start d e b names now none p meets of from safe = record {
  can = λ l z w s lives ground down. record {
    holds = (lives, start-holds d.types lives (names_of names) none);
    sees_nothing = start-sees (names_of names) none;
    may = start-meets (may_run d (has_name names)) b now p meets;
    accepted = (e, of, from, ground, start-safe e b now (names_of names) none p safe);
    unlocked = start-lock b now p;
    sections = (z, start-sections z b now p);
    down = down;
  };
  runs = λ l z w last s part x. start-runs d l z w b now p no_names last s part (subst (λ n. RunsStack d l z w now n last s part) none x);
  holds = λ lives. start-holds d.types lives (names_of names) none;
  sections = λ z. start-sections z b now p;
  cost = start-cost d b now p;
  light = (let c = start-cost d b now p in let one : length now ≡ 1 = rw p.now_is refl in omega (arith, c, one));
}

pub start-bound : (d : Declared) (e : Setting) (b : Block) (names : NameTable) (now : List Open) → names_of names ≡ no_names → Pushed [] now (block_list b) 0 false b → can_run_block d b ≡ true → block_fits 16 b ≡ true → binds_among (has_name names) b ≡ true → e.types ≡ d.types → e.maps ≡ d.maps → safe.SafeBlock e safe.empty_store b safe.OwnsNothing → IsAtStart d e.kind b names now
start-bound d e b names now none p can fits bound of from safe = at-start d e b names now none p (block-meets d (has_name names) 0 b can fits bound) of from safe

-- also with a table whose names were cleared
pub start-cleared : (d : Declared) (e : Setting) (b : Block) (before names : NameTable) (now : List Open) → names.names.keys ≡ before.names.keys → names_of names ≡ no_names → Pushed [] now (block_list b) 0 false b → can_run_block d b ≡ true → block_fits 16 b ≡ true → binds_among (has_name before) b ≡ true → e.types ≡ d.types → e.maps ≡ d.maps → safe.SafeBlock e safe.empty_store b safe.OwnsNothing → IsAtStart d e.kind b names now
start-cleared d e b before names now k none p can fits bound of from safe = start-bound d e b names now none p can fits (rw (same-names before names k) bound) of from safe
