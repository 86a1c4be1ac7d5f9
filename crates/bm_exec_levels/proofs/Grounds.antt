-- What ordinary code leaves of its processor, statement by statement.
use Rattle.std.proofs.Common.{◌≡◌, ◌≤◌, ◌+◌, ◌*◌, ℕ, false, Option, Result, Ok, Err, OnOk, ap, ap₂, sym, subst, arith}
use Rattle.std.specs.Prelude.{length}
use Rattle.std.proofs.lemmas.Nat.{mul-le}
use Rattle.bm_journal.specs.declared.ids.Domain.{Domain}
use Rattle.bm_journal.specs.declared.ids.Domain.TheVariants.{Plain, Tracing}
use Rattle.bm_grace.specs.Known.{Known, side}
use Rattle.bm_law.specs.Kept.{Ready}
use Rattle.bm_law.specs.State.{Deferred}
use Rattle.bm_law.specs.Lists.{is_unstamped}
use Rattle.bm_cache.specs.Shown.{shown}
use Rattle.bm_cache.specs.Tokens.{Token}
use Rattle.bm_work.specs.Dated.{Dated}
use Rattle.bm_work.proofs.Points.{dated-kept}
use Rattle.bm_plan.specs.Position.{StandsAt}
use Rattle.std.specs.Option.{option_map}
use Rattle.bm_lang.specs.declared.scenario.MapId.{MapId}
use Rattle.bm_exec.specs.Guarded.{Guarded, Shelved}
use Rattle.bm_exec_levels.specs.AtProcessor.{Between, FineAt, IsAt, SameItems, Stays, guarded_of, tests_of}
use Rattle.bm_exec_levels.specs.Ordinary.{Ordinary, Statements}
use Rattle.bm_exec_levels.specs.Ready.{known_of, left_of}
use Rattle.bm_exec_levels.specs.Sound.{Sound}
use Rattle.bm_exec_levels.specs.declared.processor.Processor.{Processor}
use Rattle.bm_exec_levels.specs.declared.program.Program.{Program}
use Rattle.bm_grace.specs.declared.grace.Knows.{Ghosts as Knows}

pub on-ok : {X E : Type 0} (r : Result X E) (A B : Type 0) → OnOk r A → (A → B) → OnOk r B
on-ok (Ok x) A B a f = f a
on-ok (Err e) A B a f = tt

pub both-ok : {X E : Type 0} (r : Result X E) (A B : Type 0) → OnOk r A → OnOk r B → OnOk r (A × B)
both-ok (Ok x) A B a b = (a, b)
both-ok (Err e) A B a b = tt

begins-of : (n : ℕ) (a b : Known) → a.grace.plain.begins ≤ b.grace.plain.begins + n → a.grace.tracing.begins ≤ b.grace.tracing.begins + n → (d : Domain) → (side d a).begins ≤ (side d b).begins + n
begins-of n a b p t Plain = p
begins-of n a b p t Tracing = t

-- at most eleven classes have works, and one more stands for the last look at their flags
pub begun-few : (classes n : ℕ) → classes ≤ 11 → (classes + 1) * n ≤ 12 * n
begun-few classes n few = mul-le (classes + 1) n 12 n (omega (arith, few)) (omega arith)

module _ {W : Type 0} (knows : Knows W) where
  -- a call of ordinary code for an object, or to end one, with the handlers between its steps
  pub statements-still : (asks : ℕ) (p : Program) (a b : Processor W) → Between knows asks 0 0 p a b → Statements knows a b
  statements-still asks p a b x = record {
    ordinary = record { processors = x.goes.processors; processor = x.goes.processor };
    fewer = x.fewer;
    running = x.stays.running;
    inside = x.stays.inside;
    parity = x.stays.parity;
    inner = x.stays.inner;
    tracing = x.stays.tracing;
    words = (let w = x.stays.words_most in omega (arith, w));
  }

  -- and ordinary code runs on it again
  pub sound-still : (asks : ℕ) (p : Program) (a b : Processor W) → Between knows asks 0 0 p a b → IsAt knows StandsAt 0 p b → Sound knows p a → Sound knows p b
  sound-still asks p a b x at s = record {
    at = at;
    fine = x.fine;
    dated = dated-kept 0 (tests_of knows a) (tests_of knows b) (shown a.caches) (shown b.caches) (λ k. (x.came.kept.rows k).deferred) x.came.lasting s.dated;
    stamped = λ k. let D : Deferred Token → Type 0 = λ d. is_unstamped d.plain ≡ false in subst D (sym (x.came.kept.rows k).deferred) (s.stamped k);
    begins = λ d.
        let h = s.begins d in
        let same = x.goes.begins d in
        let fewer = x.fewer in
        let settled = x.stays.settled in
        omega (arith, h, same, fewer, settled);
  }

  -- a lock was taken or given back
  pub sound-locked : (k : Option MapId) (p : Program) (a b : Processor W) → Between knows 0 0 0 p (record a { locked = k }) b → IsAt knows StandsAt 0 p b → Sound knows p a → Sound knows p b
  sound-locked k p a b x at s = record {
    at = at;
    fine = x.fine;
    dated = dated-kept 0 (tests_of knows a) (tests_of knows b) (shown a.caches) (shown b.caches) (λ j. (x.came.kept.rows j).deferred) x.came.lasting s.dated;
    stamped = λ j. let D : Deferred Token → Type 0 = λ d. is_unstamped d.plain ≡ false in subst D (sym (x.came.kept.rows j).deferred) (s.stamped j);
    begins = λ d.
        let h = s.begins d in
        let same = x.goes.begins d in
        let fewer = x.fewer in
        let settled = x.stays.settled in
        omega (arith, h, same, fewer, settled);
  }

  -- works leave the lock, and what is in lists and trees
  pub guarded-same : (a b : Processor W) → b.locked ≡ a.locked → SameItems knows a b → guarded_of knows b ≡ guarded_of knows a
  guarded-same a b e s = ap₂ (λ (x : Option ℕ) (f : ℕ → Option Shelved). let g : Guarded = record { lock = x; within = f } in g) (ap (option_map (λ (g : MapId). g.0)) e) s.items

  -- works were done, of a processor that was asked for them once more
  pub statements-worked : (p : Program) (a b : Processor W) → Stays knows 0 0 p (record a { settled = a.settled + 1 }) b → length (left_of b) ≤ length (left_of a) → Ordinary knows a b → Statements knows a b
  statements-worked p a b s fewer o = record {
    ordinary = o;
    fewer = fewer;
    running = s.running;
    inside = s.inside;
    parity = s.parity;
    inner = s.inner;
    tracing = s.tracing;
    words = (let w = s.words_most in omega (arith, w));
  }

  -- and ordinary code runs on it again
  pub sound-worked : (p : Program) (a b : Processor W) (n : ℕ) → n + 12 * length (left_of b) ≤ 23 + 12 * length (left_of a) → b.settled ≡ a.settled + 1 → IsAt knows StandsAt 0 p b → FineAt knows 1 b → Ready 0 (shown b.caches) → Dated (tests_of knows b) (shown b.caches) → ((c : ℕ) → is_unstamped ((shown b.caches).rows c).deferred.plain ≡ false) →
      (known_of knows a).grace.plain.begins ≤ (known_of knows b).grace.plain.begins + n → (known_of knows a).grace.tracing.begins ≤ (known_of knows b).grace.tracing.begins + n → Sound knows p a → Sound knows p b
  sound-worked p a b n few counted at fine quiet dated stamped plain tracing s = record {
    at = at;
    fine = record { placed = fine.placed; ready = quiet; proper = fine.proper; aimed = fine.aimed };
    dated = dated;
    stamped = stamped;
    begins = λ d.
        let h = s.begins d in
        let began = begins-of n (known_of knows a) (known_of knows b) plain tracing d in
        omega (arith, h, began, few, counted);
  }
