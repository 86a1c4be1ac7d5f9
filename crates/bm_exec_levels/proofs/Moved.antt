-- A processor on which ordinary code runs begins and ends sections, and records what moves nothing.
use Rattle.std.proofs.Common.{◌≡◌, ◌∙◌, ℕ, Bool, List, false, refl, sym, ap, subst, arith, length}
use Rattle.bm_journal.specs.declared.ids.Domain.{Domain}
use Rattle.bm_journal.specs.declared.ids.Domain.TheVariants.{Plain, Tracing}
use Rattle.bm_journal.specs.declared.entry.Entry.{Entry}
use Rattle.bm_journal.specs.Recording.{Appends, Kept as Recorded}
use Rattle.bm_grace.specs.Calls.{moved}
use Rattle.bm_grace.specs.Known.{Known, side}
use Rattle.bm_grace.specs.Rights.{AsBefore, Rights}
use Rattle.bm_grace.specs.declared.grace.Knows.{Ghosts as Knows}
use Rattle.bm_grace.specs.declared.step.StepKind.{StepKind}
use Rattle.bm_law.specs.Lists.{is_unstamped}
use Rattle.bm_law.specs.State.{State}
use Rattle.bm_cache.specs.Shown.{shown}
use Rattle.bm_cache.specs.Tests.{Tests}
use Rattle.bm_cache.specs.Tokens.{Token}
use Rattle.bm_cache.specs.declared.caches.Caches.{Caches}
use Rattle.bm_work.specs.Dated.{Dated}
use Rattle.bm_due.specs.Standing as standing
use Rattle.bm_due.specs.Standing.{kind_of}
use Rattle.bm_plan.specs.Position.{StandsAt}
use Rattle.bm_exec_levels.specs.AtProcessor.{FineAt, IsAt, log_of, tests_of}
use Rattle.bm_exec_levels.specs.Growing.{IsInner}
use Rattle.bm_exec_levels.specs.Calling.{is_marked}
use Rattle.bm_exec_levels.specs.Hosting.{at-say}
use Rattle.bm_exec_levels.specs.Ordinary.{Ordinary}
use Rattle.bm_exec_levels.specs.Ready.{known_of, left_of}
use Rattle.bm_exec_levels.specs.Sound.{Sound}
use Rattle.bm_exec_levels.specs.declared.processor.Processor.{Processor}
use Rattle.bm_exec_levels.specs.declared.program.Program.{Program}
use Rattle.bm_exec_levels.proofs.Lifetimes.{tests-before}
use Rattle.bm_exec_levels.proofs.Words.{moved-grace}

-- ---- a section word that moved

-- leaves what is known of periods
pub begins-moved : (kind : StepKind) (tells : Bool) (e : Domain) (k : Known) (d : Domain) → (side d (moved kind tells e k)).begins ≡ (side d k).begins
begins-moved kind tells Plain k Plain = refl
begins-moved kind tells Plain k Tracing = refl
begins-moved kind tells Tracing k Plain = refl
begins-moved kind tells Tracing k Tracing = refl

-- what stands in the lists is as it was, and so is what the side may do
pub stamped-same : (a b : State Token) → b ≡ a → ((c : ℕ) → is_unstamped (a.rows c).deferred.plain ≡ false) → (c : ℕ) → is_unstamped (b.rows c).deferred.plain ≡ false
stamped-same a b e h c = ap (λ (x : State Token). is_unstamped (x.rows c).deferred.plain) e ∙ h c

-- nothing happened
pub before-same : (r : Rights) → AsBefore r r
before-same r = record { mine = λ n. refl; settled = λ n life seal. refl; due = λ n life seal. refl; ripe = λ n life seal. refl; since = λ d x n. refl }

module _ {W : Type 0} (knows : Knows W) where
  pub ordinary-moved : (kind : StepKind) (e : Domain) (a b : Processor W) → known_of knows b ≡ moved kind knows.tells e (known_of knows a) → Ordinary knows a b
  ordinary-moved kind e a b k = record {
    processors = ap (λ (x : Known). x.grace.processors) k ∙ (moved-grace kind knows.tells e (known_of knows a)).1;
    processor = ap (λ (x : Known). x.grace.processor) k ∙ (moved-grace kind knows.tells e (known_of knows a)).0;
  }

  pub dated-same : (a b : Processor W) → AsBefore (knows.rights a.side) (knows.rights b.side) → shown b.caches ≡ shown a.caches → Dated (tests_of knows a) (shown a.caches) → Dated (tests_of knows b) (shown b.caches)
  dated-same a b r e h =
      let F : Tests → State Token → Type 0 = λ x t. Dated x t in
      subst (λ x. F x (shown b.caches)) (sym (tests-before (knows.rights a.side) (knows.rights b.side) r)) (subst (λ t. F (tests_of knows a) t) (sym e) h)

  -- the section word of a domain moved
  pub sound-moved : (kind : StepKind) (e : Domain) (p : Program) (a b : Processor W) → AsBefore (knows.rights a.side) (knows.rights b.side) → shown b.caches ≡ shown a.caches → known_of knows b ≡ moved kind knows.tells e (known_of knows a) → left_of b ≡ left_of a → b.settled ≡ a.settled → IsAt knows StandsAt 0 p b → FineAt knows 0 b → Sound knows p a → Sound knows p b
  sound-moved kind e p a b r i k l n at fine s = record {
    at = at;
    fine = fine;
    dated = dated-same a b r i s.dated;
    stamped = stamped-same (shown a.caches) (shown b.caches) i s.stamped;
    begins = λ d. (let h = s.begins d in let q : (side d (known_of knows b)).begins ≡ (side d (known_of knows a)).begins = ap (λ (x : Known). (side d x).begins) k ∙ begins-moved kind knows.tells e (known_of knows a) d in let z = ap (λ (x : List _). length x) l in omega (arith, h, n, q, z));
  }

  -- an entry that moves nothing
  pub sound-noted : (p : Program) (m : Processor W) (c : Caches Recorded) (e : Entry) → kind_of e ≡ standing.Stays → IsInner e → is_marked e ≡ false → shown c ≡ shown m.caches → c.processor ≡ m.caches.processor → Appends (log_of m) 0 e c.recorder.told → FineAt knows 0 (record m { caches = c }) → Sound knows p m → Sound knows p (record m { caches = c })
  sound-noted p m c e k i none same pr a fine s = record {
    at = at-say knows 0 p m c e k i none pr a s.at;
    fine = fine;
    dated = dated-same m (record m { caches = c }) (before-same (knows.rights m.side)) same s.dated;
    stamped = stamped-same (shown m.caches) (shown c) same s.stamped;
    begins = s.begins;
  }
