-- The batches in progress. (This project's own; the kernel hands a batch to call_rcu and call_rcu_tasks_trace, which keep
-- their order themselves.)
use Rattle.std.specs.Prelude.{◌≡◌, ◌<◌, ℕ, suc, List, Some, length}
use Rattle.std.specs.List.{All}
use Rattle.bm_journal.specs.declared.ids.Domain.{Domain}
use Rattle.bm_journal.specs.declared.ids.Domain.TheVariants.{Plain, Tracing}
use Rattle.bm_law.specs.State.{State, Deferred}
use Rattle.bm_cache.specs.Tokens.{Token}
use Rattle.bm_cache.specs.Tests.{Tests, Passes, Reusable}
use Rattle.bm_work.specs.DeskTests.{since_test}

-- the units of a batch of a domain
abbrev pub batch_of : {A : Type 0} → Domain → Deferred A → List A
batch_of Plain d = d.first
batch_of Tracing d = d.second

-- A batch that has its stamp is of units that have been mine since that stamp, a plain batch isn't empty, and the units of
-- Second may be used again.
pub record DatedRow (tests : Tests) (d : Deferred Token) : Type 0 where
  pub plain :
      (x : ℕ) → d.plain ≡ Some (suc x) → All (Passes tests (since_test Plain (suc x))) d.first
  pub tracing :
      (x : ℕ) → d.tracing ≡ Some (suc x) → All (Passes tests (since_test Tracing (suc x))) d.second
  pub some : (x : ℕ) → d.plain ≡ Some x → 0 < length d.first
  pub settled : All (Reusable tests) d.second

-- the batches of all classes
abbrev pub Dated : Tests → State Token → Type 0
Dated tests s = (k : ℕ) → DatedRow tests (s.rows k).deferred
