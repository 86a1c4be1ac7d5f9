-- Batches that take their stamps.
use Rattle.std.proofs.Common.{◌≡◌, ℕ, suc, [], Some, subst, inr}
use Rattle.std.specs.Prelude.{get_or}
use Rattle.std.specs.List.{All}
use Rattle.bm_journal.specs.declared.ids.Domain.{Domain}
use Rattle.bm_journal.specs.declared.ids.Domain.TheVariants.{Plain, Tracing}
use Rattle.bm_journal.specs.declared.entry.Entry.TheVariants as entry
use Rattle.bm_law.specs.State.{State, Deferred}
use Rattle.bm_law.specs.Effect.{effect, stamped}
use Rattle.bm_law.specs.Lists.{stamp_of}
use Rattle.bm_law.specs.Places.{First, Second}
use Rattle.bm_cache.specs.Tokens.{Token}
use Rattle.bm_cache.specs.Tests.{Tests, Passes, Either, Proper}
use Rattle.bm_work.specs.Dated.{DatedRow, Dated, batch_of}
use Rattle.bm_work.specs.DeskTests.{since_test}
use Rattle.bm_work.proofs.Steps.{dated-with-row}

some-same : (x y : ℕ) → Some x ≡ Some y → x ≡ y
some-same x y e = cc

dated-stamp : (a : Tests) (d : Domain) (x : ℕ) (b : Deferred Token) → stamp_of d b ≡ Some 0 → All (Passes a (since_test d x)) (batch_of d b) → DatedRow a b → DatedRow a (stamped d x b)
dated-stamp a Plain x b u s h = record {
  plain = λ y e. let F : ℕ → Type 0 = λ k. All (Passes a (since_test Plain k)) b.first in subst F (some-same x (suc y) e) s;
  tracing = h.tracing;
  some = λ y e. h.some 0 u;
  settled = h.settled;
}
dated-stamp a Tracing x b u s h = record {
  plain = h.plain;
  tracing = λ y e. let F : ℕ → Type 0 = λ k. All (Passes a (since_test Tracing k)) b.second in subst F (some-same x (suc y) e) s;
  some = h.some;
  settled = h.settled;
}

pub dated-stamped : (a : Tests) (l c : ℕ) (d : Domain) (x : ℕ) (s : State Token) → stamp_of d (s.rows c).deferred ≡ Some 0 → All (Passes a (since_test d x)) (batch_of d (s.rows c).deferred) → Dated a s → Dated a (effect l (entry.Stamp c d x) [] s)
dated-stamped a l c Plain x s u p h = dated-with-row a c _ s (dated-stamp a Plain x (s.rows c).deferred u p (h c)) h
dated-stamped a l c Tracing x s u p h = dated-with-row a c _ s (dated-stamp a Tracing x (s.rows c).deferred u p (h c)) h

-- units of batches may be used again or wait
pub batch-since : (a b : Tests) (k c : ℕ) (d : Domain) (s : State Token) → Proper a s → ((u : Token) → Either a u → Passes b k u) → All (Passes b k) (batch_of d (s.rows c).deferred)
batch-since a b k c Plain s p f i u n = f (get_or (s.rows c).deferred.first i u) (inr (p.lists c First i u n))
batch-since a b k c Tracing s p f i u n = f (get_or (s.rows c).deferred.second i u) (p.lists c Second i u n)
