-- A desk between two statements. (This project's own.)
use Rattle.std.specs.Prelude.{◌≡◌, ℕ, false, Option}
use Rattle.bm_journal.specs.declared.counts.Counts.{Counts}
use Rattle.bm_law.specs.Kept.{Ready}
use Rattle.bm_law.specs.Lists.{Log, is_unstamped}
use Rattle.bm_cache.specs.Tests.{Tests}
use Rattle.bm_cache.specs.Shown.{shown}
use Rattle.bm_cache.specs.Span.{Face}
use Rattle.bm_cache.specs.declared.caches.Caches.{Caches}
use Rattle.bm_work.specs.Works.{Stands}

-- The desk stands, at the level of ordinary code, no call is in a cache or has anything in hand, and each plain batch, if there
-- is one, has its stamp.
pub record Settled {H R : Type 0} (log : R → Option Log) (counts : R → Counts)
    (is_sound : H → Type 0) (tests : H → Tests) (faces : H → Face) (holds : H → Caches R)
    (h : H) :
    Type 0 where
  pub stands : Stands log counts is_sound tests faces holds h
  pub ordinary : (faces h).level ≡ 0
  pub quiet : Ready (faces h).level (shown (holds h))
  pub stamped : (c : ℕ) → is_unstamped ((shown (holds h)).rows c).deferred.plain ≡ false
