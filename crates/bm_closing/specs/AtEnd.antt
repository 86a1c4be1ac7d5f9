-- A desk whose processor's scripts have ended. (This project's own.)
use Rattle.std.specs.Prelude.{◌≡◌, ℕ, zero, suc, ◌+◌, Option}
use Rattle.bm_journal.specs.declared.counts.Counts.{Counts}
use Rattle.bm_law.specs.Lists.{Log}
use Rattle.bm_cache.specs.Tests.{Tests}
use Rattle.bm_cache.specs.Span.{Face, Fine}
use Rattle.bm_cache.specs.declared.caches.Caches.{Caches}

-- It is at the level of ordinary code, no call is in a cache or has anything in hand, and each unit stands where it suits.
pub record AtEnd {H R : Type 0} (log : R → Option Log) (counts : R → Counts) (is_sound : H → Type 0)
    (tests : H → Tests) (faces : H → Face) (holds : H → Caches R) (h : H) : Type 0 where
  pub sound : is_sound h
  pub ordinary : (faces h).level ≡ 0
  pub fine : Fine log counts (tests h) (faces h).processors 0 (holds h)

-- the number of a domain after a period that the side has in progress, if it has one, has ended
abbrev pub ended_at : ℕ → ℕ → ℕ
ended_at zero n = n
ended_at (suc k) n = n + 1
