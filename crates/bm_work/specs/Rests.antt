-- A desk on which no call is under way.
use Rattle.std.specs.Prelude.{◌≡◌, ◌≤◌, ℕ, false, Option}
use Rattle.bm_journal.specs.declared.counts.Counts.{Counts}
use Rattle.bm_journal.specs.declared.ids.Domain.{Domain}
use Rattle.bm_grace.specs.Known.{Known, side}
use Rattle.bm_law.specs.Kept.{Ready}
use Rattle.bm_law.specs.Lists.{Log, is_unstamped}
use Rattle.bm_cache.specs.Tests.{Tests}
use Rattle.bm_cache.specs.Shown.{shown}
use Rattle.bm_cache.specs.Span.{Face}
use Rattle.bm_cache.specs.declared.caches.Caches.{Caches}
use Rattle.bm_work.specs.Works.{Stands}

-- The desk stands, at the level of ordinary code, no call is in a cache or has anything in hand, the plain batch of this class,
-- if there is one, has its stamp, and so many periods of each domain may still begin.
pub record Rests {H R : Type 0} (log : R → Option Log) (counts : R → Counts) (is_sound : H → Type 0)
    (tests : H → Tests) (faces : H → Face) (holds : H → Caches R) (known : H → Known) (c n : ℕ)
    (h : H) :
    Type 0 where
  pub stands : Stands log counts is_sound tests faces holds h
  pub ordinary : (faces h).level ≡ 0
  pub quiet : Ready (faces h).level (shown (holds h))
  pub stamped : is_unstamped ((shown (holds h)).rows c).deferred.plain ≡ false
  pub begins : (d : Domain) → n ≤ (side d (known h)).begins
