-- A stretch of deferred work.
use Rattle.std.specs.Prelude.{◌≡◌, ℕ, List, Option}
use Rattle.bm_journal.specs.declared.entry.Entry.{Entry}
use Rattle.bm_law.specs.Lists.{Log}
use Rattle.bm_law.specs.Kept.{Between}
use Rattle.bm_law.specs.Spans.{Records}
use Rattle.bm_cache.specs.Tests.{Tests, Lasting}
use Rattle.bm_cache.specs.Shown.{shown}
use Rattle.bm_cache.specs.Walk.{Walk}
use Rattle.bm_cache.specs.declared.caches.Caches.{Caches}

-- Deferred work of level l on class c has come from the caches `before` to the caches `now` by these entries of its own.
-- It may have moved the lists that deferred work alone writes. So the tests that are as they were are those of the units
-- that stand in these lists now.
pub record WorkSpan {R : Type 0} (log : R → Option Log) (l c : ℕ) (own : List Entry)
    (tests tests' : Tests) (before now : Caches R) : Type 0 where
  pub between : Between l c 0 0 (shown before) (shown now)
  pub walk : Walk l own (shown before) (shown now)
  pub records : Records l own (log before.recorder) (log now.recorder)
  pub lasting : Lasting l (shown now) tests tests'
  pub processor : now.processor ≡ before.processor
