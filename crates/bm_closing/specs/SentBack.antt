-- A tracing batch went back to the stock. (This project's own.)
use Rattle.std.specs.Prelude.{◌≡◌, ℕ, [], ◌∷◌, map, Option}
use Rattle.bm_journal.specs.declared.units.Units.TheVariants.{Whole}
use Rattle.bm_journal.specs.declared.entry.Entry.TheVariants as entry
use Rattle.bm_law.specs.Alone.{Adds}
use Rattle.bm_law.specs.Effect.{effect}
use Rattle.bm_law.specs.Lists.{Log}
use Rattle.bm_cache.specs.Shown.{shown}
use Rattle.bm_cache.specs.Tokens.{number_of}
use Rattle.bm_cache.specs.declared.caches.Caches.{Caches}

-- Exactly its units, by one entry, and nothing else moved.
pub record SentBack {R : Type 0} (log : R → Option Log) (c : ℕ) (before now : Caches R) :
    Type 0 where
  pub gained :
      Adds 0 (entry.Return c (Whole (map number_of ((shown before).rows c).deferred.second)) ∷ [])
      (log before.recorder) (log now.recorder)
  pub lists :
      shown now
      ≡ effect 0 (entry.Return c (Whole (map number_of ((shown before).rows c).deferred.second))) []
      (shown before)
  pub processor : now.processor ≡ before.processor
