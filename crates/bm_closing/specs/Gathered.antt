-- All units of a class as one tracing batch. (This project's own.)
use Rattle.std.specs.Prelude.{◌≡◌, ℕ, List, [], ◌∷◌, ◌++◌, map, Option}
use Rattle.bm_journal.specs.declared.ids.Domain.TheVariants.{Tracing}
use Rattle.bm_journal.specs.declared.units.Units.TheVariants.{Whole}
use Rattle.bm_journal.specs.declared.entry.Entry.{Entry}
use Rattle.bm_journal.specs.declared.entry.Entry.TheVariants as entry
use Rattle.bm_law.specs.State.{State, seven_lists}
use Rattle.bm_law.specs.Effect.{effect}
use Rattle.bm_law.specs.Lists.{Log}
use Rattle.bm_law.specs.Alone.{Adds}
use Rattle.bm_cache.specs.Tokens.{Token, number_of}
use Rattle.bm_cache.specs.Shown.{shown}
use Rattle.bm_cache.specs.declared.caches.Caches.{Caches}
use Rattle.bm_closing.specs.declared.period.Waited.{Waited}

-- the numbers of the units of a class's lists, and of these behind them
abbrev pub swept : ℕ → List Token → State Token → List ℕ
swept c units s = map number_of (seven_lists (s.rows c) ++ units)

-- the entries by which they become a batch that waits for a period, and the period passes
abbrev pub gathering : ℕ → List ℕ → Waited → List Entry
gathering c numbers w =
    entry.Sweep c (Whole numbers) ∷ entry.Stamp c Tracing w.stamp ∷ entry.Begin Tracing w.begun
    ∷ entry.Finish w.period ∷ entry.Pass c Tracing w.seen ∷ []

-- The units of the lists of a class, and those that came, became a batch, and its period has passed.
pub record Gathered {R : Type 0} (log : R → Option Log) (c : ℕ) (units : List Token) (w : Waited)
    (before now : Caches R) : Type 0 where
  pub gained :
      Adds 0 (gathering c (swept c units (shown before)) w) (log before.recorder) (log now.recorder)
  pub lists :
      shown now
      ≡ effect 0 (entry.Stamp c Tracing w.stamp) []
      (effect 0 (entry.Sweep c (Whole (swept c units (shown before)))) units (shown before))
  pub processor : now.processor ≡ before.processor
