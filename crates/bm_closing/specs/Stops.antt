-- Where sweeps stop for want of memory: before they have recorded anything, or before a return.
-- (This project's own: drain_mem_cache in kernel/bpf/memalloc.c needs no memory.)
use Rattle.std.specs.Prelude.{◌≡◌, ◌≢◌, ◌⊎◌, ℕ, List, [], ◌∷◌, ◌++◌, Option, IfSome}
use Rattle.std.specs.List.{concat}
use Rattle.bm_journal.specs.declared.counts.Counts.{Counts}
use Rattle.bm_journal.specs.declared.units.Units.TheVariants.{Whole}
use Rattle.bm_journal.specs.declared.entry.Entry.{Entry}
use Rattle.bm_journal.specs.declared.entry.Entry.TheVariants as entry
use Rattle.bm_grace.specs.Known.{Known}
use Rattle.bm_law.specs.State.{State, seen, seven_lists}
use Rattle.bm_law.specs.Lists.{Log}
use Rattle.bm_law.specs.Alone.{Alone}
use Rattle.bm_post.specs.Rights.{numbers}
use Rattle.bm_cache.specs.Tokens.{Token, number_of}
use Rattle.bm_cache.specs.Placed.{Placed}
use Rattle.bm_cache.specs.Shown.{shown}
use Rattle.bm_cache.specs.Span.{Face}
use Rattle.bm_cache.specs.declared.caches.Caches.{Caches}
use Rattle.bm_law_work.specs.Grown.{GrewBy}
use Rattle.bm_law_work.specs.Parts.{Part, Nothing, Say, Then}
use Rattle.bm_work.specs.Stops.{Or}
use Rattle.bm_work.specs.Works.{Stopped}
use Rattle.bm_law_scenario.specs.Closing.{AreSweeps, SweepOf}
use Rattle.bm_closing.specs.EndsBegun.{EndsBegun}
use Rattle.bm_closing.specs.SweepsEach.{SweepsEach}

-- All entries of a sweep of these units but its return: with the return behind them they are a
-- sweep, which takes exactly these units.
abbrev pub LacksReturn : ℕ → List ℕ → List Entry → Type 0
LacksReturn c units own = SweepOf c units (own ++ entry.Return c (Whole units) ∷ [])

-- where there are units, nothing of their sweep, or all of it but its return
abbrev pub SweepStop : ℕ → List ℕ → Part
SweepStop c [] = Nothing
SweepStop c (u ∷ us) = Or Nothing (Say 0 (LacksReturn c (u ∷ us)))

-- the sweep of a class stops, of the units of its lists and, behind them, of those from its inbox
abbrev pub ClassStop : ℕ → Part
ClassStop c s part = (inbox : List ℕ) × SweepStop c (seven_lists (s.rows c) ++ inbox) s part

-- the numbers of all units of a class's lists, in the order of a sweep
abbrev pub in_lists : ℕ → State Token → List ℕ
in_lists c s = seven_lists ((seen number_of s).rows c)

-- The units of a class's lists, and these behind them, were swept, and didn't go back: they stand
-- in the lists. The other classes are as before.
pub record Unreturned {R : Type 0} (log : R → Option Log) (counts : R → Counts) (c : ℕ)
    (units : List Token) (before now : Caches R) : Type 0 where
  pub phrase : GrewBy (Say 0 (LacksReturn c (in_lists c (shown before) ++ numbers units)))
      (seen number_of (shown before)) (log before.recorder) (log now.recorder)
  pub alone : Alone 0 (log before.recorder) (log now.recorder)
  pub placed : Placed log counts now
  pub kept : seven_lists ((shown now).rows c) ≡ seven_lists ((shown before).rows c) ++ units
  pub others : (k : ℕ) → k ≢ c → (shown now).rows k ≡ (shown before).rows k
  pub processor : now.processor ≡ before.processor

-- The sweep of a class stopped for want of memory: nothing of it was recorded, or all but its
-- return, and the caches are placed. The units are those of the lists and, behind them, those of
-- the inbox. None has left the lists: these hold what they held, and behind it nothing, or the
-- units of the inbox. The other classes are as before.
pub record StopsSweep {H R : Type 0} (log : R → Option Log) (counts : R → Counts) (faces : H → Face)
    (holds : H → Caches R) (known : H → Known) (c : ℕ) (before now : H) : Type 0 where
  pub inbox : List ℕ
  pub stopped : Stopped log counts faces holds
      (λ l. SweepStop c (in_lists c (shown (holds before)) ++ inbox)) before now
  pub alone : Alone 0 (log (holds before).recorder) (log (holds now).recorder)
  pub parcels : IfSome (known before).parcels (λ boxes. inbox ≡ concat (boxes c))
  pub came : List Token
  pub none_or_all : (came ≡ []) ⊎ (numbers came ≡ inbox)
  pub kept : seven_lists ((shown (holds now)).rows c)
      ≡ seven_lists ((shown (holds before)).rows c) ++ came
  pub others : (k : ℕ) → k ≢ c → (shown (holds now)).rows k ≡ (shown (holds before)).rows k
  pub processor : (holds now).processor ≡ (holds before).processor

-- Sweeps of classes, one after the other, stopped for want of memory: the first ones were whole,
-- the next one stopped, and no class behind it was touched.
pub record StopsEach {H R : Type 0} (log : R → Option Log) (counts : R → Counts) (faces : H → Face)
    (waits : H → ℕ) (stays : H → H → Type 0) (holds : H → Caches R) (known : H → Known)
    (cs : List ℕ) (before now : H) : Type 0 where
  pub done : List ℕ
  pub class : ℕ
  pub left : List ℕ
  pub classes_are : cs ≡ done ++ class ∷ left
  pub stopped : Stopped log counts faces holds
      (λ l. Then (AreSweeps done) (ClassStop class)) before now
  pub middle : H
  pub sweeps : SweepsEach log faces waits stays holds known done before middle
  pub stops : StopsSweep log counts faces holds known class middle now

-- A closing stopped for want of memory: the periods in progress ended, which moved no unit, and the
-- sweeps of the classes stopped.
pub record StopsClosing {H R : Type 0} (log : R → Option Log) (counts : R → Counts)
    (faces : H → Face) (waits : H → ℕ) (stays : H → H → Type 0) (holds : H → Caches R)
    (known : H → Known) (cs : List ℕ) (before now : H) : Type 0 where
  pub middle : H
  pub ends : GrewBy (EndsBegun (known before)) (seen number_of (shown (holds before)))
      (log (holds before).recorder) (log (holds middle).recorder)
  pub alone : Alone 0 (log (holds before).recorder) (log (holds middle).recorder)
  pub lists : shown (holds middle) ≡ shown (holds before)
  pub stops : StopsEach log counts faces waits stays holds known cs middle now
