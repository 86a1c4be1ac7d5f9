-- What a call on a desk needs, leaves and does.
use Rattle.std.specs.Prelude.{◌≡◌, ◌≤◌, ℕ, ◌+◌, List, Option}
use Rattle.bm_journal.specs.declared.counts.Counts.{Counts}
use Rattle.bm_journal.specs.declared.ids.Domain.{Domain}
use Rattle.bm_journal.specs.declared.ids.Domain.TheVariants.{Plain, Tracing}
use Rattle.bm_grace.specs.Known.{Known, side}
use Rattle.bm_grace.specs.Rights.{Rights, Ages}
use Rattle.bm_law.specs.Lists.{Log}
use Rattle.bm_law.specs.State.{seen}
use Rattle.bm_cache.specs.Tests.{Tests}
use Rattle.bm_cache.specs.Tokens.{number_of}
use Rattle.bm_cache.specs.Shown.{shown}
use Rattle.bm_cache.specs.Placed.{Placed}
use Rattle.bm_cache.specs.Span.{Face, Fine, Goes, RaisesNone, Unbroken}
use Rattle.bm_cache.specs.declared.caches.Caches.{Caches}
use Rattle.bm_law_work.specs.Parts.{Part}
use Rattle.bm_work_lists.specs.Grown.{GrewBy}
use Rattle.bm_work.specs.Dated.{Dated}
use Rattle.bm_work.specs.Onward.{Onward}

-- A call of the desk's level may begin or go on: its caches are as calls need them, each batch that has a stamp is of units
-- that have been the side's since then, and what else the host needs.
pub record Stands {H R : Type 0} (log : R → Option Log) (counts : R → Counts)
    (is_sound : H → Type 0) (tests : H → Tests) (faces : H → Face) (holds : H → Caches R)
    (h : H) :
    Type 0 where
  pub sound : is_sound h
  pub fine : Fine log counts (tests h) (faces h).processors ((faces h).level + 1) (holds h)
  pub dated : Dated (tests h) (shown (holds h))

-- at most one period of this domain begins
abbrev pub plain_of : Domain → ℕ
plain_of Plain = 1
plain_of Tracing = 0

abbrev pub tracing_of : Domain → ℕ
tracing_of Plain = 0
tracing_of Tracing = 1

-- The side was called and nothing else: the caches, the face and what waits are as they were, the rights age, the side is the
-- same processor's, with the same periods in progress, and of the periods that may still begin at most so many plain and
-- tracing ones are used up.
pub record Called {H R : Type 0} (faces : H → Face) (waits : H → ℕ) (keeps : H → H → Type 0)
    (holds : H → Caches R) (known : H → Known) (rights : H → Rights) (plain tracing : ℕ)
    (before now : H) :
    Type 0 where
  pub held : holds now ≡ holds before
  pub face : faces now ≡ faces before
  pub pending : waits now ≡ waits before
  pub stays : keeps before now
  pub ages : Ages (rights before) (rights now)
  pub same_side : (known now).grace.processor ≡ (known before).grace.processor
  pub numbers : (d : Domain) → (side d (known now)).number ≡ (side d (known before)).number
  pub plain_begins : (known before).grace.plain.begins ≤ (known now).grace.plain.begins + plain
  pub tracing_begins :
      (known before).grace.tracing.begins ≤ (known now).grace.tracing.begins + tracing

-- The same, but that a period may have begun or ended.
pub record Turned {H R : Type 0} (faces : H → Face) (waits : H → ℕ) (keeps : H → H → Type 0)
    (holds : H → Caches R) (known : H → Known) (rights : H → Rights) (plain tracing : ℕ)
    (before now : H) :
    Type 0 where
  pub held : holds now ≡ holds before
  pub face : faces now ≡ faces before
  pub pending : waits now ≡ waits before
  pub stays : keeps before now
  pub ages : Ages (rights before) (rights now)
  pub same_side : (known now).grace.processor ≡ (known before).grace.processor
  pub plain_begins : (known before).grace.plain.begins ≤ (known now).grace.plain.begins + plain
  pub tracing_begins :
      (known before).grace.tracing.begins ≤ (known now).grace.tracing.begins + tracing

-- The post was called and nothing else: the caches, the face and what waits are as they were, what was true of units that
-- aren't among these is true, and what is known of grace periods is as it was.
pub record Posted {H R : Type 0} (faces : H → Face) (waits : H → ℕ) (keeps : H → H → Type 0)
    (holds : H → Caches R) (known : H → Known) (tests : H → Tests) (gone : List ℕ)
    (before now : H) :
    Type 0 where
  pub held : holds now ≡ holds before
  pub face : faces now ≡ faces before
  pub pending : waits now ≡ waits before
  pub stays : keeps before now
  pub onward : Onward gone (tests before) (tests now)
  pub known_is : (known now).grace ≡ (known before).grace

-- A call was made: the log has grown by exactly this part at the desk's level, with whatever handlers between; the desk goes
-- on; where no handler ran there are entries of its own level alone, and no flag was raised; each active number is as it was;
-- and at most so many plain and tracing periods have begun.
pub record Works {H R : Type 0} (log : R → Option Log) (faces : H → Face) (waits : H → ℕ)
    (stays : H → H → Type 0) (holds : H → Caches R) (known : H → Known) (plain tracing : ℕ)
    (part : ℕ → Part) (before now : H) :
    Type 0 where
  pub phrase :
      GrewBy (part (faces before).level) (seen number_of (shown (holds before)))
      (log (holds before).recorder) (log (holds now).recorder)
  pub goes : Goes faces waits stays before now
  pub alone : Unbroken faces waits holds log before now
  pub flags : RaisesNone waits holds before now
  pub processor : (holds now).processor ≡ (holds before).processor
  pub active :
      (k : ℕ) → ((shown (holds now)).rows k).active ≡ ((shown (holds before)).rows k).active
  pub plain_begins : (known before).grace.plain.begins ≤ (known now).grace.plain.begins + plain
  pub tracing_begins :
      (known before).grace.tracing.begins ≤ (known now).grace.tracing.begins + tracing
  pub same_side : (known now).grace.processor ≡ (known before).grace.processor

-- A call stopped for want of memory: the log has grown by this part, and the caches are placed.
pub record Stopped {H R : Type 0} (log : R → Option Log) (counts : R → Counts) (faces : H → Face)
    (holds : H → Caches R) (part : ℕ → Part) (before now : H) : Type 0 where
  pub phrase :
      GrewBy (part (faces before).level) (seen number_of (shown (holds before)))
      (log (holds before).recorder) (log (holds now).recorder)
  pub placed : Placed log counts (holds now)

-- The caches alone changed, and the host goes on.
pub record Handled {H W : Type 0} (faces : H → Face) (waits : H → ℕ) (keeps : H → H → Type 0)
    (shared : H → W) (tests : H → Tests) (before now : H) : Type 0 where
  pub face : faces now ≡ faces before
  pub pending : waits now ≡ waits before
  pub stays : keeps before now
  pub shared_is : shared now ≡ shared before
  pub tests_are : tests now ≡ tests before
