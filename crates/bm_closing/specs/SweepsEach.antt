-- Sweeps of classes, one after the other. (bpf_mem_alloc_destroy in kernel/bpf/memalloc.c drains the caches of all classes; the
-- order is this project's own.)
use Rattle.std.specs.Prelude.{◌≡◌, ◌<◌, ◌≤◌, ℕ, ◌+◌, List, [], ◌∷◌, length, Option, IfSome}
use Rattle.std.specs.Option.{option_map}
use Rattle.bm_grace.specs.Known.{Known}
use Rattle.bm_law.specs.State.{seen, seven_lists}
use Rattle.bm_law.specs.Lists.{Log}
use Rattle.bm_law.specs.Alone.{Alone}
use Rattle.bm_law.specs.Stands.{times}
use Rattle.bm_cache.specs.Tokens.{number_of}
use Rattle.bm_cache.specs.Shown.{shown}
use Rattle.bm_cache.specs.Span.{Face, Goes}
use Rattle.bm_cache.specs.declared.caches.Caches.{Caches}
use Rattle.bm_law_work.specs.Grown.{GrewBy}
use Rattle.bm_law.specs.Inboxes.{Inboxes}
use Rattle.bm_work.specs.Goes.{Alike}
use Rattle.bm_law_scenario.specs.Closing.{AreSweeps}
use Rattle.bm_law_logs.specs.SweepsTold.{SweepsTold}
use Rattle.bm_closing.specs.Arrived.{emptied}

-- the inboxes of these classes without a parcel
abbrev pub all_emptied : List ℕ → Inboxes → Inboxes
all_emptied [] boxes = boxes
all_emptied (c ∷ cs) boxes = all_emptied cs (emptied c boxes)

-- All units of these classes went back to the stock, of the lists and of the inboxes, class by class. The other classes are as
-- before, at most one tracing period a class has begun, and no section and no object.
pub record SweepsEach {H R : Type 0} (log : R → Option Log) (faces : H → Face) (waits : H → ℕ)
    (stays : H → H → Type 0) (holds : H → Caches R) (known : H → Known) (cs : List ℕ)
    (before now : H) :
    Type 0 where
  pub told :
      IfSome (known before).parcels
      (λ boxes. GrewBy (SweepsTold cs boxes) (seen number_of (shown (holds before)))
      (log (holds before).recorder) (log (holds now).recorder))
  pub sweeps :
      GrewBy (AreSweeps cs) (seen number_of (shown (holds before))) (log (holds before).recorder)
      (log (holds now).recorder)
  pub alone : Alone 0 (log (holds before).recorder) (log (holds now).recorder)
  pub none_left : (known now).parcels ≡ option_map (all_emptied cs) (known before).parcels
  pub empty : (k : ℕ) → 0 < times k cs → seven_lists ((shown (holds now)).rows k) ≡ []
  pub others : (k : ℕ) → times k cs ≡ 0 → (shown (holds now)).rows k ≡ (shown (holds before)).rows k
  pub processor : (holds now).processor ≡ (holds before).processor
  pub goes : Goes faces waits stays before now
  pub alike : Alike (known before) (known now)
  pub plain_begins : (known now).grace.plain.begins ≡ (known before).grace.plain.begins
  pub tracing_begins :
      (known before).grace.tracing.begins ≤ (known now).grace.tracing.begins + length cs
