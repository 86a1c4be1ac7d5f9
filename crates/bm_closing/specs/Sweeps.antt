-- The sweep of a class. (free_mem_alloc and drain_mem_cache in kernel/bpf/memalloc.c empty all lists of a cache; that a tracing
-- period stands before the return is this project's own.)
use Rattle.std.specs.Prelude.{◌≡◌, ◌≢◌, ◌≤◌, ℕ, ◌+◌, List, [], ◌++◌, Option, IfSome}
use Rattle.std.specs.List.{concat}
use Rattle.std.specs.Option.{option_map}
use Rattle.bm_grace.specs.Known.{Known}
use Rattle.bm_law.specs.State.{seen, seven_lists}
use Rattle.bm_law.specs.Lists.{Log}
use Rattle.bm_law.specs.Alone.{Alone}
use Rattle.bm_cache.specs.Tokens.{number_of}
use Rattle.bm_cache.specs.Shown.{shown}
use Rattle.bm_cache.specs.Span.{Face, Goes}
use Rattle.bm_cache.specs.declared.caches.Caches.{Caches}
use Rattle.bm_law_work.specs.Grown.{GrewBy}
use Rattle.bm_work.specs.Goes.{Alike}
use Rattle.bm_law_scenario.specs.Closing.{SweepWhere}
use Rattle.bm_closing.specs.Arrived.{emptied}

-- All units of a class's lists and of its inbox went back to the stock, by a sweep where there were any, and by nothing at all
-- where there were none. The other classes are as before, at most one tracing period has begun, and no section and no object.
pub record Sweeps {H R : Type 0} (log : R → Option Log) (faces : H → Face) (waits : H → ℕ)
    (stays : H → H → Type 0) (holds : H → Caches R) (known : H → Known) (c : ℕ)
    (before now : H) :
    Type 0 where
  pub inbox : List ℕ
  pub phrase :
      GrewBy (SweepWhere c (seven_lists ((seen number_of (shown (holds before))).rows c) ++ inbox))
      (seen number_of (shown (holds before))) (log (holds before).recorder)
      (log (holds now).recorder)
  pub alone : Alone 0 (log (holds before).recorder) (log (holds now).recorder)
  pub parcels : IfSome (known before).parcels (λ boxes. inbox ≡ concat (boxes c))
  pub none_waited : IfSome (known before).parcels (λ boxes. inbox ≡ [] → boxes c ≡ [])
  pub none_left : (known now).parcels ≡ option_map (emptied c) (known before).parcels
  pub empty : seven_lists ((shown (holds now)).rows c) ≡ []
  pub others : (k : ℕ) → k ≢ c → (shown (holds now)).rows k ≡ (shown (holds before)).rows k
  pub processor : (holds now).processor ≡ (holds before).processor
  pub goes : Goes faces waits stays before now
  pub alike : Alike (known before) (known now)
  pub plain_begins : (known now).grace.plain.begins ≡ (known before).grace.plain.begins
  pub tracing_begins : (known before).grace.tracing.begins ≤ (known now).grace.tracing.begins + 1
