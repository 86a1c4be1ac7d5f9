-- The units of a class's lists, and those that came from its inbox, on their way back to the stock. (This project's own.)
use Rattle.std.specs.Prelude.{◌≡◌, ◌≢◌, ◌≤◌, ℕ, ◌+◌, List, [], ◌++◌, Option}
use Rattle.bm_page.specs.UnitState.{UnitState}
use Rattle.bm_grace.specs.Known.{Known}
use Rattle.bm_law.specs.State.{seen, seven_lists}
use Rattle.bm_law.specs.Lists.{Log}
use Rattle.bm_law.specs.Alone.{Alone}
use Rattle.bm_post.specs.Rights.{numbers}
use Rattle.bm_cache.specs.Tokens.{number_of}
use Rattle.bm_cache.specs.Shown.{shown}
use Rattle.bm_cache.specs.Span.{Face, Goes}
use Rattle.bm_cache.specs.declared.caches.Caches.{Caches}
use Rattle.bm_law_work.specs.Grown.{GrewBy}
use Rattle.bm_law_work.specs.Parts.{Say}
use Rattle.bm_work.specs.Goes.{Alike}
use Rattle.bm_law_scenario.specs.Closing.{SweepOf}

-- They went back by a sweep, and the inboxes and the other classes are as before.
pub record Swept {H R : Type 0} (log : R → Option Log) (faces : H → Face) (waits : H → ℕ)
    (stays : H → H → Type 0) (holds : H → Caches R) (known : H → Known) (c : ℕ)
    (units : List UnitState) (before now : H) :
    Type 0 where
  pub phrase :
      GrewBy
      (Say 0
      (SweepOf c
      (seven_lists ((seen number_of (shown (holds before))).rows c) ++ numbers units)))
      (seen number_of (shown (holds before))) (log (holds before).recorder)
      (log (holds now).recorder)
  pub alone : Alone 0 (log (holds before).recorder) (log (holds now).recorder)
  pub empty : seven_lists ((shown (holds now)).rows c) ≡ []
  pub others : (k : ℕ) → k ≢ c → (shown (holds now)).rows k ≡ (shown (holds before)).rows k
  pub processor : (holds now).processor ≡ (holds before).processor
  pub goes : Goes faces waits stays before now
  pub alike : Alike (known before) (known now)
  pub parcels : (known now).parcels ≡ (known before).parcels
  pub plain_begins : (known now).grace.plain.begins ≡ (known before).grace.plain.begins
  pub tracing_begins : (known before).grace.tracing.begins ≤ (known now).grace.tracing.begins + 1
