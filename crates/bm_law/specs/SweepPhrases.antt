-- The phrases of a poll and of the closing's sweep: the entries of their own level, in order. (This project's own.)
use Rattle.std.specs.Prelude.{◌≡◌, ◌⊎◌, ℕ, List, [], ◌∷◌, ◌++◌}
use Rattle.bm_journal.specs.declared.ids.Domain.{Domain}
use Rattle.bm_journal.specs.declared.ids.Domain.TheVariants.{Tracing}
use Rattle.bm_journal.specs.declared.period.Period.{Period}
use Rattle.bm_journal.specs.declared.units.Units.TheVariants.{Whole}
use Rattle.bm_journal.specs.declared.entry.Entry.{Entry}
use Rattle.bm_journal.specs.declared.entry.Entry.TheVariants as entry

-- a period of a domain ends
abbrev pub Finishes : Domain → Entry → Type 0
Finishes d e = (period : Period) × (period.domain ≡ d) × (e ≡ entry.Finish period)

-- nothing, or the end of a period
abbrev pub MayFinish : Domain → List Entry → Type 0
MayFinish d own = (own ≡ []) ⊎ ((e : Entry) × (own ≡ e ∷ []) × Finishes d e)

-- nothing, or a period that begins, with its end or without
abbrev pub MayBegin : Domain → List Entry → Type 0
MayBegin d own =
    (own ≡ []) ⊎ ((n : ℕ) × (rest : List Entry) × (own ≡ entry.Begin d n ∷ rest) × MayFinish d rest)

-- a poll of a domain: the end of a period, a period, and what number was seen
pub record PollPhrase (c : ℕ) (d : Domain) (own : List Entry) : Type 0 where
  pub ended : List Entry
  pub begun : List Entry
  pub seen : ℕ
  pub own_is : own ≡ ended ++ (begun ++ entry.Pass c d seen ∷ [])
  pub may_finish : MayFinish d ended
  pub may_begin : MayBegin d begun

-- a sweep: all units of a class become a tracing batch, which takes its stamp, waits for it and goes back to the stock
pub record SweepPhrase (c : ℕ) (own : List Entry) : Type 0 where
  pub swept : List ℕ
  pub returned : List ℕ
  pub stamp : ℕ
  pub poll : List Entry
  pub own_is :
      own
      ≡ entry.Sweep c (Whole swept) ∷ entry.Stamp c Tracing stamp ∷ poll
      ++ entry.Return c (Whole returned) ∷ []
  pub polls : PollPhrase c Tracing poll
