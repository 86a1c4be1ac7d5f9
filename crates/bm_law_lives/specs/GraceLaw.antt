-- Grace periods over all logs. (rcu_seq_start, rcu_seq_end and rcu_seq_done of kernel/rcu/rcu.h; rcu_gp_init and rcu_gp_fqs of
-- kernel/rcu/tree.c for the plain domain, rcu_tasks_wait_gp of kernel/rcu/tasks.h for the tracing one. That a period ends by
-- the processor that began it, and what the words are, is this project's own.)
use Rattle.std.specs.Prelude.{◌≡◌, ◌<◌, ◌≤◌, ◌⊎◌, ℕ, ◌+◌, ◌-◌, ◌*◌, ◌%◌, List, [], ◌∷◌, length, map, take, drop, Option, None, Some}
use Rattle.bm_journal.specs.declared.ids.Domain.{Domain}
use Rattle.bm_journal.specs.declared.ids.Domain.TheVariants.{Plain, Tracing}
use Rattle.bm_journal.specs.declared.period.Period.{Period}
use Rattle.bm_journal.specs.declared.entry.Entry.{Entry}
use Rattle.bm_journal.specs.declared.entry.Entry.TheVariants as entry
use Rattle.bm_law.specs.Lists.{Log}
use Rattle.bm_law.specs.Begun.{for_domain, begun_after}
use Rattle.bm_law_lives.specs.Together.{AreOnce, named, EachLog}

-- so, where the domains are the same one
abbrev pub InDomain : Domain → Domain → Type 0 → Type 0
InDomain Plain Plain P = P
InDomain Tracing Tracing P = P
InDomain _ _ P = Unit {0}

-- ---- numbers

-- the number with which an entry begins a period of domain d, and the one with which it ends one
abbrev pub begun_number : Domain → Entry → List ℕ
begun_number d (entry.Begin e n) = for_domain d e (n ∷ []) []
begun_number d _ = []

abbrev pub ended_number : Domain → Entry → List ℕ
ended_number d (entry.Finish period) = for_domain d period.domain (period.number ∷ []) []
ended_number d _ = []

-- Periods begin with 1, 3, .. and end with 2, 4, .., each number once, and the last one at most has begun and not ended.
pub record NumbersFit (d : Domain) (logs : List Log) : Type 0 where
  pub begun : AreOnce (λ k. 2 * k + 1) (named (begun_number d) logs)
  pub ended : AreOnce (λ k. 2 * k + 2) (named (ended_number d) logs)
  pub in_turn : length (named (begun_number d) logs) ≤ length (named (ended_number d) logs) + 1

-- ---- sections

-- the word of domain d after an entry of its processor's log, and after a log
abbrev pub word_after : Domain → ℕ → Entry → ℕ
word_after d w (entry.In e n) = for_domain d e n w
word_after d w (entry.Out e n) = for_domain d e n w
word_after d w _ = w

abbrev pub last_word : Domain → ℕ → Log → ℕ
last_word d w [] = w
last_word d w (e ∷ es) = last_word d (word_after d w e.1) es

-- The word is one greater, odd where a section begins and even where it ends.
abbrev pub SectionFits : Domain → ℕ → Entry → Type 0
SectionFits d w (entry.In e n) = InDomain d e ((n ≡ w + 1) × (n % 2 ≡ 1))
SectionFits d w (entry.Out e n) = InDomain d e ((n ≡ w + 1) × (n % 2 ≡ 0))
SectionFits d w _ = Unit {0}

-- each section entry of a log, where the word was w before it
abbrev pub SectionsFit : Domain → ℕ → Log → Type 0
SectionsFit d w [] = Unit {0}
SectionsFit d w (e ∷ es) = SectionFits d w e.1 × SectionsFit d (word_after d w e.1) es

-- ---- the words of a period: one of each processor for plain, two for tracing, the plain one first

-- the last words that the logs name
abbrev pub last_words : Domain → List Log → List ℕ
last_words Plain logs = map (λ log. last_word Plain 0 log) logs
last_words Tracing [] = []
last_words Tracing (log ∷ logs) =
    last_word Plain 0 log ∷ last_word Tracing 0 log ∷ last_words Tracing logs

-- those of processor p among the words of a period
abbrev pub words_of : Domain → ℕ → List ℕ → List ℕ
words_of Plain p ws = take 1 (drop p ws)
words_of Tracing p ws = take 2 (drop (2 * p) ws)

-- each word was even when it was first looked at, or is greater later
abbrev pub AllPass : List ℕ → List ℕ → Type 0
AllPass [] [] = Unit {0}
AllPass (first ∷ firsts) (later ∷ laters) =
    ((first % 2 ≡ 0) ⊎ (first < later)) × AllPass firsts laters
AllPass _ _ = ⊥

-- there are as many words as bounds, and none is above its own
abbrev pub NoneAbove : List ℕ → List ℕ → Type 0
NoneAbove [] [] = Unit {0}
NoneAbove (w ∷ ws) (bound ∷ bounds) = (w ≤ bound) × NoneAbove ws bounds
NoneAbove _ _ = ⊥

-- ---- periods

-- What a log says of its processor: its two words, the number with which its period of a domain in progress began, if one is,
-- and its words at that begin.
pub record Driver : Type 0 where
  pub plain : ℕ
  pub tracing : ℕ
  pub begun : Option ℕ
  pub first : List ℕ

abbrev pub no_driver : Driver
no_driver = record { plain = 0; tracing = 0; begun = None; first = [] }

-- its words that a period of a domain looks at
abbrev pub words_now : Domain → Driver → List ℕ
words_now Plain s = s.plain ∷ []
words_now Tracing s = s.plain ∷ s.tracing ∷ []

abbrev pub first_after : Domain → Driver → Entry → List ℕ
first_after d s (entry.Begin e n) = for_domain d e (words_now d s) s.first
first_after d s _ = s.first

abbrev pub driver_after : Domain → Driver → Entry → Driver
driver_after d s e = record {
  plain = word_after Plain s.plain e;
  tracing = word_after Tracing s.tracing e;
  begun = begun_after d s.begun e;
  first = first_after d s e;
}

-- The period that processor p began last ends: its number is the next one, all its words pass, none is above the last word that
-- its processor's log names, and p's own words are those that p had at the begin and that it has now.
pub record IsEnd (d : Domain) (p : ℕ) (bounds : List ℕ) (s : Driver) (period : Period) :
    Type 0 where
  pub begun : s.begun ≡ Some (period.number - 1)
  pub passed : AllPass period.first period.later
  pub first_named : NoneAbove period.first bounds
  pub later_named : NoneAbove period.later bounds
  pub own_first : words_of d p period.first ≡ s.first
  pub own_later : words_of d p period.later ≡ words_now d s

-- the same of an entry that ends a period of this domain
abbrev pub PeriodFits : Domain → ℕ → List ℕ → Driver → Entry → Type 0
PeriodFits d p bounds s (entry.Finish period) = InDomain d period.domain (IsEnd d p bounds s period)
PeriodFits d p bounds s _ = Unit {0}

-- each entry of a log
abbrev pub PeriodsFit : Domain → ℕ → List ℕ → Driver → Log → Type 0
PeriodsFit d p bounds s [] = Unit {0}
PeriodsFit d p bounds s (e ∷ es) =
    PeriodFits d p bounds s e.1 × PeriodsFit d p bounds (driver_after d s e.1) es

-- ---- the law

-- one domain, at any time
pub record DomainLaw (d : Domain) (logs : List Log) : Type 0 where
  pub numbers : NumbersFit d logs
  pub sections : EachLog (λ p log. SectionsFit d 0 log) logs
  pub periods : EachLog (λ p log. PeriodsFit d p (last_words d logs) no_driver log) logs

pub record GraceLaw (logs : List Log) : Type 0 where
  pub plain : DomainLaw Plain logs
  pub tracing : DomainLaw Tracing logs

-- Where the journal is whole, each period that has begun has ended: the closing ends those in progress.
abbrev pub AllEnded : Domain → List Log → Type 0
AllEnded d logs = length (named (ended_number d) logs) ≡ length (named (begun_number d) logs)

pub record WholeGrace (logs : List Log) : Type 0 where
  pub law : GraceLaw logs
  pub plain_ended : AllEnded Plain logs
  pub tracing_ended : AllEnded Tracing logs
