-- What each call answers. The rules are this project's own.
use Rattle.std.specs.Prelude.{◌≡◌, ◌≢◌, ◌⊎◌, ℕ, ◌+◌, ◌%◌, ◌<◌, ◌≤◌, Bool, List, length, slice_index}
use Rattle.bm_journal.specs.declared.ids.Domain.{Domain}
use Rattle.bm_journal.specs.declared.period.Period.{Period}
use Rattle.bm_grace.specs.declared.answer.Done.{Done}
use Rattle.bm_grace.specs.declared.answer.Done.TheVariants.{Passed, NotYet}
use Rattle.bm_grace.specs.declared.answer.Began.{Began}
use Rattle.bm_grace.specs.declared.answer.Began.TheVariants.{Won, Moved}
use Rattle.bm_grace.specs.declared.answer.Look.{Look}
use Rattle.bm_grace.specs.declared.answer.Look.TheVariants.{All, Waits}
pub use Rattle.bm_law_order.specs.Numbers.{next}
use Rattle.bm_grace.specs.Known.{Known, Side, side}
use Rattle.bm_grace.specs.Calls.{looks, processor_at, read}

-- a stamp was answered: there was a number, not below the one seen before, and the stamp is that number's
pub record Stamped (tells : Bool) (domain : Domain) (stamp : ℕ) (before after : Known) :
    Type 0 where
  pub number : ℕ
  pub seen : (side domain before).seen ≤ number
  pub stamp_is : stamp ≡ next number
  pub known : after ≡ read tells domain number before

-- the number that was read
abbrev pub number_in : Done → ℕ
number_in (Passed number) = number
number_in (NotYet number) = number

-- it is at least the stamp exactly where the answer says so
abbrev pub Answers : Done → ℕ → Type 0
Answers (Passed number) stamp = stamp ≤ number
Answers (NotYet number) stamp = number < stamp

-- the number that was found was the one that was named, exactly where the answer says so
abbrev pub BeganAt : Began → ℕ → Type 0
BeganAt Won even = Unit {0}
BeganAt (Moved number) even = number ≢ even

-- a word passes that was even when it was first looked at, or that is greater later
abbrev pub IsPassed : ℕ → ℕ → Type 0
IsPassed first later = (first % 2 ≡ 0) ⊎ (first < later)

-- the first n words of a period pass
abbrev pub ArePassed : ℕ → List ℕ → List ℕ → Type 0
ArePassed n first later = (i : ℕ) → i < n → IsPassed (slice_index first i) (slice_index later i)

-- the i-th word of a period is its first that doesn't pass
pub record Waiting (i : ℕ) (first later : List ℕ) : Type 0 where
  pub inside : i < length later
  pub before : ArePassed i first later
  pub here : ¬ IsPassed (slice_index first i) (slice_index later i)

-- an answer that names the word at a place of a period, by its processor
abbrev pub IsNamed : Look → Domain → ℕ → ℕ → Type 0
IsNamed All domain place word = ⊥
IsNamed (Waits processor seen) domain place word =
    (processor ≡ processor_at domain place) × (seen ≡ word)

-- the first word that doesn't pass, as an answer names it
pub record WaitsFor (processor word : ℕ) (domain : Domain) (first later : List ℕ) : Type 0 where
  pub place : ℕ
  pub waiting : Waiting place first later
  pub processor_is : processor ≡ processor_at domain place
  pub word_is : word ≡ slice_index later place

-- what a look answers, by the words as first and as now looked at
abbrev pub Verdict : Look → Domain → List ℕ → List ℕ → Type 0
Verdict All domain first later = ArePassed (length later) first later
Verdict (Waits processor word) domain first later = WaitsFor processor word domain first later

-- a period is in progress on this side, and all of its words were looked at and pass
pub record CanFinish (domain : Domain) (known : Known) : Type 0 where
  pub driving : (side domain known).number % 2 ≡ 1
  pub first : length (side domain known).first ≡ looks domain known.grace.processors
  pub later : length (side domain known).later ≡ looks domain known.grace.processors
  pub passed :
      ArePassed (looks domain known.grace.processors) (side domain known).first
      (side domain known).later

-- the period that was in progress on a side, once it has ended
abbrev pub ended : Domain → Side → Period
ended domain s = record { domain = domain; number = s.number + 1; first = s.first; later = s.later }
