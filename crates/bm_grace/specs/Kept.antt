-- What the words and numbers of all processors keep true.
use Rattle.std.specs.Prelude.{◌≡◌, ◌⊎◌, ℕ, ◌+◌, ◌*◌, ◌%◌, ◌^◌, ◌<◌, ◌≤◌, Option, None, Some, IfSome, List, [], ◌∷◌, length, sum, take, All}
use Rattle.bm_grace.specs.PlainState.{DomainState, in_turn}

-- the number is odd where a period is in progress
abbrev pub parity : Option ℕ → ℕ
parity None = 0
parity (Some processor) = 1

-- One domain: no section word is beyond the last one that may be left, and the number leaves room for all periods that
-- may still begin.
pub record IsDomain (words begins : List ℕ) (number : ℕ) (driver : Option ℕ) : Type 0 where
  pub word_count : length words ≡ 8
  pub begin_count : length begins ≡ 8
  pub word_limit : All (λ word. word ≤ 2 ^ 28) words
  pub parity_is : number % 2 ≡ parity driver
  pub number_limit : number + number % 2 + 2 * sum begins ≤ 2 ^ 31

-- Each of some words is at most the word at its place among others. Section words only grow, so that holds of the words
-- that a period first looked at, and of those that stand there now.
abbrev pub AreAtMost : List ℕ → List ℕ → Type 0
AreAtMost [] words = Unit {0}
AreAtMost (first ∷ firsts) [] = ⊥
AreAtMost (first ∷ firsts) (word ∷ words) = (first ≤ word) × AreAtMost firsts words

-- Both domains: there are 1 to 8 processors, a period in progress is that of one of them, and a period that was looked at has
-- as many words as it looks at, each of them at most the word that stands there now.
pub record IsPlain (processors processor : ℕ) (plain tracing : DomainState) : Type 0 where
  pub processor_limit : processors ≤ 8
  pub turn : processor < processors
  pub plain_driver : IfSome plain.driver (λ p. p < processors)
  pub tracing_driver : IfSome tracing.driver (λ p. p < processors)
  pub plain_words : (plain.first ≡ []) ⊎ (length plain.first ≡ processors)
  pub tracing_words : (tracing.first ≡ []) ⊎ (length tracing.first ≡ 2 * processors)
  pub plain_grown : AreAtMost plain.first (take processors plain.words)
  pub tracing_grown :
      AreAtMost tracing.first
      (in_turn (take processors plain.words) (take processors tracing.words))
