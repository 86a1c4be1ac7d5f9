-- What the law of grace periods says of one period.
use Rattle.std.specs.Prelude.{◌≡◌, ℕ, ◌+◌, ◌%◌, ◌<◌, length, slice_index}
use Rattle.bm_journal.specs.declared.period.Period.{Period}
use Rattle.bm_grace.specs.Answers.{IsPassed}

-- A period that was begun with an odd number: its own number is the next one, which is even, and each of its words was
-- even at first or is greater later. So no section that was open when it began is open when it ends.
pub record IsGracePeriod (begun : ℕ) (period : Period) : Type 0 where
  pub number : period.number ≡ begun + 1
  pub even : period.number % 2 ≡ 0
  pub words : length period.first ≡ length period.later
  pub passed :
      (i : ℕ) → i < length period.first
      → IsPassed (slice_index period.first i) (slice_index period.later i)
