-- Counts of faults: a device counts its failed calls, and the count stops at its last value. A failure is blamed on a
-- device only where its count rose. The rule is this project's own.
use Rattle.std.specs.Prelude.{◌≡◌, ◌⊎◌, ℕ, ◌+◌, ◌-◌, ◌^◌, ◌<◌, min}

-- the last value of a count
abbrev pub last_count : ℕ
last_count = 2 ^ 64 - 1

-- the count rose: it is greater than it was, or stands at its last value
abbrev pub Rose : ℕ → ℕ → Type 0
Rose before after = (before < after) ⊎ (after ≡ last_count)

-- the count after one more
abbrev pub next_count : ℕ → ℕ
next_count count = min (count + 1) last_count
