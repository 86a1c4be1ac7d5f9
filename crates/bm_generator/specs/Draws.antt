-- The numbers that a scenario is made with: a linear congruential generator with the multiplier and the increment of Knuth's
-- MMIX. Which bits of a state are used is this project's own.
use Rattle.std.specs.Prelude.{ℕ, ◌+◌, ◌*◌, ◌/◌, ◌%◌, ◌^◌}

-- the state behind a state
unfoldable pub next : ℕ → ℕ
next x = (x * 6364136223846793005 + 1442695040888963407) % 2 ^ 64

-- the number below k that is drawn once the state is x
unfoldable pub drawn : ℕ → ℕ → ℕ
drawn k x = (x / 2 ^ 33) % k
