-- The watermarks of a cache of units of one size, and how many units one refill brings.
-- (init_refill_work in kernel/bpf/memalloc.c. All divisions drop the rest.)
use Rattle.std.specs.Prelude.{ℕ, ◌+◌, ◌-◌, ◌*◌, ◌/◌, nat_le, if◌then◌else◌, max}
use Rattle.bm_class.specs.declared.watermarks.Marks.{Marks}

-- Below this many free units the cache is refilled.
unfoldable pub low_of_size : ℕ → ℕ
low_of_size size = if nat_le size 256 then 32 else max (32 * 256 / size) 1

-- Above this many free units the cache is drained.
unfoldable pub high_of_size : ℕ → ℕ
high_of_size size = if nat_le size 256 then 96 else max (96 * 256 / size) 3

-- How many units one refill brings: three fourths of the way from the low mark to the high one.
unfoldable pub batch_of_size : ℕ → ℕ
batch_of_size size = max ((high_of_size size - low_of_size size) / 4 * 3) 1

-- The three of a size.
abbrev pub marks_of_size : ℕ → Marks
marks_of_size size = record {
  low = low_of_size size;
  high = high_of_size size;
  batch = batch_of_size size;
}

-- The middle between the marks, at which a drain ends.
abbrev pub middle_of : Marks → ℕ
middle_of marks = (marks.high + marks.low) / 2
