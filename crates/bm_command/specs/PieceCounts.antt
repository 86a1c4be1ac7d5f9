-- How many pieces a script of a generated scenario may have. The bounds are this project's own.
use Rattle.std.specs.Prelude.{◌&&◌, ℕ, nat_le, Option, Some, None, if◌then◌else◌}

-- 1 to 2,000
abbrev pub piece_count : ℕ → Option ℕ
piece_count n = if nat_le 1 n && nat_le n 2000 then Some n else None
