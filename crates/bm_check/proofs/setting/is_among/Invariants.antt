use Rattle.std.proofs.Common.{◌≡◌, ℕ, ◌<◌, [], get_or, false}
use Rattle.std.specs.Str.{bytes_eq}
use Rattle.bm_check.proofs.setting.is_among.Given as goal

abbrev pub invariant-loop-other : goal.invariant-loop-other
invariant-loop-other l = (k : ℕ) → k < l.other-index → bytes_eq l.name (get_or l.names k []) ≡ false
