use Rattle.std.proofs.Common.{◌≡◌, ◌<◌, ℕ, IsSome, Some, slice_get}
use Rattle.bm_exec_levels.specs.declared.kept.Kept.{Kept}
use Rattle.bm_run.proofs.all_turns.some_failed.Given as goal

abbrev pub invariant-loop-own : goal.invariant-loop-own
invariant-loop-own l = (p : ℕ) (own : Kept) → p < l.own-index → slice_get l.kept p ≡ Some own → IsSome own.caches.recorder.told
