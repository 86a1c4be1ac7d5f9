use Rattle.std.proofs.Common.{◌≡◌, ℕ, ◌<◌, Some, slice_get}
use Rattle.bm_lang.specs.declared.scenario.Script.{Script}
use Rattle.bm_check.specs.Scripts.{Accepted}
use Rattle.bm_check.proofs.checker.check_scripts.Given as goal

abbrev pub invariant-loop-place : goal.invariant-loop-place
invariant-loop-place l = (k : ℕ) → k < l.place → (s : Script) → slice_get l.script-items k ≡ Some s → Accepted l.scenario s
