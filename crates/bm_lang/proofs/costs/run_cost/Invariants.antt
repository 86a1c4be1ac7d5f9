use Rattle.std.proofs.Common.{◌≡◌, min, take}
use Rattle.std.specs.Prelude.{sum_by, slice_get}
use Rattle.bm_lang.specs.Limits.{cost_on, script_cost}
use Rattle.bm_lang.proofs.costs.run_cost.Given as goal

abbrev pub invariant-loop-run : goal.invariant-loop-run
invariant-loop-run l = l.total ≡ min 20001 (sum_by (λ r. cost_on l.processor r.processor (script_cost (slice_get l.scripts r.script.0))) (take l.run-index l.runs))
