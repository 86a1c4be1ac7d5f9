use Rattle.std.proofs.Common.{◌≡◌, min, take}
use Rattle.std.specs.Prelude.{sum_by, slice_get}
use Rattle.bm_lang.specs.Limits.{cost_on, script_cost}
use Rattle.bm_lang.proofs.costs.at_cost.Given as goal

abbrev pub invariant-loop-at : goal.invariant-loop-at
invariant-loop-at l = l.total ≡ min 20001 (sum_by (λ r. cost_on l.processor r.processor (script_cost (slice_get l.scripts r.script.0))) (take l.at-index l.ats))
