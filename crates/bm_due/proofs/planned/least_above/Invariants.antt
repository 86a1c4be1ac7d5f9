use Rattle.std.proofs.Common.{◌≡◌, take}
use Rattle.bm_due.specs.Plan.{least_above}
use Rattle.bm_due.proofs.planned.least_above.Given as goal

abbrev pub invariant-loop-line : goal.invariant-loop-line
invariant-loop-line l = l.least ≡ least_above l.level (take l.line-index l.lines)
