use Rattle.std.proofs.Common.{◌≡◌, min, take}
use Rattle.std.specs.Prelude.{sum_by}
use Rattle.bm_lang.specs.Limits.{action_cost}
use Rattle.bm_lang.proofs.costs.+costs.Given as goal

abbrev pub invariant-block_cost-loop-statement : goal.invariant-block_cost-loop-statement
invariant-block_cost-loop-statement l = l.total ≡ min 20001 (sum_by (λ s. action_cost s.action) (take l.statement-index l.statement-items))
