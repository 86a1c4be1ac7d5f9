use Rattle.std.proofs.Common.{length}
use Rattle.bm_cache_lists.proofs.Loops.{Pushing}
use Rattle.bm_cache_lists.proofs.rows.Rows.push_all.Given as goal

abbrev pub invariant-loop-unit : goal.invariant-loop-unit
invariant-loop-unit l = Pushing l.row l.stack l.fn.units.items l.rest.items l.fn.self l.self

abbrev pub decreases-loop-unit : goal.decreases-loop-unit
decreases-loop-unit l = length l.rest.items
