use Rattle.std.proofs.Common.{length, reverse}
use Rattle.bm_cache_lists.proofs.Loops.{Pushing}
use Rattle.bm_cache_lists.proofs.rows.Rows.put_on.Given as goal

abbrev pub invariant-loop-unit : goal.invariant-loop-unit
invariant-loop-unit l = Pushing l.row l.stack (reverse l.fn.units.items) (reverse l.rest.items) l.fn.self l.self

abbrev pub decreases-loop-unit : goal.decreases-loop-unit
decreases-loop-unit l = length l.rest.items
