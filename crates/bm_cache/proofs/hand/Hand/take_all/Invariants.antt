use Rattle.std.proofs.Common.{◌≡◌, ◌≤◌, ◌+◌, length}
use Rattle.bm_law.specs.Places.{list_at}
use Rattle.bm_cache_lists.specs.Housed.{row_at}
use Rattle.bm_cache_lists.proofs.Loops.{Leaving}
use Rattle.bm_law.specs.declared.mark.Mark.TheVariants as mark
use Rattle.bm_cache.proofs.hand.Hand.take_all.Given as goal

abbrev pub invariant-loop-unit : goal.invariant-loop-unit
invariant-loop-unit l = record { leaving : Leaving l.row l.stack l.fn.self.hand l.self.hand l.fn.rows l.rows; quiet : l.self.mark ≡ mark.Quiet; room : length l.self.hand + length (list_at l.stack (row_at l.rows l.row)) ≤ 65536 }

abbrev pub decreases-loop-unit : goal.decreases-loop-unit
decreases-loop-unit l = length (list_at l.stack (row_at l.rows l.row))
