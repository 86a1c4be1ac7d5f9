use Rattle.std.proofs.Common.{◌≤◌, ◌+◌, length, vec_capacity}
use Rattle.bm_law.specs.Places.{list_at}
use Rattle.bm_cache_lists.specs.Housed.{row_at}
use Rattle.bm_cache_lists.proofs.Loops.{Leaving}
use Rattle.bm_cache_lists.proofs.rows.Rows.move_out.Given as goal

abbrev pub invariant-loop-unit : goal.invariant-loop-unit
invariant-loop-unit l = record { leaving : Leaving l.row l.stack l.fn.out.items l.out.items l.fn.self l.self; room : length l.out.items + length (list_at l.stack (row_at l.self l.row)) ≤ vec_capacity l.out }

abbrev pub decreases-loop-unit : goal.decreases-loop-unit
decreases-loop-unit l = length (list_at l.stack (row_at l.self l.row))
