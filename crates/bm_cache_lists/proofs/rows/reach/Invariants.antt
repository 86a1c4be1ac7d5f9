use Rattle.std.proofs.Common.{◌≤◌, ◌+◌, ◌-◌, None, length, vec_capacity}
use Rattle.bm_cache_lists.specs.Chain.{IsLonger}
use Rattle.bm_cache_lists.proofs.rows.reach.Given as goal

abbrev pub invariant-loop-places : goal.invariant-loop-places
invariant-loop-places l = record { short : length l.places.items ≤ 65536; room : 65536 ≤ vec_capacity l.places; longer : IsLonger None l.fn.places.items l.places.items }

abbrev pub decreases-loop-places : goal.decreases-loop-places
decreases-loop-places l = l.number + 1 - length l.places.items
