use Rattle.std.proofs.Common.{◌≤◌, ◌+◌, ◌-◌, length, vec_capacity}
use Rattle.bm_cache_lists.specs.Chain.{IsLonger}
use Rattle.bm_cache_lists.proofs.links.reach.Given as goal

abbrev pub invariant-loop-next : goal.invariant-loop-next
invariant-loop-next l = record { short : length l.next.items ≤ 65536; room : 65536 ≤ vec_capacity l.next; longer : IsLonger 0 l.fn.next.items l.next.items }

abbrev pub decreases-loop-next : goal.decreases-loop-next
decreases-loop-next l = l.number + 1 - length l.next.items
