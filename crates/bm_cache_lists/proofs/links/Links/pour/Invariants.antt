use Rattle.std.proofs.Common.{[], length, get_or}
use Rattle.bm_cache_lists.proofs.Turned.{Turned}
use Rattle.bm_cache_lists.proofs.links.Links.pour.Given as goal

abbrev pub invariant-loop-number : goal.invariant-loop-number
invariant-loop-number l = Turned l.from l.to l.fn.self l.self

abbrev pub decreases-loop-number : goal.decreases-loop-number
decreases-loop-number l = length (get_or l.self l.from [])
