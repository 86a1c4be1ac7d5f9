use Rattle.std.specs.VecDeque.{deque_len}
use Rattle.bm_cache_lists.proofs.rows.Rows.push_parcels.Given as goal
use Rattle.std.specs.Prelude.{flat_map}
use Rattle.bm_cache_lists.proofs.Loops.{Pushing}

abbrev pub invariant-loop-parcel : goal.invariant-loop-parcel
invariant-loop-parcel l = Pushing l.row l.stack (flat_map (λ p. p.items) l.fn.parcels.items) (flat_map (λ p. p.items) l.rest.items) l.fn.self l.self

abbrev pub decreases-loop-parcel : goal.decreases-loop-parcel
decreases-loop-parcel l = deque_len l.rest
