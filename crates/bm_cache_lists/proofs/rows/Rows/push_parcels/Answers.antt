use Rattle.std.specs.Prelude.{flat_map}
use Rattle.bm_cache_lists.proofs.Loops.{pushing-many, fresh-many}
use Rattle.bm_cache_lists.proofs.rows.Rows.push_parcels.Goals as goal

pub push_all-requires-clause-fresh : goal.push_all-requires-clause-fresh
push_all-requires-clause-fresh c = λ n i.
    let p = rw c.in-Some.ensures.items at c.loop-parcel.invariant in
    fresh-many n i c.in-Some.parcel.items (flat_map (λ q. q.items) c.pop_front.new.self.items) c.loop-parcel.self (p.fresh n i)

pub loop-parcel-preserved : goal.loop-parcel-preserved
loop-parcel-preserved c =
    let p = rw c.in-Some.ensures.items at c.loop-parcel.invariant in
    pushing-many c.args.row c.args.stack (flat_map (λ q. q.items) c.args.parcels.items) c.in-Some.parcel.items (flat_map (λ q. q.items) c.pop_front.new.self.items) c.args.self.now c.loop-parcel.self c.push_all.new.self c.requires.row p c.push_all.ensures
