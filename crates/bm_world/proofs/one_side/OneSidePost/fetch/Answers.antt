use Rattle.std.proofs.Common.{refl}
use Rattle.bm_world.proofs.Did.{does-fetch}
use Rattle.bm_world.proofs.one_side.OneSidePost.fetch.Goals as goal

pub returns-clause-does : goal.returns-clause-does
returns-clause-does c =
    let i = c.self.inside in
    rw (← c.self.view_is) (does-fetch c.fetch.result c.args.class c.args.want c.args.out.now.items c.fetch.new.out.items (record { post = i.post; grace = i.grace }) (record { post = c.fetch.new.self; grace = i.grace }) c.fetch.ensures.units c.fetch.ensures.state refl)
