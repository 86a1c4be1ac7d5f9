use Rattle.bm_tests_world.proofs.pool_tests.fetch_more.Goals as goal

pub returns : goal.returns
returns g c =
    let units = rw c.expect.ensures at c.fetch.ensures.units in
    let out = rw c.expect.ensures at c.fetch.ensures.out in
    rw units (out c.args.held.now.items c.requires)
