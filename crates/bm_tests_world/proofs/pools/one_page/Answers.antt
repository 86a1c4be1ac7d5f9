use Rattle.std.proofs.Common.{◌≡◌, replicate, arith, subst, IfOk}
use Rattle.bm_page.specs.Stock.{Stock, unborn}
use Rattle.bm_post.proofs.Room.{new-roomy}
use Rattle.bm_tests_world.proofs.pools.one_page.Goals as goal

pub returns-clause-roomy : goal.returns-clause-roomy
returns-clause-roomy g c =
    let units = subst (λ r. IfOk r (λ (pool : Stock). pool.units ≡ replicate 256 unborn)) c.expect.ensures c.create.ensures.units in
    new-roomy c.expect.result 1 (omega arith) units
