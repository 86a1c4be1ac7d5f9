use Rattle.std.proofs.Common.{◌≡◌, ◌*◌, replicate, subst, IfOk}
use Rattle.bm_page.specs.Stock.{Stock, unborn}
use Rattle.bm_post.proofs.Room.{new-roomy}
use Rattle.bm_tests_machine.proofs.openings.pool_of.Goals as goal

pub returns : goal.returns
returns g c =
    let units = subst (λ r. IfOk r (λ (pool : Stock). pool.units ≡ replicate (256 * c.args.pages) unborn)) c.expect.ensures c.create.ensures.units in
    record { roomy = new-roomy c.expect.result c.args.pages c.requires.pages units }
