use Rattle.std.proofs.Common.{subst, IfSome}
use Rattle.bm_post.specs.Calls.{Receives}
use Rattle.bm_post.proofs.Posts.{held}
use Rattle.bm_tests_world.proofs.waiting_tests.receive_one.Goals as goal

pub returns-clause-holds : goal.returns-clause-holds
returns-clause-holds g c =
    let before = g.W.Knows.rights c.args.world.now in
    let now = g.W.Knows.rights c.receive.new.self in
    let got = subst (λ r. IfSome r (λ units. Receives c.args.class units.items before now)) c.expect.ensures c.receive.ensures.some in
    held c.args.class c.expect.result.items before now got.takes
