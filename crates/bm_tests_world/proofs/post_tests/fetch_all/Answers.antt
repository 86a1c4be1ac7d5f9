use Rattle.std.proofs.Common.{◌≡◌, subst, sym, IfOk, ◌++◌, ap, ◌∙◌}
use Rattle.bm_post.specs.Rights.{Holds}
use Rattle.bm_post.specs.Calls.{Fetches}
use Rattle.bm_post.proofs.Posts.{held}
use Rattle.bm_tests_world.proofs.post_tests.fetch_all.Goals as goal

pub returns-clause-holds : goal.returns-clause-holds
returns-clause-holds g c =
    let before = g.P.Knows.rights c.args.post.now in
    let now = g.P.Knows.rights c.fetch.new.self in
    let got = subst (λ r. IfOk r (λ n. Fetches c.args.class c.args.want n c.new-units.result.items c.fetch.new.out.items before now)) c.expect-count.ensures c.fetch.ensures.ok in
    let all : c.fetch.new.out.items ≡ got.units = got.appended ∙ ap (λ xs. xs ++ got.units) c.new-units.ensures.items in
    subst (λ xs. Holds now xs) (sym all) (held c.args.class got.units before now got.takes)
