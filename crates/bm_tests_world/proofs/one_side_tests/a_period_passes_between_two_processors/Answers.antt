use Rattle.std.proofs.Common.{◌≡◌, subst, sym, IfOk, ◌++◌, ap, ◌∙◌}
use Rattle.bm_grace.specs.Rights.{Rights}
use Rattle.bm_post.specs.Rights.{Holds}
use Rattle.bm_post.specs.Calls.{Fetches}
use Rattle.bm_post.specs.PostState.{rights_in}
use Rattle.bm_post.proofs.Posts.{held}
use Rattle.bm_tests_world.proofs.one_side_tests.a_period_passes_between_two_processors.Goals as goal

pub put_back-requires-clause-mine : goal.put_back-requires-clause-mine
put_back-requires-clause-mine g c =
    let class = c.expect-class.result in
    let before : Rights = rights_in c.new-world.result.post in
    let now : Rights = rights_in c.fetch.new.self.post in
    let got = subst (λ r. IfOk r (λ n. Fetches class 3 n c.new-units.result.items c.fetch.new.out.items before now)) c.expect-count.ensures c.fetch.ensures.ok in
    let all : c.fetch.new.out.items ≡ got.units = got.appended ∙ ap (λ xs. xs ++ got.units) c.new-units.ensures.items in
    subst (λ xs. Holds now xs) (sym all) (held class got.units before now got.takes)
