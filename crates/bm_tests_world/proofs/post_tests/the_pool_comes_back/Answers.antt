use Rattle.std.proofs.Common.{◌≡◌, subst, sym, []}
use Rattle.std.specs.List.{All}
use Rattle.bm_post.specs.PostState.{PostState, Parcels}
use Rattle.bm_post.proofs.Posts.{all_empty}
use Rattle.bm_tests_world.proofs.post_tests.the_pool_comes_back.Goals as goal

pub finish-pool-requires : goal.finish-pool-requires
finish-pool-requires g c =
    subst (λ (s : PostState). All (λ (x : Parcels). x ≡ []) s.inboxes) (sym c.in-Ok.ensures.ok) (all_empty 88)
