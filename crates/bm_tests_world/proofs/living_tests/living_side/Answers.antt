use Rattle.std.proofs.Common.{ap, ◌∙◌}
use Rattle.bm_post.specs.PostState.{PostState}
use Rattle.bm_world.specs.SideState.{SideState}
use Rattle.bm_world.proofs.Lived.{new-lived}
use Rattle.bm_tests_world.proofs.living_tests.living_side.Goals as goal

pub create-requires-in-Ok-clause-lived : goal.create-requires-in-Ok-clause-lived
create-requires-in-Ok-clause-lived g c =
    let side = c.new-in-Ok.ensures in
    let post = c.in-Ok.ensures.ok in
    let units = ap (λ (s : SideState). s.post.pool.units) side ∙ (ap (λ (p : PostState). p.pool.units) post ∙ c.one_page.ensures.units) in
    let empty = ap (λ (s : SideState). s.post.inboxes) side ∙ ap (λ (p : PostState). p.inboxes) post in
    new-lived c.new-in-Ok.result.post 256 units empty
