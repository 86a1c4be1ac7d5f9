use Rattle.std.proofs.Common.{ap, subst, sym, ◌∙◌}
use Rattle.bm_post.specs.PostState.{PostState}
use Rattle.bm_world.specs.SideState.{SideState}
use Rattle.bm_run.specs.Filling.{IsUnborn}
use Rattle.bm_run.proofs.OpeningLemmas.{unlived}
use Rattle.bm_run.proofs.opening.open_side.Goals as goal

pub create-requires-in-Ok-clause-lived : goal.create-requires-in-Ok-clause-lived
create-requires-in-Ok-clause-lived c =
    let post = ap (λ (s : SideState). s.post) c.new-side.ensures ∙ c.in-Ok.ensures.ok in
    let units = ap (λ (p : PostState). p.pool.units) post in
    unlived c.new-side.result.post (subst IsUnborn (sym units) c.requires.unborn) (ap (λ (p : PostState). p.inboxes) post)
