use Rattle.std.proofs.Common.{◌≡◌, ◌∙◌, ap, subst, sym, true}
use Rattle.bm_grace.specs.Answers.{next}
use Rattle.bm_post.specs.PostState.{is_mine}
use Rattle.bm_world.specs.SideState.{SideState}
use Rattle.bm_world.specs.WaitingState.{WaitingState}
use Rattle.bm_world.specs.declared.wait.Wait.{Wait}
use Rattle.bm_world.proofs.Cleared.{kept-waiting}
use Rattle.bm_world.proofs.waiting.WaitingSide.wait_for.Goals as goal

pub invariant_of-self : goal.invariant_of-self
invariant_of-self c =
    let i = c.self.inside in
    let wait : Wait = record { plain = c.stamp-plain.result; tracing = c.stamp-tracing.result } in
    let same : c.stamp-tracing.new.self ≡ i.side = c.stamp-tracing.ensures.state ∙ c.stamp-plain.ensures.state in
    let tracing : wait.tracing ≡ next i.side.grace.tracing.number = c.stamp-tracing.ensures.stamp ∙ ap (λ (s : SideState). next s.grace.tracing.number) c.stamp-plain.ensures.state in
    let mine : is_mine i.side.post c.args.number ≡ true = subst (λ (s : WaitingState). is_mine s.side.post c.args.number ≡ true) (sym c.self.view_is) c.requires.mine in
    rw same (kept-waiting i.side.post i.side.grace.plain.number i.side.grace.tracing.number c.args.number i.waits.items wait c.stamp-plain.ensures.stamp tracing mine c.self.invariant)
