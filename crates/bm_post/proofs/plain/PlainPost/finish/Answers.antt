use Rattle.std.proofs.Common.{◌≡◌, [], subst, sym}
use Rattle.std.specs.List.{All}
use Rattle.bm_post.specs.PostState.{PostState, Parcels}
use Rattle.bm_post.proofs.Posts.{empty-front}
use Rattle.bm_post.proofs.plain.PlainPost.finish.Goals as goal

pub loop-inbox-init : goal.loop-inbox-init
loop-inbox-init c =
    subst (λ (s : PostState). All (λ (x : Parcels). x ≡ []) s.inboxes) (sym c.self.view_is) c.requires

pub loop-inbox-preserved : goal.loop-inbox-preserved
loop-inbox-preserved c =
    (empty-front c.loop-inbox.inboxes.items c.pop.new.self.items c.in-Some.inbox c.in-Some.ensures.items c.loop-inbox.invariant).0
