use Rattle.std.proofs.Common.{◌≡◌, [], vec_len}
use Rattle.std.specs.List.{All}
use Rattle.bm_post.specs.PostState.{Parcels}
use Rattle.bm_post.proofs.plain.PlainPost.finish.Given as goal

abbrev pub invariant-loop-inbox : goal.invariant-loop-inbox
invariant-loop-inbox l = All (λ (parcels : Parcels). parcels ≡ []) l.inboxes.items

abbrev pub decreases-loop-inbox : goal.decreases-loop-inbox
decreases-loop-inbox l = vec_len l.inboxes
