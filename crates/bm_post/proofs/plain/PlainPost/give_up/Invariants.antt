use Rattle.std.proofs.Common.{vec_len}
use Rattle.bm_post.proofs.plain.PlainPost.give_up.Given as goal

abbrev pub decreases-loop-inbox : goal.decreases-loop-inbox
decreases-loop-inbox l = vec_len l.inboxes
