use Rattle.bm_post.proofs.Posts.{post-new}
use Rattle.bm_post.proofs.plain.PlainPost.create.Goals as goal

pub invariant_of-result : goal.invariant_of-result
invariant_of-result c =
    post-new c.args.processors c.args.pool c.fill_inboxes.new.inboxes.items c.requires.some c.requires.limit c.requires.roomy c.fill_inboxes.ensures
