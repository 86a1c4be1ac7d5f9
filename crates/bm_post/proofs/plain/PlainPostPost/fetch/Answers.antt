use Rattle.bm_post.proofs.Posts.{post-fetch, fetches, posts-of}
use Rattle.bm_post.proofs.plain.PlainPostPost.fetch.Goals as goal

pub invariant_of-self : goal.invariant_of-self
invariant_of-self c =
    let inside = c.self.inside in
    let said = c.fetch.ensures in
    post-fetch c.fetch.result c.args.class c.args.want inside.processors inside.processor inside.pool c.fetch.new.self inside.inboxes.items said.pool said.same_pool c.self.invariant

pub returns-clause-ok : goal.returns-clause-ok
returns-clause-ok c =
    let inside = c.self.inside in
    let said = c.fetch.ensures in
    rw (← c.self.view_is) (fetches c.fetch.result c.args.class c.args.want inside.processors inside.processor inside.pool c.fetch.new.self inside.inboxes.items c.args.out.now.items c.fetch.new.out.items said.count said.units said.pool said.most said.each said.out c.self.invariant)

pub returns-clause-known : goal.returns-clause-known
returns-clause-known c =
    let inside = c.self.inside in
    rw (← c.self.view_is) (posts-of inside.pool c.fetch.new.self inside.processors inside.processor inside.inboxes.items)
