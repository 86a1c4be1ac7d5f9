use Rattle.std.proofs.Common.{sym, subst}
use Rattle.std.specs.List.{All}
use Rattle.bm_post.specs.Rights.{Holds, MayLeave}
use Rattle.bm_post.specs.PostState.{PostState, rights_in}
use Rattle.bm_post.proofs.Posts.{post-back, back-loses, posts-of}
use Rattle.bm_post.proofs.plain.PlainPostPost.put_back.Goals as goal

pub invariant_of-self : goal.invariant_of-self
invariant_of-self c =
    let inside = c.self.inside in
    let holds = subst (λ (s : PostState). Holds (rights_in s) c.args.units.items) (sym c.self.view_is) c.requires.mine in
    post-back inside.processors inside.processor inside.pool c.put_all_back.new.pool inside.inboxes.items c.args.units.items c.put_all_back.ensures holds (subst (λ (s : PostState). All (MayLeave (rights_in s)) c.args.units.items) (sym c.self.view_is) c.requires.fit) c.self.invariant

pub returns-clause-back : goal.returns-clause-back
returns-clause-back c =
    let inside = c.self.inside in
    rw (← c.self.view_is) (back-loses inside.processors inside.processor inside.pool c.put_all_back.new.pool inside.inboxes.items c.args.units.items c.put_all_back.ensures)

pub returns-clause-known : goal.returns-clause-known
returns-clause-known c =
    let inside = c.self.inside in
    rw (← c.self.view_is) (posts-of inside.pool c.put_all_back.new.pool inside.processors inside.processor inside.inboxes.items)
