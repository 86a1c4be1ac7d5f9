use Rattle.bm_world.proofs.Cleared.{fetches-plain, kept-fetched}
use Rattle.bm_world.proofs.waiting.WaitingSidePost.fetch.Goals as goal

pub invariant_of-self : goal.invariant_of-self
invariant_of-self c =
    let i = c.self.inside in
    rw c.fetch.ensures.grace (kept-fetched c.fetch.result c.args.class c.args.want c.args.out.now.items c.fetch.new.out.items i.side.post c.fetch.new.self.post i.side.grace.plain.number i.side.grace.tracing.number i.waits.items c.self.invariant c.fetch.ensures.ok c.fetch.ensures.same)

pub returns-clause-ok : goal.returns-clause-ok
returns-clause-ok c =
    let i = c.self.inside in
    rw (← c.self.view_is, c.fetch.ensures.grace) (fetches-plain c.fetch.result c.args.class c.args.want c.args.out.now.items c.fetch.new.out.items i.side.post c.fetch.new.self.post i.side.grace.plain.number i.side.grace.tracing.number i.waits.items c.self.invariant c.fetch.ensures.ok)
