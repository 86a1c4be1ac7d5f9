use Rattle.bm_post.specs.Rights.{numbers}
use Rattle.bm_world.proofs.Cleared.{kept-sent, lasting-cleared, leave-cleared}
use Rattle.bm_world.proofs.waiting.WaitingSidePost.send.Goals as goal

pub invariant_of-self : goal.invariant_of-self
invariant_of-self c =
    let i = c.self.inside in
    rw (c.clear.ensures, c.send.ensures.grace) (kept-sent c.send.result c.args.units.items i.side.post c.send.new.self.post i.side.grace.plain.number i.side.grace.tracing.number i.waits.items c.self.invariant c.send.ensures.sent c.send.ensures.same)

pub returns-clause-lasts : goal.returns-clause-lasts
returns-clause-lasts c =
    let i = c.self.inside in
    rw (← c.self.view_is, c.clear.ensures, c.send.ensures.grace) (lasting-cleared i.side.post c.send.new.self.post i.side.grace.plain.number i.side.grace.tracing.number (numbers c.args.units.items) i.waits.items)

pub returns-clause-may : goal.returns-clause-may
returns-clause-may c =
    let i = c.self.inside in
    let side = c.send.new.self in
    rw c.clear.ensures (leave-cleared c.send.result c.args.units.items side.post side.post side.grace.plain.number side.grace.tracing.number i.waits.items c.send.ensures.may)
