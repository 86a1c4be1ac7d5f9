use Rattle.bm_post.specs.Rights.{numbers}
use Rattle.bm_world.proofs.Cleared.{kept-cleared, lasting-cleared}
use Rattle.bm_world.proofs.waiting.WaitingSidePost.put_back.Goals as goal

pub invariant_of-self : goal.invariant_of-self
invariant_of-self c =
    let i = c.self.inside in
    rw (c.clear.ensures, c.put_back.ensures.grace) (kept-cleared i.side.post c.put_back.new.self.post i.side.grace.plain.number i.side.grace.tracing.number (numbers c.args.units.items) i.waits.items c.put_back.ensures.back.others c.self.invariant)

pub returns-clause-lasts : goal.returns-clause-lasts
returns-clause-lasts c =
    let i = c.self.inside in
    rw (← c.self.view_is, c.clear.ensures, c.put_back.ensures.grace) (lasting-cleared i.side.post c.put_back.new.self.post i.side.grace.plain.number i.side.grace.tracing.number (numbers c.args.units.items) i.waits.items)
