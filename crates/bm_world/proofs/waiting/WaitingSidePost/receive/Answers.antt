use Rattle.bm_world.proofs.Cleared.{kept-received, receives-plain}
use Rattle.bm_world.proofs.waiting.WaitingSidePost.receive.Goals as goal

pub invariant_of-self : goal.invariant_of-self
invariant_of-self c =
    let i = c.self.inside in
    rw c.receive.ensures.grace (kept-received c.receive.result (λ v. v.items) c.args.class i.side.post c.receive.new.self.post i.side.grace.plain.number i.side.grace.tracing.number i.waits.items c.self.invariant c.receive.ensures.some c.receive.ensures.none)

pub returns-clause-some : goal.returns-clause-some
returns-clause-some c =
    let i = c.self.inside in
    rw (← c.self.view_is, c.receive.ensures.grace) (receives-plain c.receive.result (λ v. v.items) c.args.class i.side.post c.receive.new.self.post i.side.grace.plain.number i.side.grace.tracing.number i.waits.items c.self.invariant c.receive.ensures.some)
