use Rattle.bm_grace.proofs.Grown.{plain-moved, tracing-moved}
use Rattle.bm_grace.proofs.plain.PlainGrace.move_word.Goals as goal

pub invariant_of-self : goal.invariant_of-self
invariant_of-self c =
    let i = c.self.inside in
    plain-moved i.processors i.processor i.plain i.tracing c.move_word.new.self c.move_word.ensures.state c.self.invariant

pub invariant_of-self-in-Tracing : goal.invariant_of-self-in-Tracing
invariant_of-self-in-Tracing c =
    let i = c.self.inside in
    tracing-moved i.processors i.processor i.plain i.tracing c.move_word-in-Tracing.new.self c.move_word-in-Tracing.ensures.state c.self.invariant
