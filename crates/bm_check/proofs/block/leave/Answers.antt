use Rattle.std.proofs.Common.{sym, ◌∙◌, ap, refl}
use Rattle.bm_check.specs.Names.{Names}
use Rattle.bm_check.specs.Blocks.{at, Broken, Reaches}
use Rattle.bm_check.specs.Meetings.{outcome}
use Rattle.bm_check.specs.Changes.{names_in, at_states}
use Rattle.bm_check.proofs.ChangeLemmas.{leads_as, applied_there, after_met, after_broken}
use Rattle.bm_check.proofs.block.leave.Goals as goal

pub returns-in_ok-apply-in-Some-clause-judged : goal.returns-in_ok-apply-in-Some-clause-judged
returns-in_ok-apply-in-Some-clause-judged c = λ f g start forth.
    let n = names_in c.args.log.now in
    let met = rw c.in-Some.is at (c.in_ok-outcomes.ensures.ok f g start forth) in
    let names = applied_there n (names_in c.meet.new.self) (names_in c.apply.new.self) f (λ x. outcome c.args.end.meeting (g x) (n.state x)) c.in-Some.outcomes.items met.names met.leads c.in_ok-apply-in-Some.ensures.ok in
    after_met c.args.end.meeting c.args.end.line c.args.end.lock n g met.none ∙ ap (λ (k : Names). Reaches (at k c.args.end.lock)) (sym names)

pub returns-in_ok-apply-in-Some-clause-kept : goal.returns-in_ok-apply-in-Some-clause-kept
returns-in_ok-apply-in-Some-clause-kept c = λ f g h start forth outer.
    let n = names_in c.args.log.now in
    let met = rw c.in-Some.is at (c.in_ok-outcomes.ensures.ok f g start forth) in
    c.in_ok-apply-in-Some.ensures.kept h (leads_as c.args.outer.items c.args.outer.items (at_states n f) (names_in c.meet.new.self) h refl (sym met.names) outer)

pub returns-in-None-clause-judged : goal.returns-in-None-clause-judged
returns-in-None-clause-judged c = λ f g start forth.
    let n = names_in c.args.log.now in
    let broken = rw c.in-None.is at (c.in_ok-outcomes.ensures.ok f g start forth) in
    after_broken c.args.end.meeting c.args.end.line c.args.end.lock n g broken ∙ ap (Broken c.args.end.line) (sym c.rule.ensures)
