use Rattle.std.proofs.Common.{◌≡◌, ◌∙◌, ap, sym, subst, None, Option}
use Rattle.bm_exec.specs.Lists.{behind_of}
use Rattle.bm_run.specs.Turns.{stands_in}
use Rattle.bm_run.specs.declared.turns.Begun.{Begun}
use Rattle.bm_run.specs.declared.turns.Remaining.{Remaining}
use Rattle.bm_run.proofs.GoingOn.{advanced-begun}
use Rattle.bm_run.proofs.turns.next_begun.Goals as goal

pub returns-in_ok-begin-in-Some-next_script-clause-advanced : goal.returns-in_ok-begin-in-Some-next_script-clause-advanced
returns-in_ok-begin-in-Some-next_script-clause-advanced c =
    let p = c.args.program.now in
    let s = p.scenario.now in
    let w = behind_of c.args.deferred.now.behind in
    let r : Remaining = c.args.remaining.now in
    let q : Remaining = c.next_script.new.remaining in
    let next = c.in-Some-next_script.ensures in
    let x = next.some in
    let none : r.begun ≡ None = sym c.take.ensures.value ∙ c.in_default.is in
    let outside = subst (λ (o : Option Begun). stands_in s w c.args.own.now o) none c.requires.can.stands in
    (advanced-begun s w c.in-Some-next_script.script.now p c.args.own.now c.begin.new.own c.in_ok-begin-in-Some-next_script.field-0 r q c.requires.works c.requires.sound c.in_ok-begin-in-Some-next_script.ensures.sound none (ap (λ (z : Remaining). z.processor) next.same)
    (c.in_ok-begin-in-Some-next_script.ensures.begun w outside.down) (record { line = x.line; found = x.found; next = x.next; cost = x.cost }) next.declared).0
