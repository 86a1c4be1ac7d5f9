use Rattle.std.proofs.Common.{◌≤◌, ◌≡◌, ◌+◌, ◌*◌, ap, rules, sym, subst, arith}
use Rattle.std.specs.Prelude.{◌-◌, length}
use Rattle.bm_cache.specs.Span.{Face}
use Rattle.bm_plan.specs.Position.{StandsAt}
use Rattle.bm_exec_levels.specs.AtProcessor.{IsAt}
use Rattle.bm_exec_levels.specs.Ordinary.{Statements}
use Rattle.bm_exec_levels.specs.Ready.{asked_of, left_of}
use Rattle.bm_exec_levels.specs.Sound.{Sound}
use Rattle.bm_exec_levels.specs.declared.processor.Processor.{Processor}
use Rattle.bm_exec_levels.specs.declared.program.Program.{Program}
use Rattle.bm_exec_levels.proofs.Grounds.{begun-few, both-ok, on-ok, sound-worked, statements-worked}
use Rattle.bm_exec_levels.proofs.ground.settle_script.Goals as goal

pub returns-clause-statements : goal.returns-clause-statements
returns-clause-statements g c =
    let m : Processor g.row.W.Denot = c.args.own.now in
    let k : Processor g.row.W.Denot = c.work_behind-settled.new.host.own.now in
    on-ok c.work_behind-settled.result _ _ c.work_behind-settled.ensures.works (λ w.
    let through = ap (λ (f : Face). f.through) w.goes.face in
    let lent : c.own-2-1.given.0 ≡ k = search (rules, through) in
    subst (Statements g.W.Knows m) (sym lent) (statements-worked g.W.Knows c.args.program.now m k w.goes.keeps.0 w.goes.pending record {
      processors = w.goes.keeps.0.processors;
      processor = w.goes.keeps.0.processor;
    }))

pub returns-clause-sound : goal.returns-clause-sound
returns-clause-sound g c =
    let p = c.args.program.now in
    let m : Processor g.row.W.Denot = c.args.own.now in
    let k : Processor g.row.W.Denot = c.work_behind-settled.new.host.own.now in
    let r = c.work_behind-settled.result in
    let e = c.work_behind-settled.ensures in
    let classes = length c.args.classes.now in
    let n = classes + (classes + 1) * (length (left_of m) - length (left_of k) + 1) in
    on-ok r _ _ (both-ok r _ _ e.works e.at_rest) (λ f.
    let w = f.0 in
    let t = f.1 in
    let through = ap (λ (f : Face). f.through) w.goes.face in
    let lent : c.own-2-1.given.0 ≡ k = search (rules, through) in
    let few = c.requires.few in
    let fewer = w.goes.pending in
    let most = begun-few classes (length (left_of m) - length (left_of k) + 1) few in
    let at : IsAt g.W.Knows StandsAt 0 p k = subst (λ (q : Program). IsAt g.W.Knows StandsAt 0 q k) w.goes.keeps.2 t.stands.sound.0 in
    subst (Sound g.W.Knows p) (sym lent) (sound-worked g.W.Knows p m k n (omega (arith, few, fewer, most)) w.goes.keeps.0.settled
    at t.stands.fine t.quiet t.stands.dated t.stamped w.plain_begins w.tracing_begins c.requires.sound))

pub returns-clause-asked : goal.returns-clause-asked
returns-clause-asked g c =
    let m : Processor g.row.W.Denot = c.args.own.now in
    let s = c.args.program.now.scenario.now in
    let k : Processor g.row.W.Denot = c.work_behind-settled.new.host.own.now in
    on-ok c.work_behind-settled.result _ _ c.work_behind-settled.ensures.works (λ w.
    let through = ap (λ (f : Face). f.through) w.goes.face in
    let lent : c.own-2-1.given.0 ≡ k = search (rules, through) in
    let most = w.goes.keeps.0.asks_most in
    let F : Processor g.row.W.Denot → Type 0 = λ x. asked_of g.W.Knows s x ≤ asked_of g.W.Knows s m + 1 in
    subst F (sym lent) (omega (arith, most)))

pub returns-clause-locked : goal.returns-clause-locked
returns-clause-locked g c =
    let m : Processor g.row.W.Denot = c.args.own.now in
    let k : Processor g.row.W.Denot = c.work_behind-settled.new.host.own.now in
    on-ok c.work_behind-settled.result _ _ c.work_behind-settled.ensures.works (λ w.
    let through = ap (λ (f : Face). f.through) w.goes.face in
    let lent : c.own-2-1.given.0 ≡ k = search (rules, through) in
    let F : Processor g.row.W.Denot → Type 0 = λ x. x.locked ≡ m.locked in
    subst F (sym lent) w.goes.keeps.0.locked)
