use Rattle.std.proofs.Common.{arith}
use Rattle.bm_exec.specs.Lists.{behind_of}
use Rattle.bm_run.proofs.Beginning.{has-ended}
use Rattle.bm_run.proofs.GoingOn.{script-unyielding, stand-unyielding}
use Rattle.bm_run.proofs.Results.{and-ok, both-on-ok, on-ok}
use Rattle.bm_run.proofs.Sections.{asks-left, few-words}
use Rattle.bm_exec.proofs.Yields.{unyielding-join}
use Rattle.bm_run.proofs.turns.finish.Goals as goal

pub end_script-requires-clause-room : goal.end_script-requires-clause-room
end_script-requires-clause-room g c =
    let r = c.requires.room in
    few-words c.args.program.now.scenario.now c.args.own.now (omega (arith, r))

pub settle_behind-requires-clause-room : goal.settle_behind-requires-clause-room
settle_behind-requires-clause-room g c =
    let s = c.args.program.now.scenario.now in
    let e = rw c.section_of.ensures at c.end_script.ensures in
    let r = c.requires.room in
    let a = asks-left _ s c.args.own.now c.end_script.new.own e.known e.same e.inside c.requires.outer in
    omega (arith, r, a)

pub returns-clause-ended : goal.returns-clause-ended
returns-clause-ended g c =
    let p = c.args.program.now in
    let m = c.args.own.now in
    let m1 = c.end_script.new.own in
    let e = rw c.section_of.ensures at c.end_script.ensures in
    let x = c.settle_behind.ensures in
    let r = c.settle_behind.result in
    let all = and-ok r _ _ (and-ok r _ _ x.wrote x.down) (and-ok r _ _ (and-ok r _ _ x.lives x.asked) x.locked) in
    both-on-ok r _ _ _ all x.statements (λ u st.
    has-ended p m m1 c.settle_behind.new.own c.args.script.now (behind_of c.args.deferred.now.behind) c.requires.sound (c.end_script.ensures.sound p c.requires.sound) c.requires.inside c.requires.outer c.requires.apart c.requires.unlocked e.known e.inside e.same e.wrote u.0.0 u.0.1 u.1.0.0 u.1.0.1 st u.1.1)

pub returns-clause-yields : goal.returns-clause-yields
returns-clause-yields g c =
    on-ok c.settle_behind.result _ _ c.settle_behind.ensures.wrote (λ w. unyielding-join 0 _ _ _ (stand-unyielding _ _ _ _ (tt, (tt, tt)) c.end_script.ensures.wrote.grew) (script-unyielding (behind_of c.args.deferred.now.behind) _ _ _ w.grew))
