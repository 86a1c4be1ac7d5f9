use Rattle.std.proofs.Common.{◌≡◌, ◌∙◌, ◌%◌, ap, arith, refl, rules, subst, sym}
use Rattle.std.specs.Option.{option_map}
use Rattle.bm_lang.specs.declared.scenario.MapId.{MapId}
use Rattle.bm_world.specs.LivingState.{LivingState}
use Rattle.bm_exec.specs.Lists.{behind_of}
use Rattle.bm_exec_levels.specs.AtTie.{TiedAt}
use Rattle.bm_exec_levels.specs.Ordinary.{Scripted}
use Rattle.bm_exec_levels.specs.Sound.{Sound}
use Rattle.bm_exec_levels.proofs.Phrases.{program-declared}
use Rattle.bm_law_scenario.specs.Declared.{declared_in}
use Rattle.bm_exec_levels.specs.declared.processor.Processor.{Processor}
use Rattle.bm_law_scenario.specs.Grammar.{starts_inside}
use Rattle.bm_world.specs.ToldLiving.{knows_living}
use Rattle.bm_run.specs.Turns.{HasRun, WentOn, domain_of, outermost}
use Rattle.bm_run.specs.declared.turns.Begun.{Begun}
use Rattle.bm_run.proofs.Beginning.{inside-of}
use Rattle.bm_run.proofs.Stopping.{both-went, finishes-on, finishes-ran, if-went, none-locked, section-kept}
use Rattle.bm_run.proofs.turns.go_on.Goals as goal

pub resume-stopped-requires-clause-can : goal.resume-stopped-requires-clause-can
resume-stopped-requires-clause-can g c = rw (c.is_plain-within.ensures, program-declared c.args.program.now.types c.args.program.now.scenario.now c.requires.sound.at.ready.fits.types c.requires.sound.at.ready.fits.maps) c.requires.stands.can

pub resume-stopped-requires-clause-unlocked : goal.resume-stopped-requires-clause-unlocked
resume-stopped-requires-clause-unlocked g c = λ _. ap (option_map (λ (x : MapId). x.0)) c.requires.stands.unlocked

pub returns-clause-yielded : goal.returns-clause-yielded
returns-clause-yielded g c = λ y.
    let s = c.args.program.now.scenario.now in
    let w = behind_of c.args.deferred.now.behind in
    let b : Begun = c.args.begun in
    let b' : Begun = record { script = b.script; activation = record { frame = c.resume-stopped.new.frame; names = c.resume-stopped.new.names } } in
    let stands = c.requires.stands in
    let m : Processor LivingState = c.args.own.now in
    let k : Processor LivingState = c.resume-stopped.new.machine.own.now in
    let through = c.resume-stopped.ensures.through in
    let lent : c.own-1.given.0 ≡ k = search (rules, through) in
    let e = rw (c.is_plain-within.ensures, program-declared c.args.program.now.types c.args.program.now.scenario.now c.requires.sound.at.ready.fits.types c.requires.sound.at.ready.fits.maps, c.requires.sound.at.ready.fits.types) at c.resume-stopped.ensures in
    let keeps = rw y at e.keeps in
    let went = rw (keeps.2, keeps.1) at (e.yielded y) in
    let behind = rw y at e.behind in
    let can = rw (keeps.2, behind) at (e.can y) in
    let sound = rw (keeps.2, keeps.1) at (rw y at e.sound) in
    let tracing = keeps.0.tracing in
    let word = section-kept (domain_of b) _ m k refl keeps.0 in
    let on : WentOn s w m k b b' = record {
      same = refl;
      grew = finishes-on (declared_in s) _ _ _ _ _ _ _ _ _ _ _ went.grew;
      stands = record {
        found = stands.found;
        can = can;
        sections = went.sections (outermost b) stands.sections;
        within = sound.3;
        inside = ap (λ n. n % 2) word ∙ stands.inside;
        apart = λ q. ap (λ n. n % 2) tracing ∙ stands.apart q;
        unlocked = none-locked k.locked ((rw y at e.unlocked) refl);
      };
      owns = went.holds;
      used = (let a = went.cost in omega (arith, a, tracing));
      less = e.less y;
    } in
    subst (λ x. WentOn s w m x b b') (sym lent) on

pub returns-clause-ended : goal.returns-clause-ended
returns-clause-ended g c = λ y.
    let s = c.args.program.now.scenario.now in
    let w = behind_of c.args.deferred.now.behind in
    let b : Begun = c.args.begun in
    let stands = c.requires.stands in
    let m : Processor LivingState = c.args.own.now in
    let k : Processor LivingState = c.resume-stopped.new.machine.own.now in
    let through = c.resume-stopped.ensures.through in
    let lent : c.own-1.given.0 ≡ k = search (rules, through) in
    let e = rw (c.is_plain-within.ensures, program-declared c.args.program.now.types c.args.program.now.scenario.now c.requires.sound.at.ready.fits.types c.requires.sound.at.ready.fits.maps, c.requires.sound.at.ready.fits.types) at c.resume-stopped.ensures in
    let keeps = rw y at e.keeps in
    let sound = rw (keeps.2, keeps.1) at (rw y at e.sound) in
    let around = rw keeps.2 at (e.around y) in
    let asked = rw keeps.1 at (e.asked y) in
    let tracing = keeps.0.tracing in
    let run : HasRun s w m k b = record {
      grew = finishes-ran (declared_in s) _ _ _ _ _ _ _ _ (e.ended y);
      down = rw y at e.down;
      inside = inside-of _ k sound.3 (around (outermost b) stands.sections);
      unlocked = none-locked k.locked ((rw y at e.unlocked) refl);
      owns = e.lives y;
      used = omega (arith, asked, tracing);
    } in
    subst (λ x. HasRun s w m x b) (sym lent) run

pub returns-clause-scripted : goal.returns-clause-scripted
returns-clause-scripted g c =
    let k : Processor LivingState = c.resume-stopped.new.machine.own.now in
    let through = c.resume-stopped.ensures.through in
    let lent : c.own-1.given.0 ≡ k = search (rules, through) in
    let e = rw c.is_plain-within.ensures at c.resume-stopped.ensures in
    if-went c.resume-stopped.result _ _ e.keeps (λ h. subst (Scripted knows_living (starts_inside c.args.begun.script.now) c.args.own.now) (sym lent) h.0)

pub returns-clause-sound : goal.returns-clause-sound
returns-clause-sound g c =
    let k : Processor LivingState = c.resume-stopped.new.machine.own.now in
    let through = c.resume-stopped.ensures.through in
    let lent : c.own-1.given.0 ≡ k = search (rules, through) in
    both-went c.resume-stopped.result _ _ _ c.resume-stopped.ensures.sound c.resume-stopped.ensures.keeps (λ h keeps. subst (Sound knows_living c.args.program.now) (sym lent) (rw keeps.1 at h.0))

pub returns-clause-tied : goal.returns-clause-tied
returns-clause-tied g c =
    let k : Processor LivingState = c.resume-stopped.new.machine.own.now in
    let through = c.resume-stopped.ensures.through in
    let lent : c.own-1.given.0 ≡ k = search (rules, through) in
    if-went c.resume-stopped.result _ _ c.resume-stopped.ensures.sound (λ h. subst (TiedAt knows_living g.B.Since.since g.B.Since.start) (sym lent) h.2)
