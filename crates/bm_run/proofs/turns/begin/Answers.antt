use Rattle.std.proofs.Common.{◌+◌, ◌<◌, ◌^◌, arith, sym}
use Rattle.bm_journal.specs.declared.ids.Domain.{Domain}
use Rattle.bm_journal.specs.declared.ids.Domain.TheVariants.{Plain, Tracing}
use Rattle.bm_world.specs.LivingState.{LivingState}
use Rattle.bm_world.specs.ToldLiving.{knows_living}
use Rattle.bm_exec_levels.specs.Ready.{word_of}
use Rattle.bm_exec_levels.specs.declared.processor.Processor.{Processor}
use Rattle.bm_exec_levels.proofs.Phrases.{program-declared}
use Rattle.bm_run.proofs.Beginning.{has-begun}
use Rattle.bm_run.proofs.GoingOn.{stand-unyielding}
use Rattle.bm_run.proofs.Sections.{even-out, few-words}
use Rattle.bm_run.proofs.turns.begin.Goals as goal

pub begin_script-requires-clause-outside : goal.begin_script-requires-clause-outside
begin_script-requires-clause-outside c = c.requires.outside c.section_of-domain.result

pub begin_script-requires-clause-few : goal.begin_script-requires-clause-few
begin_script-requires-clause-few c = few-word c.section_of-domain.result
  where
    few-word : (d : Domain) → word_of knows_living d c.args.own.now + 1 < 2 ^ 28
    few-word Plain = let r = c.requires.room in omega (arith, r)
    few-word Tracing = let r = c.requires.room in omega (arith, r)

pub begin_script-requires-clause-room : goal.begin_script-requires-clause-room
begin_script-requires-clause-room c =
    let r = c.requires.room in
    few-words c.args.program.now.scenario.now c.args.own.now (omega (arith, r))

pub begin-requires-clause-fits : goal.begin-requires-clause-fits
begin-requires-clause-fits c = c.requires.sound.at.ready.fits.fits c.requires.found.0 c.args.script.now c.requires.found.1

pub begin-requires-clause-types : goal.begin-requires-clause-types
begin-requires-clause-types c = sym c.requires.sound.at.ready.fits.types

pub begin-requires-clause-maps : goal.begin-requires-clause-maps
begin-requires-clause-maps c = sym c.requires.sound.at.ready.fits.maps

pub returns-clause-begun : goal.returns-clause-begun
returns-clause-begun c = λ w down.
    let m : Processor LivingState = c.args.own.now in
    let e = rw c.section_of-domain.ensures at c.begin_script.ensures in
    let out = even-out m.inside (word_of knows_living Plain m) c.requires.sound.at.ready.inside (c.requires.outside Plain) in
    has-begun c.args.program.now m c.begin_script.new.own _ w (program-declared c.args.program.now.types c.args.program.now.scenario.now c.requires.sound.at.ready.fits.types c.requires.sound.at.ready.fits.maps) out c.requires.unlocked c.requires.outside c.requires.found down e.known e.inside e.same e.lists e.wrote c.in_ok-activation.ensures.start

pub returns-clause-yields : goal.returns-clause-yields
returns-clause-yields c = stand-unyielding _ _ _ _ (tt, (tt, tt)) c.begin_script.ensures.wrote.grew
