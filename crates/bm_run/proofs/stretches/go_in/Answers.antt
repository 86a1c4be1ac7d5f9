use Rattle.std.proofs.Common.{◌+◌, ap}
use Rattle.bm_world.specs.LivingState.{LivingState}
use Rattle.bm_world.specs.ToldLiving.{knows_living}
use Rattle.bm_grace.specs.declared.step.StepKind.TheVariants.{Enter}
use Rattle.bm_journal.specs.declared.entry.Entry.TheVariants as entry
use Rattle.bm_exec_levels.specs.Ready.{left_of, word_of}
use Rattle.bm_exec_levels.specs.declared.processor.Processor.{Processor}
use Rattle.bm_exec_levels.proofs.Moved.{sound-moved, ordinary-moved}
use Rattle.bm_run.proofs.Written.{wrote-one}
use Rattle.bm_run.proofs.stretches.go_in.Goals as goal

pub returns-clause-wrote : goal.returns-clause-wrote
returns-clause-wrote c =
    let m : Processor LivingState = c.args.own.now in
    let e = rw c.ordinary.ensures at c.enter_section.ensures in
    wrote-one m c.enter_section.new.own (entry.In c.args.domain (word_of knows_living c.args.domain m + 1)) e.said (ordinary-moved knows_living Enter c.args.domain m c.enter_section.new.own e.known)

pub returns-clause-sound : goal.returns-clause-sound
returns-clause-sound c p s =
    let m : Processor LivingState = c.args.own.now in
    let e = rw c.ordinary.ensures at c.enter_section.ensures in
    sound-moved knows_living Enter c.args.domain p m c.enter_section.new.own e.rights e.lists e.known (ap left_of e.same) (ap (λ (x : Processor LivingState). x.settled) e.same) (e.at p s.at c.requires.room) e.fine s
