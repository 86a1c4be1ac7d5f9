use Rattle.std.proofs.Common.{[], ◌∷◌, ◌+◌, refl}
use Rattle.bm_world.specs.LivingState.{LivingState}
use Rattle.bm_world.specs.ToldLiving.{knows_living}
use Rattle.bm_journal.specs.declared.entry.Entry.TheVariants as entry
use Rattle.bm_exec_levels.specs.Ready.{word_of}
use Rattle.bm_exec_levels.specs.declared.processor.Processor.{Processor}
use Rattle.bm_run.proofs.Written.{wrote-stands}
use Rattle.bm_run.proofs.stretches.end_script.Goals as goal

pub returns-clause-wrote : goal.returns-clause-wrote
returns-clause-wrote c =
    let m : Processor LivingState = c.args.own.now in
    wrote-stands (entry.Out c.args.domain (word_of knows_living c.args.domain m + 1) ∷ []) (entry.Done c.args.name.now ∷ []) m c.go_out.new.own c.note.new.own c.requires.fine c.go_out.ensures.fine c.go_out.ensures.processor
    c.go_out.ensures.wrote (rw c.duplicate.ensures at c.note.ensures.wrote)

pub returns-clause-sound : goal.returns-clause-sound
returns-clause-sound c p s = c.note.ensures.sound p refl refl tt (c.go_out.ensures.sound p s)
