use Rattle.std.proofs.Common.{[], ◌∷◌, ◌+◌, ap, refl, subst}
use Rattle.bm_world.specs.LivingState.{LivingState}
use Rattle.bm_world.specs.ToldLiving.{knows_living}
use Rattle.bm_journal.specs.declared.entry.Entry.TheVariants as entry
use Rattle.bm_law_work.specs.Parts.{Stand}
use Rattle.bm_exec_levels.specs.Ready.{word_of}
use Rattle.bm_exec_levels.specs.declared.processor.Processor.{Processor}
use Rattle.bm_run.specs.Lines.{Wrote}
use Rattle.bm_run.proofs.Written.{wrote-stands}
use Rattle.bm_run.proofs.stretches.begin_script.Goals as goal

pub returns-clause-wrote : goal.returns-clause-wrote
returns-clause-wrote c =
    let m : Processor LivingState = c.args.own.now in
    wrote-stands (entry.Script c.args.name.now ∷ []) (entry.In c.args.domain (word_of knows_living c.args.domain m + 1) ∷ []) m c.note.new.own c.go_in.new.own c.requires.fine c.note.ensures.fine c.note.ensures.processor
    (rw c.duplicate.ensures at c.note.ensures.wrote) (subst (λ k. Wrote (Stand 0 (entry.In c.args.domain (k + 1) ∷ [])) c.note.new.own c.go_in.new.own) (ap (word_of knows_living c.args.domain) c.note.ensures.same) c.go_in.ensures.wrote)

pub returns-clause-sound : goal.returns-clause-sound
returns-clause-sound c p s = c.go_in.ensures.sound p (c.note.ensures.sound p refl refl tt s)
