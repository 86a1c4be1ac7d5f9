use Rattle.std.proofs.Common.{refl}
use Rattle.bm_world.specs.LivingState.{LivingState}
use Rattle.bm_world.specs.ToldLiving.{knows_living}
use Rattle.bm_exec_levels.specs.declared.processor.Processor.{Processor}
use Rattle.bm_exec_levels.specs.AtTie.{tied-quiet}
use Rattle.bm_exec_levels.proofs.Noted.{fine-noted}
use Rattle.bm_exec_levels.proofs.Moved.{sound-noted}
use Rattle.bm_run.proofs.Written.{wrote-one}
use Rattle.bm_run.proofs.stretches.note.Goals as goal

pub returns-clause-fine : goal.returns-clause-fine
returns-clause-fine c = fine-noted knows_living 0 c.args.own.now c.note.new.self c.note.ensures.same c.note.ensures.step.processor c.note.ensures.placed c.requires.fine

pub returns-clause-sound : goal.returns-clause-sound
returns-clause-sound c p k plain i s =
    let n = rw c.ordinary.ensures at c.note.ensures.step in
    sound-noted knows_living p c.args.own.now c.note.new.self c.args.entry k i plain c.note.ensures.same n.processor n.records (fine-noted knows_living 0 c.args.own.now c.note.new.self c.note.ensures.same c.note.ensures.step.processor c.note.ensures.placed c.requires.fine) s

pub returns-clause-wrote : goal.returns-clause-wrote
returns-clause-wrote c =
    let m : Processor LivingState = c.args.own.now in
    let n = rw c.ordinary.ensures at c.note.ensures.step in
    wrote-one m (record m { caches = c.note.new.self }) c.args.entry n.records (record { processors = refl; processor = refl })

pub returns-clause-tied : goal.returns-clause-tied
returns-clause-tied c q since start t =
    let n = rw c.ordinary.ensures at c.note.ensures.step in
    tied-quiet knows_living since start 0 c.args.own.now c.note.new.self c.args.entry q n.records t
