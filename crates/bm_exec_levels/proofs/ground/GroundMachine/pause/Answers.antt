use Rattle.std.proofs.Common.{refl}
use Rattle.bm_journal.specs.declared.entry.Entry.TheVariants as entry
use Rattle.bm_exec_levels.specs.AtTie.{tied-quiet}
use Rattle.bm_exec_levels.proofs.Moved.{sound-noted}
use Rattle.bm_exec_levels.proofs.Noted.{fine-noted}
use Rattle.bm_exec_levels.proofs.ground.GroundMachine.pause.Goals as goal

pub returns-clause-sound : goal.returns-clause-sound
returns-clause-sound g c =
    let m = c.args.self.now.own.now in
    let p = c.args.self.now.program.now in
    let s = c.requires.sound in
    let n = rw c.ordinary.ensures at c.note.ensures.step in
    let fine = fine-noted g.W.Knows 0 m c.note.new.self c.note.ensures.same n.processor c.note.ensures.placed s.0.fine in (
      sound-noted g.W.Knows p m c.note.new.self entry.Yield refl tt refl c.note.ensures.same n.processor n.records fine s.0,
      s.1,
      tied-quiet g.W.Knows g.B.Since.since g.B.Since.start 0 m c.note.new.self entry.Yield refl n.records s.2,
      s.3,
    )
