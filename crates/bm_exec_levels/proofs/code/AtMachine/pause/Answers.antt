use Rattle.std.proofs.Common.{refl}
use Rattle.bm_journal.specs.declared.entry.Entry.TheVariants as entry
use Rattle.bm_exec_levels.specs.AtTie.{tied-quiet}
use Rattle.bm_exec_levels.specs.Hosting.{at-say}
use Rattle.bm_exec_levels.proofs.Noted.{between-noted, fine-noted}
use Rattle.bm_exec_levels.proofs.code.AtMachine.pause.Goals as goal

pub returns-clause-sound : goal.returns-clause-sound
returns-clause-sound g c =
    let l = g.L.Rank.number in
    let m = c.args.self.now.own.now in
    let p = c.args.self.now.program.now in
    let s = c.requires.sound in
    let n = rw c.level.ensures.number at c.note.ensures.step in (
      at-say g.W.Knows l p m c.note.new.self entry.Yield refl tt refl n.processor n.records s.0,
      fine-noted g.W.Knows l m c.note.new.self c.note.ensures.same n.processor c.note.ensures.placed s.1,
      tied-quiet g.W.Knows g.B.Since.since g.B.Since.start l m c.note.new.self entry.Yield refl n.records s.2,
    )

pub returns-clause-keeps : goal.returns-clause-keeps
returns-clause-keeps g c =
    let l = g.L.Rank.number in
    let m = c.args.self.now.own.now in
    let p = c.args.self.now.program.now in
    let n = rw c.level.ensures.number at c.note.ensures.step in
    let b = between-noted g.W.Knows l p m c.note.new.self entry.Yield c.note.ensures.same n.processor c.note.ensures.placed n.records c.requires.sound.1 in
    (record { came = b.came; asks = 0; stays = b.stays; above = λ h. (refl, record { graphs = refl; items = refl }); goes = b.goes; fewer = b.fewer }, refl)
