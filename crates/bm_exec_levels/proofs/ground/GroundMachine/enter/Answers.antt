use Rattle.std.proofs.Common.{ap, arith}
use Rattle.bm_grace.specs.declared.step.StepKind.TheVariants.{Enter}
use Rattle.bm_journal.specs.declared.ids.Domain.TheVariants.{Plain}
use Rattle.bm_exec_levels.specs.Ready.{left_of}
use Rattle.bm_exec_levels.specs.declared.processor.Processor.{Processor}
use Rattle.bm_exec_levels.proofs.Moved.{sound-moved}
use Rattle.bm_exec_levels.proofs.ground.GroundMachine.enter.Goals as goal

pub returns-then-not-self-2-clause-sound : goal.returns-then-not-self-2-clause-sound
returns-then-not-self-2-clause-sound g c =
    let m = c.args.self.now.own.now in
    let k = c.enter_section.new.own in
    let p = c.args.self.now.program.now in
    let s = c.requires.sound in
    let e = rw c.ordinary.ensures at c.enter_section.ensures in
    let room = c.requires.room in (
      sound-moved g.W.Knows Enter Plain p m k e.rights e.lists e.known (ap (λ (x : Processor _). left_of x) e.same) (ap (λ (x : Processor _). x.settled) e.same) (e.at p s.0.at (omega (arith, room))) e.fine s.0,
      s.1,
      e.tied g.B.Since.since g.B.Since.start s.2,
      λ h. e.inside,
    )
