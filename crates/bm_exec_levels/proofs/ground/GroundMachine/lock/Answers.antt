use Rattle.std.proofs.Common.{None, Some, ◌∙◌}
use Rattle.bm_exec_levels.proofs.Grounds.{sound-locked}
use Rattle.bm_exec_levels.proofs.ground.GroundMachine.lock.Goals as goal

pub returns-clause-sound : goal.returns-clause-sound
returns-clause-sound g c =
    let s = c.requires.sound in
    let e = c.take_lock.ensures in
    (sound-locked g.W.Knows c.take_lock.new.own.locked c.args.self.now.program.now c.args.self.now.own.now c.take_lock.new.own e.between e.at s.0, s.1, e.tied, λ h. e.between.stays.inside ∙ s.3 h)
