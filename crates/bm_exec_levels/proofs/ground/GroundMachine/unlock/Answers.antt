use Rattle.std.proofs.Common.{None, Some, ◌∙◌}
use Rattle.bm_exec_levels.proofs.Grounds.{sound-locked}
use Rattle.bm_exec_levels.proofs.ground.GroundMachine.unlock.Goals as goal

pub returns-clause-sound : goal.returns-clause-sound
returns-clause-sound g c =
    let s = c.requires.sound in
    let e = c.give_lock_back.ensures in
    (sound-locked g.W.Knows c.give_lock_back.new.own.locked c.args.self.now.program.now c.args.self.now.own.now c.give_lock_back.new.own e.between e.at s.0, s.1, e.tied, λ h. e.between.stays.inside ∙ s.3 h)
