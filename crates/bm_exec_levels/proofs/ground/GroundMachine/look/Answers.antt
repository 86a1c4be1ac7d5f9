use Rattle.std.proofs.Common.{◌∙◌}
use Rattle.bm_exec_levels.proofs.Grounds.{sound-still}
use Rattle.bm_exec_levels.proofs.ground.GroundMachine.look.Goals as goal

pub returns-clause-sound : goal.returns-clause-sound
returns-clause-sound g c =
    let s = c.requires.sound in
    let e = c.look.ensures in
    (sound-still g.W.Knows 1 c.args.self.now.program.now c.args.self.now.own.now c.look.new.own e.between e.at s.0, s.1, e.tied, λ h. e.between.stays.inside ∙ s.3 h)
