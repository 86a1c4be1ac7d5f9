use Rattle.std.proofs.Common.{◌∙◌}
use Rattle.bm_exec_levels.proofs.Grounds.{both-ok, on-ok, sound-still}
use Rattle.bm_exec_levels.proofs.ground.GroundMachine.remove.Goals as goal

pub returns-clause-sound : goal.returns-clause-sound
returns-clause-sound g c =
    let s = c.requires.sound in
    let e = c.remove.ensures in
    on-ok c.remove.result _ _ (both-ok c.remove.result _ _ e.between (both-ok c.remove.result _ _ e.at e.tied)) (λ h. (sound-still g.W.Knows 1 c.args.self.now.program.now c.args.self.now.own.now c.remove.new.own h.0 h.1.0 s.0, s.1, h.1.1, λ i. h.0.stays.inside ∙ s.3 i))
