use Rattle.std.proofs.Common.{◌∙◌, refl, arith}
use Rattle.bm_exec_levels.proofs.Grounds.{sound-still, statements-still}
use Rattle.bm_exec_levels.proofs.Scripts.{around-same, scripted-of, words-most}
use Rattle.bm_exec_levels.proofs.ground.GroundMachine.read.Goals as goal

pub returns-clause-sound : goal.returns-clause-sound
returns-clause-sound g c =
    let s = c.requires.sound in
    let e = c.read_field.ensures in
    (sound-still g.W.Knows 1 c.args.self.now.program.now c.args.self.now.own.now c.read_field.new.own e.between e.at s.0, s.1, c.read_field.ensures.tied, λ h. e.between.stays.inside ∙ s.3 h)

pub returns-clause-asked : goal.returns-clause-asked
returns-clause-asked g c =
    let e = c.read_field.ensures in
    let most = e.between.stays.asks_most in
    let words = words-most g.W.Knows c.args.self.now.own.now c.read_field.new.own (statements-still g.W.Knows 1 c.args.self.now.program.now c.args.self.now.own.now c.read_field.new.own e.between) in
    omega (arith, most, words)

pub returns-clause-around : goal.returns-clause-around
returns-clause-around g c =
    let e = c.read_field.ensures in
    around-same g.W.Knows c.args.self.now.within c.args.self.now.own.now c.read_field.new.own c.requires.sound.0.at.ready.inside (statements-still g.W.Knows 1 c.args.self.now.program.now c.args.self.now.own.now c.read_field.new.own e.between)

pub returns-clause-keeps : goal.returns-clause-keeps
returns-clause-keeps g c =
    let e = c.read_field.ensures in
    let s = c.requires.sound in
    (scripted-of g.W.Knows c.args.self.now.within c.args.self.now.own.now c.read_field.new.own s.3 s.0.at.ready.inside (statements-still g.W.Knows 1 c.args.self.now.program.now c.args.self.now.own.now c.read_field.new.own e.between), refl, refl)
