use Rattle.std.proofs.Common.{◌+◌}
use Rattle.bm_tests_machine.proofs.handler_desk.take_one.Goals as goal

pub returns-in-Unit-clause-sound : goal.returns-in-Unit-clause-sound
returns-in-Unit-clause-sound g c = g.met.H.Gives.sound_gave c.in-Unit.unit.number (c.in-Unit.unit.life + 1) c.alloc.new.host c.in-Unit.ensures.sound
