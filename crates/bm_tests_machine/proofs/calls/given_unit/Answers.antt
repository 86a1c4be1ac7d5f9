use Rattle.std.proofs.Common.{◌+◌}
use Rattle.bm_work.proofs.Rests.{rests-called}
use Rattle.bm_tests_machine.proofs.calls.given_unit.Goals as goal

pub returns-clause-rests : goal.returns-clause-rests
returns-clause-rests g c =
    let e = c.alloc.ensures in
    rests-called g.R.Recorder.log g.R.Recorder.counts (g.H.Host.gave c.in-Unit.unit.number (c.in-Unit.unit.life + 1)) g.H.Host.tests g.H.Host.face g.H.Host.held (λ h. g.H.W.Knows.known (g.H.Desk.shared h)) c.args.class c.args.left c.args.host.now c.alloc.new.host e.came c.in-Unit.ensures.sound e.fine e.goes.face (g.met.H.Desk.known_goes c.args.host.now c.alloc.new.host e.goes.keeps) c.requires.rests
