use Rattle.bm_work.proofs.Rests.{rests-called}
use Rattle.bm_tests_machine.proofs.calls.free_with_delay.Goals as goal

pub returns-clause-rests : goal.returns-clause-rests
returns-clause-rests g c =
    let e = c.free_delayed.ensures in
    rests-called g.R.Recorder.log g.R.Recorder.counts g.H.Host.sound g.H.Host.tests g.H.Host.face g.H.Host.held (λ h. g.H.W.Knows.known (g.H.Desk.shared h)) c.args.class c.args.left c.args.host.now c.free_delayed.new.host e.came e.sound e.fine e.goes.face (g.met.H.Desk.known_goes c.args.host.now c.free_delayed.new.host e.goes.keeps) c.requires.rests
