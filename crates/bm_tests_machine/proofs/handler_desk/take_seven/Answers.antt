use Rattle.bm_cache.proofs.Moments.{goes-join}
use Rattle.bm_tests_machine.proofs.Handlers.{came-more}
use Rattle.bm_tests_machine.proofs.handler_desk.take_seven.Goals as goal

pub take_one-requires-clause-sound : goal.take_one-requires-clause-sound
take_one-requires-clause-sound g c = c.loop-turn.invariant.sound

pub take_one-requires-clause-fine : goal.take_one-requires-clause-fine
take_one-requires-clause-fine g c = c.loop-turn.invariant.fine

pub loop-turn-preserved : goal.loop-turn-preserved
loop-turn-preserved g c =
    let v = c.loop-turn.invariant in
    let e = c.take_one.ensures in
    let a = c.args.host.now in
    let b = c.loop-turn.host in
    let z = c.take_one.new.host in
    record {
      came = came-more g.R.Recorder.log g.H.Host.tests g.H.Host.face g.H.Host.pending g.H.Host.keeps g.H.Host.held a b z v.goes v.came e.came;
      fine = e.fine;
      goes = goes-join g.met.H.Host.keeps_join v.goes e.goes;
      sound = e.sound;
    }
