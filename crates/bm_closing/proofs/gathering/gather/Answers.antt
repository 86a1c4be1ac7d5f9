use Rattle.bm_closing.proofs.Batched.{gathered}
use Rattle.bm_closing.proofs.gathering.gather.Goals as goal

pub returns-clause-gathered : goal.returns-clause-gathered
returns-clause-gathered g c =
    let n = c.ordinary-level.ensures in
    gathered g.R.Recorder.log c.args.class _ c.args.waited c.args.caches.now c.sweep_in.new.self c.stamped.new.self c.began.new.self c.finished.new.self c.passed.new.self (rw n at c.sweep_in.ensures.step) (rw n at c.stamped.ensures.step) (rw n at c.began.ensures.step) (rw n at c.finished.ensures.step) (rw n at c.passed.ensures.step) c.began.ensures.same c.finished.ensures.same c.passed.ensures.same
