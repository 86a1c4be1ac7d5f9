use Rattle.std.proofs.Common.{arith}
use Rattle.bm_law_work.specs.WorkPhrases.{Work}
use Rattle.bm_work.proofs.Rests.{rests-worked}
use Rattle.bm_tests_machine.proofs.calls.work_once.Goals as goal

pub work-requires-clause-active : goal.work-requires-clause-active
work-requires-clause-active g c = let q = c.requires.rests.quiet.active c.args.class in omega (arith, q, c.requires.rests.ordinary)

pub returns-clause-rests : goal.returns-clause-rests
returns-clause-rests g c =
    let e = c.is_done.ensures in
    let w = c.work.ensures in
    rests-worked g.R.Recorder.log g.R.Recorder.counts g.H.Host.sound g.H.Host.tests g.H.Host.face g.H.Host.held (λ h. g.H.W.Knows.known (g.H.Desk.shared h)) g.H.Host.pending g.H.Desk.stays c.args.class c.args.left (λ l. Work l c.args.class) c.args.host.now c.work.new.host c.requires.rests (w.done e) (w.back e) (w.stamped e) (w.side e)
