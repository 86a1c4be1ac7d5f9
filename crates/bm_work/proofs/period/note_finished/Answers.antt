use Rattle.bm_journal.specs.declared.entry.Entry.TheVariants as entry
use Rattle.std.proofs.Common.{refl}
use Rattle.bm_work.proofs.Steps.{stands-noted}
use Rattle.bm_work.proofs.Owing.{owes-noted}
use Rattle.bm_work.proofs.period.note_finished.Goals as goal

pub returns-clause-stands : goal.returns-clause-stands
returns-clause-stands g c =
    let h = c.args.host.now in
    let z = c.finished.new.self in
    stands-noted g.R.Recorder.log g.R.Recorder.counts (λ _. Unit {0}) g.H.Host.tests g.H.Host.face g.H.Host.held h (g.H.Host.with_held h z) c.caches.result.now z c.caches.ensures.held (g.met.H.Host.held_back h z) (g.met.H.Host.tests_back h z) (g.met.H.Host.face_back h z) tt c.finished.ensures.same c.finished.ensures.step.processor c.finished.ensures.placed c.requires.stands

pub returns-clause-owes : goal.returns-clause-owes
returns-clause-owes g c done es o =
    owes-noted g.H.Host.face g.H.Host.held g.H.Host.with_held g.R.Recorder.log g.H.Desk.owes g.met.H.Desk.owes_said c.args.host.now c.caches.result.now c.finished.new.self c.level-level.result (entry.Finish c.args.period) c.level-level.ensures.same c.caches.ensures.held refl c.finished.ensures.step.records c.finished.ensures.step.processor done es o
