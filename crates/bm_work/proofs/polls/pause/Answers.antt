use Rattle.bm_work.proofs.Going.{last-kept}
use Rattle.bm_work.proofs.Points.{stands-point, works-point}
use Rattle.bm_work.proofs.polls.pause.Goals as goal

pub returns-clause-works : goal.returns-clause-works
returns-clause-works g c = works-point g.R.Recorder.log g.H.Host.tests g.H.Host.face g.H.Host.pending g.H.Desk.stays g.H.Host.held (λ h. g.H.W.Knows.known (g.H.Desk.shared h)) c.args.host.now c.point.new.self c.point.ensures.came (let q = c.point.ensures.goes in record { face = q.face; pending = q.pending; keeps = g.met.H.Desk.keeps_stays c.args.host.now c.point.new.self q.keeps }) c.point.ensures.quiet (g.met.H.Desk.known_goes c.args.host.now c.point.new.self c.point.ensures.goes.keeps)

pub returns-clause-stands : goal.returns-clause-stands
returns-clause-stands g c = stands-point g.R.Recorder.log g.R.Recorder.counts g.H.Host.asked g.H.Host.tests g.H.Host.face g.H.Host.held _ c.args.host.now c.point.new.self c.point.ensures.came c.point.ensures.asked c.point.ensures.fine c.requires.stands

pub returns-clause-rested : goal.returns-clause-rested
returns-clause-rested g c d x r = g.met.H.Desk.rested_kept c.args.host.now c.point.new.self d x c.point.ensures.goes.keeps c.point.ensures.came.above c.point.ensures.asked r

pub returns-clause-last : goal.returns-clause-last
returns-clause-last g c e h =
    let log = g.R.Recorder.log in
    last-kept (g.H.Host.face c.args.host.now).level e (log (g.H.Host.held c.args.host.now).recorder) (log (g.H.Host.held c.point.new.self).recorder) c.point.ensures.came.above h
