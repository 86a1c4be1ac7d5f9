use Rattle.bm_work_lists.specs.FromLists.{FromLists}
use Rattle.bm_cache.specs.Shown.{shown}
use Rattle.bm_work.proofs.Moved.{dated-less}
use Rattle.bm_work.proofs.Points.{works-host}
use Rattle.bm_work.proofs.lists.refill.Goals as goal

pub refill_from_lists-requires-clause-settled : goal.refill_from_lists-requires-clause-settled
refill_from_lists-requires-clause-settled g c = (c.requires.stands.dated c.args.class).settled

pub returns-clause-works : goal.returns-clause-works
returns-clause-works g c = let r = c.refill_from_lists.ensures in works-host g.R.Recorder.log g.R.Recorder.counts g.H.Host.sound g.H.Host.tests g.H.Host.face g.H.Host.pending g.H.Desk.stays g.H.Host.keeps g.H.Host.held (λ h. g.H.W.Knows.known (g.H.Desk.shared h)) g.met.H.Desk.keeps_stays g.met.H.Desk.known_goes (λ l. FromLists l c.args.class c.args.want c.refill_from_lists.result) c.args.host.now c.refill_from_lists.new.host r.phrase r.goes r.alone r.flags r.span.1.processor r.active

pub returns-clause-stands : goal.returns-clause-stands
returns-clause-stands g c =
    let r = c.refill_from_lists.ensures in
    let a = c.args.host.now in
    let b = c.refill_from_lists.new.host in
    record { sound = r.sound; fine = r.fine; dated = dated-less _ c.args.class c.args.want (g.H.Host.tests a) (g.H.Host.tests b) (shown (g.H.Host.held a)) (shown (g.H.Host.held b)) r.kept r.rest r.span.1.lasting c.requires.stands.dated }
