use Rattle.std.proofs.Common.{◌≤◌, ◌+◌, ◌-◌, ◌*◌, length, arith}
use Rattle.bm_cache.specs.Shown.{shown}
use Rattle.bm_exec_levels.proofs.GoingAfter.{going-asked, going-begins, going-end, going-more, going-none, left-asked, left-less, left_on}
use Rattle.bm_exec_levels.proofs.Left.{works-left-most, works-left-ran}
use Rattle.bm_exec_levels.proofs.behind.until_down.Goals as goal

pub loop-class-init : goal.loop-class-init
loop-class-init g c =
    let a = c.args.host.now in
    record {
      going = going-none g.R.Recorder.log g.R.Recorder.counts g.H.Host.sound g.H.Host.tests g.H.Host.face g.H.Host.pending g.H.Desk.stays g.H.Host.held (λ h. g.H.W.Knows.known (g.H.Desk.shared h)) g.met.H.Desk.stays_join c.args.classes.now a (g.met.H.Desk.keeps_stays a a (g.met.H.Host.keeps_same a));
      at_rest = c.requires.at_rest;
    }

pub work_once-requires-clause-begins : goal.work_once-requires-clause-begins
work_once-requires-clause-begins g c =
    let a = c.args.host.now in
    let b = c.loop-class.host in
    let d = c.lowest_raised.new.host in
    let cs = c.args.classes.now in
    let n = (length cs + 1) * (g.H.Host.pending a + 1) in
    let e = c.lowest_raised.ensures in
    let going = going-asked g.R.Recorder.log g.R.Recorder.counts g.H.Host.sound g.H.Host.tests g.H.Host.face g.H.Host.pending g.H.Desk.stays g.H.Host.held (λ h. g.H.W.Knows.known (g.H.Desk.shared h)) g.met.H.Desk.stays_join cs a b d e.posted c.loop-class.invariant.going in
    going-begins g.R.Recorder.log g.R.Recorder.counts g.H.Host.sound g.H.Host.tests g.H.Host.face g.H.Host.pending g.H.Desk.stays g.H.Host.held (λ h. g.H.W.Knows.known (g.H.Desk.shared h)) g.met.H.Desk.stays_join cs n a d (works-left-most (g.H.Host.pending a) cs (λ k. ((shown (g.H.Host.held a)).rows k).raised)) c.requires.begins going

pub loop-class-smaller : goal.loop-class-smaller
loop-class-smaller g c =
    let b = c.loop-class.host in
    let d = c.lowest_raised.new.host in
    let z = c.work_once.new.host in
    let cs = c.args.classes.now in
    let w = c.in_ok-work_once.ensures in
    let same = left-asked g.R.Recorder.log g.H.Host.face g.H.Host.pending g.H.Desk.stays g.H.Host.held (λ h. g.H.W.Knows.known (g.H.Desk.shared h)) cs g.H.Host.tests b d c.lowest_raised.ensures.posted in
    let less = left-less g.R.Recorder.log g.H.Host.face g.H.Host.pending g.H.Desk.stays g.H.Host.held (λ h. g.H.W.Knows.known (g.H.Desk.shared h)) cs c.in-Some.class d z c.in-Some.ensures.answer w.works w.lowered in
    omega (arith, same, less)

pub loop-class-preserved : goal.loop-class-preserved
loop-class-preserved g c =
    let a = c.args.host.now in
    let b = c.loop-class.host in
    let d = c.lowest_raised.new.host in
    let z = c.work_once.new.host in
    let cs = c.args.classes.now in
    let e = c.lowest_raised.ensures in
    let w = c.in_ok-work_once.ensures in
    let going = going-asked g.R.Recorder.log g.R.Recorder.counts g.H.Host.sound g.H.Host.tests g.H.Host.face g.H.Host.pending g.H.Desk.stays g.H.Host.held (λ h. g.H.W.Knows.known (g.H.Desk.shared h)) g.met.H.Desk.stays_join cs a b d e.posted c.loop-class.invariant.going in
    record {
      going = going-more g.R.Recorder.log g.R.Recorder.counts g.H.Host.sound g.H.Host.tests g.H.Host.face g.H.Host.pending g.H.Desk.stays g.H.Host.held (λ h. g.H.W.Knows.known (g.H.Desk.shared h)) g.met.H.Desk.stays_join cs c.in-Some.class a d z c.requires.at_rest e.at_rest c.in-Some.ensures.answer w.works w.lowered going;
      at_rest = w.at_rest;
    }

pub returns-clause-works : goal.returns-clause-works
returns-clause-works g c =
    let a = c.args.host.now in
    let b = c.loop-class.host in
    let d = c.lowest_raised.new.host in
    let cs = c.args.classes.now in
    let p = g.H.Host.pending a in
    let q = g.H.Host.pending d in
    let n = (length cs + 1) * (p - q + 1) in
    let e = c.lowest_raised.ensures in
    let going = going-asked g.R.Recorder.log g.R.Recorder.counts g.H.Host.sound g.H.Host.tests g.H.Host.face g.H.Host.pending g.H.Desk.stays g.H.Host.held (λ h. g.H.W.Knows.known (g.H.Desk.shared h)) g.met.H.Desk.stays_join cs a b d e.posted c.loop-class.invariant.going in
    let le : left_on g.H.Host.pending g.H.Host.held cs a ≤ n + q * (length cs + 1) = works-left-ran p q cs (λ k. ((shown (g.H.Host.held a)).rows k).raised) going.works.goes.pending in
    going-end g.R.Recorder.log g.R.Recorder.counts g.H.Host.sound g.H.Host.tests g.H.Host.face g.H.Host.pending g.H.Desk.stays g.H.Host.held (λ h. g.H.W.Knows.known (g.H.Desk.shared h)) g.met.H.Desk.stays_join cs (λ h. g.H.W.Knows.rights (g.H.Desk.shared h)) n a d (g.met.H.Desk.keeps_stays d d (g.met.H.Host.keeps_same d)) le c.requires.at_rest e.at_rest c.in_default.ensures.answer going
