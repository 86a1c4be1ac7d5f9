use Rattle.std.proofs.Common.{◌≡◌, Bool, true, false, refl}
use Rattle.bm_law_work.specs.Parts.{Say, Then, When}
use Rattle.bm_law_work.specs.WorkPhrases.{IsBatch, IsGathering, IsLeave, may_batch}
use Rattle.bm_cache.specs.Shown.{shown}
use Rattle.bm_work.specs.Dated.{Dated}
use Rattle.bm_work.proofs.Moved.{dated-class, dated-gathered}
use Rattle.bm_work.proofs.Points.{dated-same, works-host}
use Rattle.bm_work.proofs.lists.gather.Goals as goal

pub returns-clause-works : goal.returns-clause-works
returns-clause-works g c = let r = c.gather_delayed.ensures in let i = c.args.class in works-host g.R.Recorder.log g.R.Recorder.counts g.H.Host.sound g.H.Host.tests g.H.Host.face g.H.Host.pending g.H.Desk.stays g.H.Host.keeps g.H.Host.held (λ h. g.H.W.Knows.known (g.H.Desk.shared h)) g.met.H.Desk.keeps_stays g.met.H.Desk.known_goes (λ l. Then (Say l (IsGathering i)) (Then (When (may_batch i) (Say l (IsBatch i))) (Say l (IsLeave i)))) c.args.host.now c.gather_delayed.new.host r.phrase r.goes r.alone r.flags r.processor r.active

pub returns-clause-stands : goal.returns-clause-stands
returns-clause-stands g c = record { sound = c.gather_delayed.ensures.sound; fine = c.gather_delayed.ensures.fine; dated = pick c.gather_delayed.result refl }
  where
    pick : (x : Bool) → c.gather_delayed.result ≡ x → Dated (g.H.Host.tests c.gather_delayed.new.host) (shown (g.H.Host.held c.gather_delayed.new.host))
    pick true e =
        let r = c.gather_delayed.ensures in
        let a = c.args.host.now in
        let b = c.gather_delayed.new.host in
        let u = r.begun e in
        dated-gathered _ c.args.class (g.H.Host.tests a) (g.H.Host.tests b) u.0 (shown (g.H.Host.held a)) (shown (g.H.Host.held b)) r.kept u.1 u.3 r.lasting c.requires.stands.dated
    pick false e =
        let r = c.gather_delayed.ensures in
        let a = c.args.host.now in
        let b = c.gather_delayed.new.host in
        let i = c.args.class in
        let x = shown (g.H.Host.held a) in
        let y = shown (g.H.Host.held b) in
        dated-class (g.H.Host.face a).level i (g.H.Host.tests a) (g.H.Host.tests b) x y r.kept r.lasting.first r.lasting.second (dated-same (g.H.Host.tests a) (g.H.Host.tests b) (x.rows i).deferred (y.rows i).deferred (r.waits e) (r.lasting.first i) (r.lasting.second i) (c.requires.stands.dated i)) c.requires.stands.dated
