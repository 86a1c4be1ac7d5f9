use Rattle.std.proofs.Common.{◌≡◌, Bool, true, false, refl, sym, subst}
use Rattle.bm_law_work.specs.Parts.{Say, When}
use Rattle.bm_law_work.specs.WorkPhrases.{IsSecond, may_begin}
use Rattle.bm_cache.specs.Shown.{shown}
use Rattle.bm_cache.specs.Tests.{Tests}
use Rattle.bm_cache.specs.declared.caches.Caches.{Caches}
use Rattle.bm_work.specs.Dated.{Dated}
use Rattle.bm_work.proofs.Moved.{dated-begun}
use Rattle.bm_work.proofs.Points.{works-host}
use Rattle.bm_work.proofs.lists.begin_batch.Goals as goal

pub returns-clause-works : goal.returns-clause-works
returns-clause-works g c = let r = c.begin_second.ensures in let i = c.args.class in works-host g.R.Recorder.log g.R.Recorder.counts g.H.Host.sound g.H.Host.tests g.H.Host.face g.H.Host.pending g.H.Desk.stays g.H.Host.keeps g.H.Host.held (λ h. g.H.W.Knows.known (g.H.Desk.shared h)) g.met.H.Desk.keeps_stays g.met.H.Desk.known_goes (λ l. When (may_begin i) (Say l (IsSecond i))) c.args.host.now c.begin_second.new.host r.phrase r.goes r.alone r.flags r.processor r.active

pub returns-clause-stands : goal.returns-clause-stands
returns-clause-stands g c = record { sound = c.begin_second.ensures.sound; fine = c.begin_second.ensures.fine; dated = pick c.begin_second.result refl }
  where
    pick : (x : Bool) → c.begin_second.result ≡ x → Dated (g.H.Host.tests c.begin_second.new.host) (shown (g.H.Host.held c.begin_second.new.host))
    pick true e =
        let r = c.begin_second.ensures in
        let a = c.args.host.now in
        let b = c.begin_second.new.host in
        let u = r.some e in
        dated-begun _ c.args.class (g.H.Host.tests a) (g.H.Host.tests b) (shown (g.H.Host.held a)) (shown (g.H.Host.held b)) r.kept u.1 u.2.lasting c.requires.stands.fine.proper c.requires.stands.dated
    pick false e =
        let u = c.begin_second.ensures.none e in
        let F : Tests → Caches g.row.R.Denot → Type 0 = λ t x. Dated t (shown x) in
        subst (λ t. F t (g.H.Host.held c.begin_second.new.host)) (sym u.1) (subst (F (g.H.Host.tests c.args.host.now)) (sym u.0) c.requires.stands.dated)
