use Rattle.std.proofs.Common.{List, map, sym, subst}
use Rattle.bm_law_work.specs.Parts.{Say}
use Rattle.bm_work_lists.specs.Grown.{GrewBy}
use Rattle.bm_law.specs.State.{seen}
use Rattle.bm_cache.specs.Tokens.{Token, number_of}
use Rattle.bm_cache.specs.Shown.{shown}
use Rattle.bm_work.specs.Periods.{AddsFirst}
use Rattle.bm_work.proofs.Points.{stands-host, works-host}
use Rattle.bm_work.proofs.lists.add_one.Goals as goal

pub returns-clause-works : goal.returns-clause-works
returns-clause-works g c =
    let a = c.args.host.now in
    let b = c.add_unit.new.host in
    let l = (g.H.Host.face a).level in
    let i = c.args.class in
    let p = c.add_unit.ensures.phrase in
    let h = ((shown (g.H.Host.held a)).sides l).hand in
    let F : List Token → Type 0 = λ us. GrewBy (Say l (AddsFirst i (map number_of us))) (seen number_of (shown (g.H.Host.held a))) (g.R.Recorder.log (g.H.Host.held a).recorder) (g.R.Recorder.log (g.H.Host.held b).recorder) in
    works-host g.R.Recorder.log g.R.Recorder.counts g.H.Host.sound g.H.Host.tests g.H.Host.face g.H.Host.pending g.H.Desk.stays g.H.Host.keeps g.H.Host.held (λ h. g.H.W.Knows.known (g.H.Desk.shared h)) g.met.H.Desk.keeps_stays g.met.H.Desk.known_goes (λ k. Say k (AddsFirst i (map number_of h))) a b (subst F (sym p.2) p.3) c.add_unit.ensures.goes c.add_unit.ensures.alone c.add_unit.ensures.flags c.add_unit.ensures.span.5.processor c.add_unit.ensures.active

pub returns-clause-stands : goal.returns-clause-stands
returns-clause-stands g c = stands-host g.R.Recorder.log g.R.Recorder.counts g.H.Host.sound g.H.Host.tests g.H.Host.face g.H.Host.pending g.H.Desk.stays g.H.Host.keeps g.H.Host.held (λ h. g.H.W.Knows.known (g.H.Desk.shared h)) g.met.H.Desk.keeps_stays g.met.H.Desk.known_goes _ c.args.host.now c.add_unit.new.host c.add_unit.ensures.sound c.add_unit.ensures.fine c.add_unit.ensures.kept c.add_unit.ensures.span.5.lasting c.requires.stands
