use Rattle.std.proofs.Common.{ℕ, subst}
use Rattle.bm_law.specs.Lists.{Log}
use Rattle.bm_law.specs.State.{seen}
use Rattle.bm_cache.specs.Shown.{shown}
use Rattle.bm_cache.specs.Tokens.{number_of}
use Rattle.bm_law_work.specs.WorkPhrases.{Work}
use Rattle.bm_work.proofs.Sides.{works-map-here}
use Rattle.bm_exec_levels.proofs.GoingAfter.{settled-worked}
use Rattle.bm_exec_levels.proofs.once.work_once.Goals as goal

pub returns-in-Done-clause-works : goal.returns-in-Done-clause-works
returns-in-Done-clause-works g c =
    let a = c.args.host.now in
    let b = c.work.new.host in
    let i = c.args.class in
    let F : Log → ℕ → Type 0 = λ part l. Work l i (seen number_of (shown (g.H.Host.held a))) part in
    works-map-here g.R.Recorder.log g.H.Host.face g.H.Host.pending g.H.Desk.stays g.H.Host.held (λ h. g.H.W.Knows.known (g.H.Desk.shared h)) 1 1 (λ l. Work l i) (λ l. Work 0 i) a b (λ part w. subst (F part) c.requires.at_rest.ordinary w) (c.work.ensures.done c.in-Done.is)

pub returns-in-Done-clause-at_rest : goal.returns-in-Done-clause-at_rest
returns-in-Done-clause-at_rest g c =
    let e = c.in-Done.is in
    let w = c.work.ensures in
    settled-worked g.R.Recorder.log g.R.Recorder.counts g.H.Host.sound g.H.Host.tests g.H.Host.face g.H.Host.held g.H.Host.pending g.H.Desk.stays (λ h. g.H.W.Knows.known (g.H.Desk.shared h)) c.args.class (λ l. Work l c.args.class) c.args.host.now c.work.new.host c.requires.at_rest (w.done e) (w.back e) (w.stamped e) (w.kept e) (w.side e)
