use Rattle.std.proofs.Common.{refl}
use Rattle.bm_law_work.specs.WorkPhrases.{FirstStage}
use Rattle.bm_work.specs.Stops.{BeginFirst, PassFirst}
use Rattle.bm_work.proofs.Sides.{works-join}
use Rattle.bm_work.proofs.stages.first_stage.Goals as goal

pub returns-clause-ok : goal.returns-clause-ok
returns-clause-ok g c =
    let i = c.args.class in
    works-join g.R.Recorder.log g.R.Recorder.counts g.H.Host.face g.H.Host.pending g.H.Desk.stays g.H.Host.held (λ h. g.H.W.Knows.known (g.H.Desk.shared h)) g.met.H.Desk.stays_join 1 0 0 0 (λ l. PassFirst l i) (λ l. BeginFirst l i) (λ l. FirstStage l i) c.args.host.now c.pass_first.new.host c.begin_first.new.host (λ l s one two p q. record { one = one; two = two; part_is = refl; is_first = p; is_second = q }) c.requires.stands.fine.placed c.in_ok-pass_first.ensures.back.fine.placed c.in_ok-pass_first.ensures.ok c.begin_first.ensures.works
