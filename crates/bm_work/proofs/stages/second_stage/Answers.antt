use Rattle.std.proofs.Common.{refl}
use Rattle.bm_law_work.specs.WorkPhrases.{SecondStage}
use Rattle.bm_work.specs.Stops.{BeginSecond, PassSecond}
use Rattle.bm_work.proofs.Sides.{works-join}
use Rattle.bm_work.proofs.stages.second_stage.Goals as goal

pub returns-clause-ok : goal.returns-clause-ok
returns-clause-ok g c =
    let i = c.args.class in
    works-join g.R.Recorder.log g.R.Recorder.counts g.H.Host.face g.H.Host.pending g.H.Desk.stays g.H.Host.held (λ h. g.H.W.Knows.known (g.H.Desk.shared h)) g.met.H.Desk.stays_join 0 1 0 0 (λ l. PassSecond l i) (λ l. BeginSecond l i) (λ l. SecondStage l i) c.args.host.now c.pass_second.new.host c.begin_second.new.host (λ l s one two p q. record { one = one; two = two; part_is = refl; is_first = p; is_second = q }) c.requires.stands.fine.placed c.in_ok-pass_second.ensures.back.fine.placed c.in_ok-pass_second.ensures.ok c.begin_second.ensures.works
