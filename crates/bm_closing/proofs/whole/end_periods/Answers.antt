use Rattle.std.proofs.Common.{◌≡◌, ◌∙◌, ap, subst}
use Rattle.bm_journal.specs.declared.ids.Domain.TheVariants.{Plain, Tracing}
use Rattle.bm_grace.specs.Known.{Side, side}
use Rattle.bm_law.specs.State.{seen}
use Rattle.bm_law.proofs.Alone.{Alone-join}
use Rattle.bm_cache.specs.Shown.{shown}
use Rattle.bm_cache.specs.Tokens.{number_of}
use Rattle.bm_law.specs.Begun.{begun_by}
use Rattle.bm_law_work.specs.Grown.{GrewBy}
use Rattle.bm_law_scenario.specs.Closing.{EndsOne}
use Rattle.bm_work_lists.proofs.Grown.{grew-then}
use Rattle.bm_closing.specs.AtEnd.{ended_at}
use Rattle.bm_closing.proofs.AtEnds.{even-ended}
use Rattle.bm_closing.proofs.Closes.{closes-join}
use Rattle.bm_closing.proofs.Classes.{plain-tracing, tracing-plain}
use Rattle.bm_closing.proofs.whole.end_periods.Goals as goal

pub end_period-requires-clause-rest : goal.end_period-requires-clause-rest
end_period-requires-clause-rest g c = c.requires.rest Plain

pub end_period-requires-2-clause-rest : goal.end_period-requires-2-clause-rest
end_period-requires-2-clause-rest g c =
    let r = c.requires.rest Tracing in
    (r.0, (c.end_period.ensures.rest r.0).other Tracing r.0 tracing-plain r.1)

pub returns-clause-ends : goal.returns-clause-ends
returns-clause-ends g c =
    let a = c.args.host.now in
    let b = c.end_period.new.host in
    let d = c.end_period-2.new.host in
    let N = λ (h : g.row.H.Denot). g.H.W.Knows.known (g.H.Desk.shared h) in
    let held = g.H.Host.held in
    let L = λ (h : g.row.H.Denot). g.R.Recorder.log (held h).recorder in
    let P = EndsOne Plain (begun_by (side Plain (N a)).number) in
    let same : side Tracing (N b) ≡ side Tracing (N a) = c.end_period.ensures.other Tracing tracing-plain in
    let F : Side → Type 0 = λ x. GrewBy (EndsOne Tracing (begun_by x.number)) (seen number_of (shown (held b))) (L b) (L d) in
    grew-then g.R.Recorder.log g.R.Recorder.counts P (EndsOne Tracing (begun_by (side Tracing (N a)).number)) (held a) (held b) (L d) c.end_period.ensures.processor c.requires.at_end.fine.placed c.end_period.ensures.at_end.fine.placed c.end_period.ensures.ends (subst F same c.end_period-2.ensures.ends)

pub returns-clause-alone : goal.returns-clause-alone
returns-clause-alone g c =
    let held = g.H.Host.held in
    let L = λ (h : g.row.H.Denot). g.R.Recorder.log (held h).recorder in
    Alone-join 0 (L c.args.host.now) (L c.end_period.new.host) (L c.end_period-2.new.host) c.end_period.ensures.alone c.end_period-2.ensures.alone

pub returns-clause-rest : goal.returns-clause-rest
returns-clause-rest g c Plain n h =
    let m = ended_at (side Plain (g.H.W.Knows.known (g.H.Desk.shared c.args.host.now))).number n in
    (c.end_period-2.ensures.rest 0).other Plain m plain-tracing ((c.end_period.ensures.rest n).moves h)
returns-clause-rest g c Tracing n h =
    let N = λ (x : g.row.H.Denot). g.H.W.Knows.known (g.H.Desk.shared x) in
    let same : side Tracing (N c.end_period.new.host) ≡ side Tracing (N c.args.host.now) = c.end_period.ensures.other Tracing tracing-plain in
    let F : Side → Type 0 = λ x. g.H.W.Knows.rest (g.H.Desk.shared c.end_period-2.new.host) Tracing (ended_at x.number n) in
    subst F same ((c.end_period-2.ensures.rest n).moves ((c.end_period.ensures.rest n).other Tracing n tracing-plain h))

pub returns-clause-ended : goal.returns-clause-ended
returns-clause-ended g c Plain = ap (λ (x : Side). x.number) (c.end_period-2.ensures.other Plain plain-tracing) ∙ c.end_period.ensures.ended
returns-clause-ended g c Tracing = c.end_period-2.ensures.ended

pub returns-clause-does : goal.returns-clause-does
returns-clause-does g c =
    let shared = g.H.Desk.shared in
    closes-join g.H.W.Knows.does g.H.W.Knows.does_join (shared c.args.host.now) (shared c.end_period.new.host) (shared c.end_period-2.new.host) c.end_period.ensures.does c.end_period-2.ensures.does

pub returns-clause-even : goal.returns-clause-even
returns-clause-even g c d n h = even-ended (side d (g.H.W.Knows.known (g.H.Desk.shared c.args.host.now))).number n (g.met.H.W.Grace.idle_at_rest (g.H.Desk.shared c.args.host.now) d n h)
