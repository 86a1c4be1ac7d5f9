use Rattle.bm_law_scenario.specs.Closing.{AreSweeps}
use Rattle.bm_law.proofs.Alone.{Alone-join}
use Rattle.bm_work_lists.proofs.Grown.{grew-then}
use Rattle.bm_work.proofs.Sides.{on-err}
use Rattle.bm_closing.specs.EndsBegun.{EndsBegun}
use Rattle.bm_closing.proofs.AtEnds.{when-ok, with-ok}
use Rattle.bm_closing.proofs.Closes.{closes-join}
use Rattle.bm_closing.proofs.Classes.{told-behind}
use Rattle.bm_closing.proofs.whole.close.Goals as goal

pub returns-clause-closes : goal.returns-clause-closes
returns-clause-closes g c =
    let a = c.args.host.now in
    let b = c.end_periods.new.host in
    let d = c.sweep_each.new.host in
    let N = λ (h : g.row.H.Denot). g.H.W.Knows.known (g.H.Desk.shared h) in
    let held = g.H.Host.held in
    let r = c.sweep_each.result in
    let e = c.end_periods.ensures in
    with-ok r _ (λ o. told-behind g.R.Recorder.log g.R.Recorder.counts (EndsBegun (N a)) c.args.classes.now (held a) (held b) (g.R.Recorder.log (held d).recorder) (N a).parcels (N b).parcels e.parcels e.processor c.requires.at_end.fine.placed e.at_end.fine.placed e.ends (when-ok r _ o c.sweep_each.ensures.sweeps).told)

pub returns-clause-sweeps : goal.returns-clause-sweeps
returns-clause-sweeps g c =
    let a = c.args.host.now in
    let b = c.end_periods.new.host in
    let d = c.sweep_each.new.host in
    let N = λ (h : g.row.H.Denot). g.H.W.Knows.known (g.H.Desk.shared h) in
    let held = g.H.Host.held in
    let r = c.sweep_each.result in
    let e = c.end_periods.ensures in
    with-ok r _ (λ o. grew-then g.R.Recorder.log g.R.Recorder.counts (EndsBegun (N a)) (AreSweeps c.args.classes.now) (held a) (held b) (g.R.Recorder.log (held d).recorder) e.processor c.requires.at_end.fine.placed e.at_end.fine.placed e.ends (when-ok r _ o c.sweep_each.ensures.sweeps).sweeps)

pub returns-clause-alone : goal.returns-clause-alone
returns-clause-alone g c =
    let held = g.H.Host.held in
    let L = λ (h : g.row.H.Denot). g.R.Recorder.log (held h).recorder in
    let r = c.sweep_each.result in
    with-ok r _ (λ o. Alone-join 0 (L c.args.host.now) (L c.end_periods.new.host) (L c.sweep_each.new.host) c.end_periods.ensures.alone (when-ok r _ o c.sweep_each.ensures.sweeps).alone)

pub sweep_each-requires-clause-rest : goal.sweep_each-requires-clause-rest
sweep_each-requires-clause-rest g c d =
    let r = c.requires.rest d in
    (_, (c.end_periods.ensures.rest d r.0 r.1.0, r.1.1))

pub returns-clause-does : goal.returns-clause-does
returns-clause-does g c =
    let shared = g.H.Desk.shared in
    let r = c.sweep_each.result in
    with-ok r _ (λ o. closes-join g.H.W.Knows.does g.H.W.Knows.does_join (shared c.args.host.now) (shared c.end_periods.new.host) (shared c.sweep_each.new.host) c.end_periods.ensures.does (when-ok r _ o c.sweep_each.ensures.does))

pub end_periods-requires-clause-rest : goal.end_periods-requires-clause-rest
end_periods-requires-clause-rest g c d = let r = c.requires.rest d in (r.0, r.1.0)

pub returns-clause-memory : goal.returns-clause-memory
returns-clause-memory g c =
    let e = c.end_periods.ensures in
    on-err c.sweep_each.result (λ s. record { middle = c.end_periods.new.host; ends = e.ends; alone = e.alone; lists = e.lists; stops = s }) c.sweep_each.ensures.memory
