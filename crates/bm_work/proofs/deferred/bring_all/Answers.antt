use Rattle.bm_law_work.specs.WorkPhrases.{Refill}
use Rattle.bm_work_lists.specs.FromLists.{Fetched, FromLists}
use Rattle.bm_work_lists.proofs.FromLists.{from-whole}
use Rattle.bm_work.specs.Stops.{Missing, RefillStop}
use Rattle.bm_work.proofs.Sides.{on-err-both, on-ok, stopped-of, works-join, works-stopped}
use Rattle.bm_work.proofs.Thens.{then-of}
use Rattle.bm_work.proofs.deferred.bring_all.Goals as goal

pub returns-clause-ok : goal.returns-clause-ok
returns-clause-ok g c =
    let i = c.args.class in
    let n = c.args.want in
    let m = c.refill-left.result in
    on-ok c.fetch_rest.result (λ w. works-join g.R.Recorder.log g.R.Recorder.counts g.H.Host.face g.H.Host.pending g.H.Desk.stays g.H.Host.held (λ h. g.H.W.Knows.known (g.H.Desk.shared h)) g.met.H.Desk.stays_join 0 0 0 0 (λ l. FromLists l i n m) (λ l. Fetched l i m) (λ l. Refill l i n) c.args.host.now c.refill-left.new.host c.fetch_rest.new.host (λ l s one two p q. from-whole l i n m s one two p q) c.requires.stands.fine.placed c.refill-left.ensures.stands.fine.placed c.refill-left.ensures.works w) c.fetch_rest.ensures.ok

pub returns-clause-err : goal.returns-clause-err
returns-clause-err g c =
    let i = c.args.class in
    let n = c.args.want in
    let m = c.refill-left.result in
    let b = c.refill-left.new.host in
    let y = c.fetch_rest.new.host in
    on-err-both c.fetch_rest.result (λ w h. works-stopped g.R.Recorder.log g.R.Recorder.counts g.H.Host.face g.H.Host.pending g.H.Desk.stays g.H.Host.held (λ h. g.H.W.Knows.known (g.H.Desk.shared h)) 0 0 (λ l. FromLists l i n m) (λ l. Missing l) (λ l. RefillStop l i n) c.args.host.now b y (λ l s one two p q. (m, h, then-of (FromLists l i n m) (Missing l) s one two p q)) c.requires.stands.fine.placed c.refill-left.ensures.stands.fine.placed c.refill-left.ensures.works (stopped-of g.R.Recorder.log g.R.Recorder.counts g.H.Host.face g.H.Host.pending g.H.Desk.stays g.H.Host.held (λ h. g.H.W.Knows.known (g.H.Desk.shared h)) 0 0 (λ l. Missing l) b y w c.fetch_rest.ensures.placed)) c.fetch_rest.ensures.err c.fetch_rest.ensures.wanted
