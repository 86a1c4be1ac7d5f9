use Rattle.std.proofs.Common.{ℕ}
use Rattle.bm_journal.specs.declared.entry.Entry.TheVariants as entry
use Rattle.bm_law_work.specs.Parts.{Part, Say}
use Rattle.bm_law_work.specs.WorkPhrases.{Balance, BalanceAt, IsOne}
use Rattle.bm_work.specs.Stops.{BalanceStop, StopAt}
use Rattle.bm_work.proofs.Sides.{on-err, on-ok, works-join, works-stopped}
use Rattle.bm_work.proofs.Thens.{then-of}
use Rattle.bm_work.proofs.deferred.balance.Goals as goal

pub returns-clause-ok : goal.returns-clause-ok
returns-clause-ok g c =
    let i = c.args.class in
    let n = c.read_free-count.result in
    let P : ℕ → Part = λ l. Say l (IsOne (entry.Read i n)) in
    on-ok c.balance_at.result (λ w. works-join g.R.Recorder.log g.R.Recorder.counts g.H.Host.face g.H.Host.pending g.H.Desk.stays g.H.Host.held (λ h. g.H.W.Knows.known (g.H.Desk.shared h)) g.met.H.Desk.stays_join 0 0 0 0 P (λ l. BalanceAt l i n) (λ l. Balance l i) c.args.host.now c.read_free-count.new.host c.balance_at.new.host (λ l s one two p q. (n, then-of (P l) (BalanceAt l i n) s one two p q)) c.requires.stands.fine.placed c.read_free-count.ensures.stands.fine.placed c.read_free-count.ensures.works w) c.balance_at.ensures.ok

pub returns-clause-err : goal.returns-clause-err
returns-clause-err g c =
    let i = c.args.class in
    let n = c.read_free-count.result in
    let P : ℕ → Part = λ l. Say l (IsOne (entry.Read i n)) in
    on-err c.balance_at.result (λ w. works-stopped g.R.Recorder.log g.R.Recorder.counts g.H.Host.face g.H.Host.pending g.H.Desk.stays g.H.Host.held (λ h. g.H.W.Knows.known (g.H.Desk.shared h)) 0 0 P (λ l. StopAt l i n) (λ l. BalanceStop l i) c.args.host.now c.read_free-count.new.host c.balance_at.new.host (λ l s one two p q. (n, then-of (P l) (StopAt l i n) s one two p q)) c.requires.stands.fine.placed c.read_free-count.ensures.stands.fine.placed c.read_free-count.ensures.works w) c.balance_at.ensures.err
