use Rattle.std.proofs.Common.{ℕ, inl, inr, arith}
use Rattle.bm_journal.specs.declared.entry.Entry.TheVariants as entry
use Rattle.bm_law_work.specs.Parts.{Part, Say, Then}
use Rattle.bm_law_work.specs.WorkPhrases.{Balance, FirstStage, IsOne, Receive, SecondStage}
use Rattle.bm_work.specs.Stops.{BalanceStop, FirstStop, Or, SecondStop, WorkStop}
use Rattle.bm_work.proofs.Sides.{flag-down, on-err, on-err-any, on-ok, works-stopped, works-then}
use Rattle.bm_work.proofs.Thens.{then-of}
use Rattle.bm_work.proofs.deferred.work_through.Goals as goal

pub returns-clause-ok : goal.returns-clause-ok
returns-clause-ok g c =
    let j = g.met.H.Desk.stays_join in
    let i = c.args.class in
    let a = c.args.host.now in
    let b = c.lower_flag.new.host in
    let x = c.receive_up_to.new.host in
    let y = c.balance.new.host in
    let W : ℕ → Part = λ l. Say l (IsOne (entry.Work i)) in
    let R : ℕ → Part = λ l. Receive l i 64 in
    let B : ℕ → Part = λ l. Balance l i in
    let F : ℕ → Part = λ l. FirstStage l i in
    let S : ℕ → Part = λ l. SecondStage l i in
    let O2 : ℕ → Part = λ l. Then (F l) (SecondStop l i) in
    let O1 : ℕ → Part = λ l. Or (FirstStop l i) (O2 l) in
    let O : ℕ → Part = λ l. Or (BalanceStop l i) (Then (B l) (O1 l)) in
    let z = c.first_stage.new.host in
    let v = c.second_stage.new.host in
    let px = c.receive_up_to.ensures.stands.fine.placed in
    let pb = c.lower_flag.ensures.stands.fine.placed in
    let py = c.in_ok-balance.ensures.back.fine.placed in
    let pz = c.in_ok-first_stage.ensures.back.fine.placed in
    on-ok c.second_stage.result (λ w.
    works-then g.R.Recorder.log g.R.Recorder.counts g.H.Host.face g.H.Host.pending g.H.Desk.stays g.H.Host.held (λ h. g.H.W.Knows.known (g.H.Desk.shared h)) j 0 0 1 1 W (λ l. Then (R l) (Then (B l) (Then (F l) (S l)))) a b v c.requires.stands.fine.placed pb c.lower_flag.ensures.works
    (works-then g.R.Recorder.log g.R.Recorder.counts g.H.Host.face g.H.Host.pending g.H.Desk.stays g.H.Host.held (λ h. g.H.W.Knows.known (g.H.Desk.shared h)) j 0 0 1 1 R (λ l. Then (B l) (Then (F l) (S l))) b x v pb px c.receive_up_to.ensures.works
    (works-then g.R.Recorder.log g.R.Recorder.counts g.H.Host.face g.H.Host.pending g.H.Desk.stays g.H.Host.held (λ h. g.H.W.Knows.known (g.H.Desk.shared h)) j 0 0 1 1 B (λ l. Then (F l) (S l)) x y v px py c.in_ok-balance.ensures.ok
    (works-then g.R.Recorder.log g.R.Recorder.counts g.H.Host.face g.H.Host.pending g.H.Desk.stays g.H.Host.held (λ h. g.H.W.Knows.known (g.H.Desk.shared h)) j 1 0 0 1 F S y z v py pz c.in_ok-first_stage.ensures.ok w)))) c.second_stage.ensures.ok

pub returns-in_err-balance-clause-err : goal.returns-in_err-balance-clause-err
returns-in_err-balance-clause-err g c =
    let j = g.met.H.Desk.stays_join in
    let i = c.args.class in
    let a = c.args.host.now in
    let b = c.lower_flag.new.host in
    let x = c.receive_up_to.new.host in
    let y = c.balance.new.host in
    let W : ℕ → Part = λ l. Say l (IsOne (entry.Work i)) in
    let R : ℕ → Part = λ l. Receive l i 64 in
    let B : ℕ → Part = λ l. Balance l i in
    let F : ℕ → Part = λ l. FirstStage l i in
    let S : ℕ → Part = λ l. SecondStage l i in
    let O2 : ℕ → Part = λ l. Then (F l) (SecondStop l i) in
    let O1 : ℕ → Part = λ l. Or (FirstStop l i) (O2 l) in
    let O : ℕ → Part = λ l. Or (BalanceStop l i) (Then (B l) (O1 l)) in
    let px = c.receive_up_to.ensures.stands.fine.placed in
    let pb = c.lower_flag.ensures.stands.fine.placed in
    on-err-any c.from_residual.result (works-stopped g.R.Recorder.log g.R.Recorder.counts g.H.Host.face g.H.Host.pending g.H.Desk.stays g.H.Host.held (λ h. g.H.W.Knows.known (g.H.Desk.shared h)) 0 0 W (λ l. Then (R l) (O l)) (λ l. WorkStop l i) a b y (λ l s one two p q. then-of (W l) (Then (R l) (O l)) s one two p q) c.requires.stands.fine.placed pb c.lower_flag.ensures.works
    (works-stopped g.R.Recorder.log g.R.Recorder.counts g.H.Host.face g.H.Host.pending g.H.Desk.stays g.H.Host.held (λ h. g.H.W.Knows.known (g.H.Desk.shared h)) 0 0 R (λ l. BalanceStop l i) (λ l. Then (R l) (O l)) b x y (λ l s one two p q. then-of (R l) (O l) s one two p (inl q)) pb px c.receive_up_to.ensures.works c.in_err-balance.ensures.err))

pub returns-in_err-first_stage-clause-err : goal.returns-in_err-first_stage-clause-err
returns-in_err-first_stage-clause-err g c =
    let j = g.met.H.Desk.stays_join in
    let i = c.args.class in
    let a = c.args.host.now in
    let b = c.lower_flag.new.host in
    let x = c.receive_up_to.new.host in
    let y = c.balance.new.host in
    let W : ℕ → Part = λ l. Say l (IsOne (entry.Work i)) in
    let R : ℕ → Part = λ l. Receive l i 64 in
    let B : ℕ → Part = λ l. Balance l i in
    let F : ℕ → Part = λ l. FirstStage l i in
    let S : ℕ → Part = λ l. SecondStage l i in
    let O2 : ℕ → Part = λ l. Then (F l) (SecondStop l i) in
    let O1 : ℕ → Part = λ l. Or (FirstStop l i) (O2 l) in
    let O : ℕ → Part = λ l. Or (BalanceStop l i) (Then (B l) (O1 l)) in
    let z = c.first_stage.new.host in
    let px = c.receive_up_to.ensures.stands.fine.placed in
    let pb = c.lower_flag.ensures.stands.fine.placed in
    let py = c.in_ok-balance.ensures.back.fine.placed in
    on-err-any c.from_residual-in_err-first_stage.result (works-stopped g.R.Recorder.log g.R.Recorder.counts g.H.Host.face g.H.Host.pending g.H.Desk.stays g.H.Host.held (λ h. g.H.W.Knows.known (g.H.Desk.shared h)) 0 0 W (λ l. Then (R l) (O l)) (λ l. WorkStop l i) a b z (λ l s one two p q. then-of (W l) (Then (R l) (O l)) s one two p q) c.requires.stands.fine.placed pb c.lower_flag.ensures.works
    (works-stopped g.R.Recorder.log g.R.Recorder.counts g.H.Host.face g.H.Host.pending g.H.Desk.stays g.H.Host.held (λ h. g.H.W.Knows.known (g.H.Desk.shared h)) 0 0 R (λ l. Then (B l) (O1 l)) (λ l. Then (R l) (O l)) b x z (λ l s one two p q. then-of (R l) (O l) s one two p (inr q)) pb px c.receive_up_to.ensures.works
    (works-stopped g.R.Recorder.log g.R.Recorder.counts g.H.Host.face g.H.Host.pending g.H.Desk.stays g.H.Host.held (λ h. g.H.W.Knows.known (g.H.Desk.shared h)) 0 0 B (λ l. FirstStop l i) (λ l. Then (B l) (O1 l)) x y z (λ l s one two p q. then-of (B l) (O1 l) s one two p (inl q)) px py c.in_ok-balance.ensures.ok c.in_err-first_stage.ensures.err)))

pub returns-clause-err : goal.returns-clause-err
returns-clause-err g c =
    let j = g.met.H.Desk.stays_join in
    let i = c.args.class in
    let a = c.args.host.now in
    let b = c.lower_flag.new.host in
    let x = c.receive_up_to.new.host in
    let y = c.balance.new.host in
    let W : ℕ → Part = λ l. Say l (IsOne (entry.Work i)) in
    let R : ℕ → Part = λ l. Receive l i 64 in
    let B : ℕ → Part = λ l. Balance l i in
    let F : ℕ → Part = λ l. FirstStage l i in
    let S : ℕ → Part = λ l. SecondStage l i in
    let O2 : ℕ → Part = λ l. Then (F l) (SecondStop l i) in
    let O1 : ℕ → Part = λ l. Or (FirstStop l i) (O2 l) in
    let O : ℕ → Part = λ l. Or (BalanceStop l i) (Then (B l) (O1 l)) in
    let z = c.first_stage.new.host in
    let v = c.second_stage.new.host in
    let px = c.receive_up_to.ensures.stands.fine.placed in
    let pb = c.lower_flag.ensures.stands.fine.placed in
    let py = c.in_ok-balance.ensures.back.fine.placed in
    let pz = c.in_ok-first_stage.ensures.back.fine.placed in
    on-err c.second_stage.result (λ w.
    works-stopped g.R.Recorder.log g.R.Recorder.counts g.H.Host.face g.H.Host.pending g.H.Desk.stays g.H.Host.held (λ h. g.H.W.Knows.known (g.H.Desk.shared h)) 0 0 W (λ l. Then (R l) (O l)) (λ l. WorkStop l i) a b v (λ l s one two p q. then-of (W l) (Then (R l) (O l)) s one two p q) c.requires.stands.fine.placed pb c.lower_flag.ensures.works
    (works-stopped g.R.Recorder.log g.R.Recorder.counts g.H.Host.face g.H.Host.pending g.H.Desk.stays g.H.Host.held (λ h. g.H.W.Knows.known (g.H.Desk.shared h)) 0 0 R (λ l. Then (B l) (O1 l)) (λ l. Then (R l) (O l)) b x v (λ l s one two p q. then-of (R l) (O l) s one two p (inr q)) pb px c.receive_up_to.ensures.works
    (works-stopped g.R.Recorder.log g.R.Recorder.counts g.H.Host.face g.H.Host.pending g.H.Desk.stays g.H.Host.held (λ h. g.H.W.Knows.known (g.H.Desk.shared h)) 0 0 B O2 (λ l. Then (B l) (O1 l)) x y v (λ l s one two p q. then-of (B l) (O1 l) s one two p (inr q)) px py c.in_ok-balance.ensures.ok
    (works-stopped g.R.Recorder.log g.R.Recorder.counts g.H.Host.face g.H.Host.pending g.H.Desk.stays g.H.Host.held (λ h. g.H.W.Knows.known (g.H.Desk.shared h)) 1 0 F (λ l. SecondStop l i) O2 y z v (λ l s one two p q. then-of (F l) (SecondStop l i) s one two p q) py pz c.in_ok-first_stage.ensures.ok w)))) c.second_stage.ensures.err

pub returns-clause-lowered : goal.returns-clause-lowered
returns-clause-lowered g c =
    let i = c.args.class in
    let a = c.lower_flag.ensures.works in
    let x = c.receive_up_to.ensures.works in
    let y = c.in_ok-balance.ensures.ok in
    let z = c.in_ok-first_stage.ensures.ok in
    on-ok c.second_stage.result (λ w h.
    (let down = flag-down i x.flags (omega (arith, h, a.goes.pending, x.goes.pending, y.goes.pending, z.goes.pending, w.goes.pending)) c.lower_flag.ensures.lowered in
    let balanced = flag-down i y.flags (omega (arith, h, a.goes.pending, x.goes.pending, y.goes.pending, z.goes.pending, w.goes.pending)) down in
    let staged = flag-down i z.flags (omega (arith, h, a.goes.pending, x.goes.pending, y.goes.pending, z.goes.pending, w.goes.pending)) balanced in
    flag-down i w.flags (omega (arith, h, a.goes.pending, x.goes.pending, y.goes.pending, z.goes.pending, w.goes.pending)) staged)) c.second_stage.ensures.ok
