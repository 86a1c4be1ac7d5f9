use Rattle.std.proofs.Common.{◌≡◌, ◌≤◌, ◌<◌, ◌∙◌, [], ℕ, Some, sym, subst, ap}
use Rattle.bm_journal.specs.declared.ids.Domain.TheVariants.{Tracing}
use Rattle.bm_grace.specs.Answers.{Answers, number_in}
use Rattle.bm_grace.specs.declared.answer.Done.{Done}
use Rattle.bm_law.specs.State.{seen}
use Rattle.bm_cache.specs.Shown.{shown}
use Rattle.bm_cache.specs.Tokens.{number_of}
use Rattle.bm_cache.specs.declared.caches.Caches.{Caches}
use Rattle.bm_law_work.specs.Parts.{Part, Say}
use Rattle.bm_law_work.specs.WorkPhrases.{IsReturn}
use Rattle.bm_work.specs.Periods.{Sees}
use Rattle.bm_work.specs.Stops.{Missing, PassSecond, SecondStop}
use Rattle.bm_work.specs.Works.{Works}
use Rattle.bm_work.proofs.Passings.{pass-not, pass-stop, pass-yes}
use Rattle.bm_work.proofs.Sides.{on-err, on-ok, posted-stopped, posted-works, works-join-at, works-map-at, works-stopped-at}
use Rattle.bm_work.proofs.stages.pass_second.Goals as goal

pub poll-requires-clause-batch : goal.poll-requires-clause-batch
poll-requires-clause-batch g c m =
    ap (λ (z : Caches g.row.R.Denot). ((shown z).rows c.args.class).deferred.tracing) c.batch_stamp.ensures.same ∙ sym c.batch_stamp.ensures.stamp ∙ c.in-Some.is

pub returns-in-Passed-clause-ok : goal.returns-in-Passed-clause-ok
returns-in-Passed-clause-ok g c =
    let j = g.met.H.Desk.stays_join in
    let a = c.args.host.now in
    let b = c.batch_stamp.new.host in
    let x = c.poll.new.host in
    let y = c.return_second.new.host in
    let i = c.args.class in
    let n = c.in-Passed._seen in
    let m = c.in-Some.stamp in
    let W : ℕ → Part = λ l. PassSecond l i in
    let qb : ((shown (g.H.Host.held b)).rows i).deferred.tracing ≡ Some m = ap (λ (z : Caches g.row.R.Denot). ((shown z).rows i).deferred.tracing) c.batch_stamp.ensures.same ∙ sym c.batch_stamp.ensures.stamp ∙ c.in-Some.is in
    let N : Done → Type 0 = λ o. Works g.R.Recorder.log g.H.Host.face g.H.Host.pending g.H.Desk.stays g.H.Host.held (λ h. g.H.W.Knows.known (g.H.Desk.shared h)) 0 1 (λ l. Say l (Sees i Tracing (number_in o))) b x in
    let A : Done → Type 0 = λ o. Answers o m in
    let h : m ≤ n = subst A c.in-Passed.is c.poll.ensures.answer in
    on-ok c.return_second.result (λ w. posted-works g.R.Recorder.log g.R.Recorder.counts g.H.Host.face g.H.Host.pending g.H.Desk.stays g.H.Host.held (λ h. g.H.W.Knows.known (g.H.Desk.shared h)) g.H.Host.tests j [] 0 1 W a b y c.requires.stands.fine.placed c.batch_stamp.ensures.stands.fine.placed c.batch_stamp.ensures.posted
    (works-join-at g.R.Recorder.log g.R.Recorder.counts g.H.Host.face g.H.Host.pending g.H.Desk.stays g.H.Host.held (λ h. g.H.W.Knows.known (g.H.Desk.shared h)) j 0 1 0 0 (λ l. Say l (Sees i Tracing n)) (λ l. Say l (IsReturn i)) W b x y (λ l one two p q. pass-yes l i Tracing n m (Say l (IsReturn i)) ((shown (g.H.Host.held b)).rows i).deferred.tracing (seen number_of (shown (g.H.Host.held b))) one two qb h p q) c.batch_stamp.ensures.stands.fine.placed c.poll.ensures.stands.fine.placed (subst N c.in-Passed.is c.poll.ensures.works) w)) c.return_second.ensures.ok

pub returns-in-Passed-clause-err : goal.returns-in-Passed-clause-err
returns-in-Passed-clause-err g c =
    let a = c.args.host.now in
    let b = c.batch_stamp.new.host in
    let x = c.poll.new.host in
    let y = c.return_second.new.host in
    let i = c.args.class in
    let n = c.in-Passed._seen in
    let m = c.in-Some.stamp in
    let W : ℕ → Part = λ l. SecondStop l i in
    let qb : ((shown (g.H.Host.held b)).rows i).deferred.tracing ≡ Some m = ap (λ (z : Caches g.row.R.Denot). ((shown z).rows i).deferred.tracing) c.batch_stamp.ensures.same ∙ sym c.batch_stamp.ensures.stamp ∙ c.in-Some.is in
    let N : Done → Type 0 = λ o. Works g.R.Recorder.log g.H.Host.face g.H.Host.pending g.H.Desk.stays g.H.Host.held (λ h. g.H.W.Knows.known (g.H.Desk.shared h)) 0 1 (λ l. Say l (Sees i Tracing (number_in o))) b x in
    let A : Done → Type 0 = λ o. Answers o m in
    let h : m ≤ n = subst A c.in-Passed.is c.poll.ensures.answer in
    on-err c.return_second.result (λ w. posted-stopped g.R.Recorder.log g.R.Recorder.counts g.H.Host.face g.H.Host.pending g.H.Desk.stays g.H.Host.held (λ h. g.H.W.Knows.known (g.H.Desk.shared h)) g.H.Host.tests g.met.H.Desk.stays_join [] W a b y c.requires.stands.fine.placed c.batch_stamp.ensures.stands.fine.placed c.batch_stamp.ensures.posted
    (works-stopped-at g.R.Recorder.log g.R.Recorder.counts g.H.Host.face g.H.Host.pending g.H.Desk.stays g.H.Host.held (λ h. g.H.W.Knows.known (g.H.Desk.shared h)) 0 1 (λ l. Say l (Sees i Tracing n)) (λ l. Missing l) W b x y (λ l one two p q. pass-stop l i Tracing n m ((shown (g.H.Host.held b)).rows i).deferred.tracing (seen number_of (shown (g.H.Host.held b))) one two qb h p q) c.batch_stamp.ensures.stands.fine.placed c.poll.ensures.stands.fine.placed (subst N c.in-Passed.is c.poll.ensures.works) w)) c.return_second.ensures.err

pub returns-in-NotYet-clause-ok : goal.returns-in-NotYet-clause-ok
returns-in-NotYet-clause-ok g c =
    let j = g.met.H.Desk.stays_join in
    let a = c.args.host.now in
    let b = c.batch_stamp.new.host in
    let x = c.poll.new.host in
    let i = c.args.class in
    let n = c.in-NotYet._seen in
    let m = c.in-Some.stamp in
    let W : ℕ → Part = λ l. PassSecond l i in
    let qb : ((shown (g.H.Host.held b)).rows i).deferred.tracing ≡ Some m = ap (λ (z : Caches g.row.R.Denot). ((shown z).rows i).deferred.tracing) c.batch_stamp.ensures.same ∙ sym c.batch_stamp.ensures.stamp ∙ c.in-Some.is in
    let N : Done → Type 0 = λ o. Works g.R.Recorder.log g.H.Host.face g.H.Host.pending g.H.Desk.stays g.H.Host.held (λ h. g.H.W.Knows.known (g.H.Desk.shared h)) 0 1 (λ l. Say l (Sees i Tracing (number_in o))) b x in
    let A : Done → Type 0 = λ o. Answers o m in
    let h : n < m = subst A c.in-NotYet.is c.poll.ensures.answer in
    posted-works g.R.Recorder.log g.R.Recorder.counts g.H.Host.face g.H.Host.pending g.H.Desk.stays g.H.Host.held (λ h. g.H.W.Knows.known (g.H.Desk.shared h)) g.H.Host.tests j [] 0 1 W a b x c.requires.stands.fine.placed c.batch_stamp.ensures.stands.fine.placed c.batch_stamp.ensures.posted
    (works-map-at g.R.Recorder.log g.H.Host.face g.H.Host.pending g.H.Desk.stays g.H.Host.held (λ h. g.H.W.Knows.known (g.H.Desk.shared h)) 0 1 (λ l. Say l (Sees i Tracing n)) W b x (λ l part p. pass-not l i Tracing n m (Say l (IsReturn i)) ((shown (g.H.Host.held b)).rows i).deferred.tracing (seen number_of (shown (g.H.Host.held b))) part qb h p) (subst N c.in-NotYet.is c.poll.ensures.works))
