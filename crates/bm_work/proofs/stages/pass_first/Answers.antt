use Rattle.std.proofs.Common.{◌≡◌, ◌≤◌, ◌<◌, ◌-◌, ◌∙◌, [], ℕ, suc, List, Some, length, sym, subst, ap, arith}
use Rattle.std.specs.List.{All}
use Rattle.bm_journal.specs.declared.ids.Domain.TheVariants.{Plain}
use Rattle.bm_grace.specs.Answers.{Answers, number_in}
use Rattle.bm_grace.specs.declared.answer.Done.{Done}
use Rattle.bm_grace.specs.declared.answer.Done.TheVariants.{Passed}
use Rattle.bm_law.specs.State.{Deferred, seen}
use Rattle.bm_cache.specs.Shown.{shown}
use Rattle.bm_cache.specs.Tests.{Passes}
use Rattle.bm_cache.specs.Tokens.{Token, number_of}
use Rattle.bm_cache.specs.declared.caches.Caches.{Caches}
use Rattle.bm_law_work.specs.Parts.{Part, Say}
use Rattle.bm_law_work.specs.WorkPhrases.{IsSend}
use Rattle.bm_work.specs.DeskTests.{Ripened, ripe_test}
use Rattle.bm_work.specs.Periods.{Sees}
use Rattle.bm_work.specs.Rested.{LastIs}
use Rattle.bm_journal.specs.declared.entry.Entry.TheVariants as entry
use Rattle.bm_cache.specs.Span.{Face}
use Rattle.bm_work.specs.Stops.{FirstStop, Missing, PassFirst}
use Rattle.bm_work.specs.Works.{Works}
use Rattle.bm_work.proofs.Passings.{batch-ripe, pass-not, pass-stop, pass-yes, stamp-some}
use Rattle.bm_work.proofs.Sides.{on-err, on-ok, posted-stopped, posted-works, works-join-at, works-map-at, works-stopped-at}
use Rattle.bm_work.proofs.stages.pass_first.Goals as goal

pub poll-requires-clause-batch : goal.poll-requires-clause-batch
poll-requires-clause-batch g c m =
    ap (λ (z : Caches g.row.R.Denot). ((shown z).rows c.args.class).deferred.plain) c.batch_stamp.ensures.same ∙ sym c.batch_stamp.ensures.stamp ∙ c.in-Some.is

pub send_first-requires-clause-ripe : goal.send_first-requires-clause-ripe
send_first-requires-clause-ripe g c =
    let a = c.args.host.now in
    let b = c.batch_stamp.new.host in
    let x = c.poll.new.host in
    let i = c.args.class in
    let T = g.H.Host.tests in
    let n = c.in-Passed.seen in
    let m = c.in-Some.stamp in
    let k : ℕ = m - 1 in
    let sb = shown (g.H.Host.held b) in
    let sx = shown (g.H.Host.held x) in
    let qa : ((shown (g.H.Host.held a)).rows i).deferred.plain ≡ Some m = sym c.batch_stamp.ensures.stamp ∙ c.in-Some.is in
    let e : m ≡ suc k = stamp-some ((shown (g.H.Host.held a)).rows i).deferred.plain m qa c.requires.stamped in
    let qb : (sb.rows i).deferred.plain ≡ Some (suc k) = ap (λ (z : Caches g.row.R.Denot). ((shown z).rows i).deferred.plain) c.batch_stamp.ensures.same ∙ qa ∙ ap (λ z. Some z) e in
    let us = (sx.rows i).deferred.first in
    let vs = (sb.rows i).deferred.first in
    let R : ℕ → Done → Type 0 = λ z o. All (Ripened (T b) (T x) Plain z o) vs in
    let r : R (suc k) (Passed n) = subst (λ z. R z (Passed n)) e (subst (R m) c.in-Passed.is (c.poll.ensures.ripe i).0) in
    let F : ℕ → Type 0 = λ z. All (Passes (T x) (ripe_test Plain z n)) us in
    subst F (sym e) (batch-ripe (T b) (T x) i k n sb us (ap (λ (z : Deferred Token). z.first) (c.poll.ensures.deferred i)) qb c.batch_stamp.ensures.stands.fine.proper c.batch_stamp.ensures.stands.dated r)

pub send_first-requires-clause-some : goal.send_first-requires-clause-some
send_first-requires-clause-some g c =
    let a = c.args.host.now in
    let b = c.batch_stamp.new.host in
    let i = c.args.class in
    let m = c.in-Some.stamp in
    let qa : ((shown (g.H.Host.held a)).rows i).deferred.plain ≡ Some m = sym c.batch_stamp.ensures.stamp ∙ c.in-Some.is in
    let qb : ((shown (g.H.Host.held b)).rows i).deferred.plain ≡ Some m = ap (λ (z : Caches g.row.R.Denot). ((shown z).rows i).deferred.plain) c.batch_stamp.ensures.same ∙ qa in
    let F : List Token → Type 0 = λ z. 0 < length z in
    subst F (sym (ap (λ (z : Deferred Token). z.first) (c.poll.ensures.deferred i))) ((c.batch_stamp.ensures.stands.dated i).some m qb)

pub send_first-requires-clause-stamped : goal.send_first-requires-clause-stamped
send_first-requires-clause-stamped g c =
    ap (λ (z : Deferred Token). z.plain) (c.poll.ensures.deferred c.args.class) ∙ ap (λ (z : Caches g.row.R.Denot). ((shown z).rows c.args.class).deferred.plain) c.batch_stamp.ensures.same ∙ sym c.batch_stamp.ensures.stamp ∙ c.in-Some.is

pub send_first-requires-clause-taken : goal.send_first-requires-clause-taken
send_first-requires-clause-taken g c =
    let m = c.in-Some.stamp in
    let k : ℕ = m - 1 in
    let e : m ≡ suc k = stamp-some ((shown (g.H.Host.held c.args.host.now)).rows c.args.class).deferred.plain m (sym c.batch_stamp.ensures.stamp ∙ c.in-Some.is) c.requires.stamped in
    omega (arith, e)

pub send_first-requires-clause-passed : goal.send_first-requires-clause-passed
send_first-requires-clause-passed g c =
    let x = c.poll.new.host in
    let i = c.args.class in
    let face : (g.H.Host.face c.batch_stamp.new.host).level ≡ (g.H.Host.face x).level = sym (ap (λ (f : Face). f.level) c.poll.ensures.works.goes.face) in
    let F : ℕ → Done → Type 0 = λ l o. LastIs g.R.Recorder.log l (entry.Pass i Plain (number_in o)) (g.H.Host.held x) in
    subst (λ l. F l (Passed c.in-Passed.seen)) face (subst (F (g.H.Host.face c.batch_stamp.new.host).level) c.in-Passed.is c.poll.ensures.last)

pub returns-in-Passed-clause-ok : goal.returns-in-Passed-clause-ok
returns-in-Passed-clause-ok g c =
    let j = g.met.H.Desk.stays_join in
    let a = c.args.host.now in
    let b = c.batch_stamp.new.host in
    let x = c.poll.new.host in
    let y = c.send_first.new.host in
    let i = c.args.class in
    let n = c.in-Passed.seen in
    let m = c.in-Some.stamp in
    let W : ℕ → Part = λ l. PassFirst l i in
    let qb : ((shown (g.H.Host.held b)).rows i).deferred.plain ≡ Some m = ap (λ (z : Caches g.row.R.Denot). ((shown z).rows i).deferred.plain) c.batch_stamp.ensures.same ∙ sym c.batch_stamp.ensures.stamp ∙ c.in-Some.is in
    let N : Done → Type 0 = λ o. Works g.R.Recorder.log g.H.Host.face g.H.Host.pending g.H.Desk.stays g.H.Host.held (λ h. g.H.W.Knows.known (g.H.Desk.shared h)) 1 0 (λ l. Say l (Sees i Plain (number_in o))) b x in
    let A : Done → Type 0 = λ o. Answers o m in
    let h : m ≤ n = subst A c.in-Passed.is c.poll.ensures.answer in
    on-ok c.send_first.result (λ w. posted-works g.R.Recorder.log g.R.Recorder.counts g.H.Host.face g.H.Host.pending g.H.Desk.stays g.H.Host.held (λ h. g.H.W.Knows.known (g.H.Desk.shared h)) g.H.Host.tests j [] 1 0 W a b y c.requires.stands.fine.placed c.batch_stamp.ensures.stands.fine.placed c.batch_stamp.ensures.posted
    (works-join-at g.R.Recorder.log g.R.Recorder.counts g.H.Host.face g.H.Host.pending g.H.Desk.stays g.H.Host.held (λ h. g.H.W.Knows.known (g.H.Desk.shared h)) j 1 0 0 0 (λ l. Say l (Sees i Plain n)) (λ l. Say l (IsSend i)) W b x y (λ l one two p q. pass-yes l i Plain n m (Say l (IsSend i)) ((shown (g.H.Host.held b)).rows i).deferred.plain (seen number_of (shown (g.H.Host.held b))) one two qb h p q) c.batch_stamp.ensures.stands.fine.placed c.poll.ensures.stands.fine.placed (subst N c.in-Passed.is c.poll.ensures.works) w)) c.send_first.ensures.ok

pub returns-in-Passed-clause-err : goal.returns-in-Passed-clause-err
returns-in-Passed-clause-err g c =
    let a = c.args.host.now in
    let b = c.batch_stamp.new.host in
    let x = c.poll.new.host in
    let y = c.send_first.new.host in
    let i = c.args.class in
    let n = c.in-Passed.seen in
    let m = c.in-Some.stamp in
    let W : ℕ → Part = λ l. FirstStop l i in
    let qb : ((shown (g.H.Host.held b)).rows i).deferred.plain ≡ Some m = ap (λ (z : Caches g.row.R.Denot). ((shown z).rows i).deferred.plain) c.batch_stamp.ensures.same ∙ sym c.batch_stamp.ensures.stamp ∙ c.in-Some.is in
    let N : Done → Type 0 = λ o. Works g.R.Recorder.log g.H.Host.face g.H.Host.pending g.H.Desk.stays g.H.Host.held (λ h. g.H.W.Knows.known (g.H.Desk.shared h)) 1 0 (λ l. Say l (Sees i Plain (number_in o))) b x in
    let A : Done → Type 0 = λ o. Answers o m in
    let h : m ≤ n = subst A c.in-Passed.is c.poll.ensures.answer in
    on-err c.send_first.result (λ w. posted-stopped g.R.Recorder.log g.R.Recorder.counts g.H.Host.face g.H.Host.pending g.H.Desk.stays g.H.Host.held (λ h. g.H.W.Knows.known (g.H.Desk.shared h)) g.H.Host.tests g.met.H.Desk.stays_join [] W a b y c.requires.stands.fine.placed c.batch_stamp.ensures.stands.fine.placed c.batch_stamp.ensures.posted
    (works-stopped-at g.R.Recorder.log g.R.Recorder.counts g.H.Host.face g.H.Host.pending g.H.Desk.stays g.H.Host.held (λ h. g.H.W.Knows.known (g.H.Desk.shared h)) 1 0 (λ l. Say l (Sees i Plain n)) (λ l. Missing l) W b x y (λ l one two p q. pass-stop l i Plain n m ((shown (g.H.Host.held b)).rows i).deferred.plain (seen number_of (shown (g.H.Host.held b))) one two qb h p q) c.batch_stamp.ensures.stands.fine.placed c.poll.ensures.stands.fine.placed (subst N c.in-Passed.is c.poll.ensures.works) w)) c.send_first.ensures.err

pub returns-in-NotYet-clause-ok : goal.returns-in-NotYet-clause-ok
returns-in-NotYet-clause-ok g c =
    let j = g.met.H.Desk.stays_join in
    let a = c.args.host.now in
    let b = c.batch_stamp.new.host in
    let x = c.poll.new.host in
    let i = c.args.class in
    let n = c.in-NotYet._seen in
    let m = c.in-Some.stamp in
    let W : ℕ → Part = λ l. PassFirst l i in
    let qb : ((shown (g.H.Host.held b)).rows i).deferred.plain ≡ Some m = ap (λ (z : Caches g.row.R.Denot). ((shown z).rows i).deferred.plain) c.batch_stamp.ensures.same ∙ sym c.batch_stamp.ensures.stamp ∙ c.in-Some.is in
    let N : Done → Type 0 = λ o. Works g.R.Recorder.log g.H.Host.face g.H.Host.pending g.H.Desk.stays g.H.Host.held (λ h. g.H.W.Knows.known (g.H.Desk.shared h)) 1 0 (λ l. Say l (Sees i Plain (number_in o))) b x in
    let A : Done → Type 0 = λ o. Answers o m in
    let h : n < m = subst A c.in-NotYet.is c.poll.ensures.answer in
    posted-works g.R.Recorder.log g.R.Recorder.counts g.H.Host.face g.H.Host.pending g.H.Desk.stays g.H.Host.held (λ h. g.H.W.Knows.known (g.H.Desk.shared h)) g.H.Host.tests j [] 1 0 W a b x c.requires.stands.fine.placed c.batch_stamp.ensures.stands.fine.placed c.batch_stamp.ensures.posted
    (works-map-at g.R.Recorder.log g.H.Host.face g.H.Host.pending g.H.Desk.stays g.H.Host.held (λ h. g.H.W.Knows.known (g.H.Desk.shared h)) 1 0 (λ l. Say l (Sees i Plain n)) W b x (λ l part p. pass-not l i Plain n m (Say l (IsSend i)) ((shown (g.H.Host.held b)).rows i).deferred.plain (seen number_of (shown (g.H.Host.held b))) part qb h p) (subst N c.in-NotYet.is c.poll.ensures.works))
