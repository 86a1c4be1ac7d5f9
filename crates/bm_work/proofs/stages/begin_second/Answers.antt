use Rattle.std.proofs.Common.{◌≡◌, ◌∙◌, ℕ, true, sym}
use Rattle.bm_journal.specs.declared.ids.Domain.TheVariants.{Tracing}
use Rattle.bm_law.specs.State.{seen}
use Rattle.bm_cache.specs.Shown.{shown}
use Rattle.bm_cache.specs.Tokens.{number_of}
use Rattle.bm_law_work.specs.Parts.{Part, Say, Then, When}
use Rattle.bm_law_work.specs.WorkPhrases.{IsSecond, IsStamp, may_begin}
use Rattle.bm_work.specs.Stops.{BeginSecond}
use Rattle.bm_work.proofs.Sides.{works-join-at}
use Rattle.bm_work.proofs.Thens.{then-of, true-when, when-true}
use Rattle.bm_work.proofs.stages.begin_second.Goals as goal

pub returns-then-begin_batch-clause-works : goal.returns-then-begin_batch-clause-works
returns-then-begin_batch-clause-works g c =
    let j = g.met.H.Desk.stays_join in
    let i = c.args.class in
    let a = c.args.host.now in
    let b = c.begin_batch.new.host in
    let y = c.stamp_batch.new.host in
    let sa = seen number_of (shown (g.H.Host.held a)) in
    let A : ℕ → Part = λ l. Say l (IsSecond i) in
    let X : ℕ → Part = λ l. Say l (IsStamp i Tracing) in
    let e : may_begin i sa ≡ true = sym c.begin_batch.ensures.answer ∙ c.if-begin_batch.true in
    works-join-at g.R.Recorder.log g.R.Recorder.counts g.H.Host.face g.H.Host.pending g.H.Desk.stays g.H.Host.held (λ h. g.H.W.Knows.known (g.H.Desk.shared h)) j 0 0 0 0 (λ l. When (may_begin i) (A l)) X (λ l. BeginSecond l i) a b y (λ l one two p q. when-true (may_begin i) (Then (A l) (X l)) sa _ e (then-of (A l) (X l) sa one two (true-when (may_begin i) (A l) sa one e p) q)) c.requires.stands.fine.placed c.begin_batch.ensures.stands.fine.placed c.begin_batch.ensures.works c.stamp_batch.ensures.works
