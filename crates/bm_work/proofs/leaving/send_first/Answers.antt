use Rattle.std.proofs.Common.{[], ℕ, ◌∙◌, ap, subst, sym}
use Rattle.bm_journal.specs.declared.ids.Domain.TheVariants.{Plain}
use Rattle.bm_journal.specs.declared.entry.Entry.TheVariants as entry
use Rattle.bm_cache.specs.Span.{Face}
use Rattle.bm_cache.specs.declared.caches.Caches.{Caches}
use Rattle.bm_work.specs.Rested.{LastIs}
use Rattle.bm_law.specs.Lists.{after}
use Rattle.bm_law_work.specs.Parts.{Part, Say, Stand}
use Rattle.bm_law_work.specs.WorkPhrases.{IsSend}
use Rattle.bm_work_lists.proofs.Grown.{say-after}
use Rattle.bm_work.proofs.Sides.{on-ok, posted-works, works-join}
use Rattle.bm_work.proofs.leaving.send_first.Goals as goal

pub returns-clause-ok : goal.returns-clause-ok
returns-clause-ok g c =
    let j = g.met.H.Desk.stays_join in
    let i = c.args.class in
    let a = c.args.host.now in
    let b = c.pause.new.host in
    let x = c.room_for_first.new.host in
    let y = c.send_first_now.new.host in
    let P : ℕ → Part = λ l. Say l (IsSend i) in
    on-ok c.send_first_now.result (λ w. works-join g.R.Recorder.log g.R.Recorder.counts g.H.Host.face g.H.Host.pending g.H.Desk.stays g.H.Host.held (λ h. g.H.W.Knows.known (g.H.Desk.shared h)) j 0 0 0 0 (λ l. Stand l []) P P a b y (λ l s one two h k. say-after l (IsSend i) s (after s one) one two h k) c.requires.stands.fine.placed c.pause.ensures.stands.fine.placed c.pause.ensures.works (posted-works g.R.Recorder.log g.R.Recorder.counts g.H.Host.face g.H.Host.pending g.H.Desk.stays g.H.Host.held (λ h. g.H.W.Knows.known (g.H.Desk.shared h)) g.H.Host.tests j [] 0 0 P b x y c.pause.ensures.stands.fine.placed c.room_for_first.ensures.stands.fine.placed c.room_for_first.ensures.posted w)) c.send_first_now.ensures.ok

pub send_first_now-requires-clause-passed : goal.send_first_now-requires-clause-passed
send_first_now-requires-clause-passed g c =
    let face = ap (λ (f : Face). f.level) (c.room_for_first.ensures.handled.face ∙ c.pause.ensures.works.goes.face) in
    let e = entry.Pass c.args.class Plain c.args.seal.seen in
    let P : ℕ → Caches g.row.R.Denot → Type 0 = λ l z. LastIs g.R.Recorder.log l e z in
    subst (λ l. P l (g.H.Host.held c.room_for_first.new.host)) (sym face) (subst (P (g.H.Host.face c.args.host.now).level) (sym c.room_for_first.ensures.same) (c.pause.ensures.last e c.requires.passed))
